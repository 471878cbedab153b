-- By induction on the steps of the scan.
use Rattle.py_tokens.proofs.Gaps as gaps
use Rattle.py_tokens.proofs.laws.only_separators_between.Goals as goal

pub returns : goal.returns
returns c = λ text tokens names reads. gaps.tokens_laid text tokens names reads
