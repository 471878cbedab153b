use Rattle.py_meaning.proofs.Endings
use Rattle.py_meaning.proofs.laws.whole_is_no_truth.Goals as goal

pub returns : goal.returns
returns c = Endings.whole_is_no_truth
