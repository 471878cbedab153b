use Rattle.py_tokens.proofs.NameNumbers
use Rattle.py_tokens.proofs.laws.names_are_numbered.Goals as goal

pub returns : goal.returns
returns c = NameNumbers.names_are_numbered
