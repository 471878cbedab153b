use Rattle.py_meaning.proofs.More
use Rattle.py_meaning.proofs.laws.nesting_is_enough.Goals as goal

pub returns : goal.returns
returns c = More.nesting_is_enough
