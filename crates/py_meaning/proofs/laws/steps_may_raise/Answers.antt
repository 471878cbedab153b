use Rattle.py_meaning.proofs.Raising
use Rattle.py_meaning.proofs.laws.steps_may_raise.Goals as goal

pub returns : goal.returns
returns c = Raising.steps_may_raise
