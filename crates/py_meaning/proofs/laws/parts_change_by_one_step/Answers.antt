use Rattle.py_meaning.proofs.Heads
use Rattle.py_meaning.proofs.laws.parts_change_by_one_step.Goals as goal

pub returns : goal.returns
returns c = Heads.parts_change_by_one_step
