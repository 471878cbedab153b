use Rattle.py_meaning.proofs.Heads
use Rattle.py_meaning.proofs.laws.objects_stay.Goals as goal

pub returns : goal.returns
returns c = Heads.objects_stay
