use Rattle.py_descent.proofs.Modules
use Rattle.py_descent.proofs.laws.descent_is_sound.Goals as goal

pub returns : goal.returns
returns c = Modules.descent_is_sound
