use Rattle.py_meaning.proofs.Endings
use Rattle.py_meaning.proofs.laws.choices_from_the_front.Goals as goal

pub returns : goal.returns
returns c = Endings.choices_from_the_front
