use Rattle.py_meaning.proofs.Endings
use Rattle.py_meaning.proofs.laws.nothing_after_the_ending.Goals as goal

pub returns : goal.returns
returns c = Endings.nothing_after_the_ending
