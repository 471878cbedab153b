use Rattle.py_meaning.proofs.Raising
use Rattle.py_meaning.proofs.laws.raises_take_a_choice.Goals as goal

pub returns : goal.returns
returns c = Raising.raises_take_a_choice
