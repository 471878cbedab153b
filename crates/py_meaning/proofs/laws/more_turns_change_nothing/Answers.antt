use Rattle.py_meaning.proofs.More
use Rattle.py_meaning.proofs.laws.more_turns_change_nothing.Goals as goal

pub returns : goal.returns
returns c = More.more_turns_change_nothing
