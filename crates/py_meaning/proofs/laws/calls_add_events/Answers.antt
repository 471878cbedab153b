use Rattle.py_meaning.proofs.Endings
use Rattle.py_meaning.proofs.laws.calls_add_events.Goals as goal

pub returns : goal.returns
returns c = Endings.calls_add_events
