use Rattle.py_meaning.proofs.Heads
use Rattle.py_meaning.proofs.laws.calls_leave_frames.Goals as goal

pub returns : goal.returns
returns c = Heads.calls_leave_frames
