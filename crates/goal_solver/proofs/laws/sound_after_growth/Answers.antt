-- A walk of the old graph is one of the new.
use Rattle.goal_solver.proofs.Memory.{sound_grown}
use Rattle.goal_solver.proofs.laws.sound_after_growth.Goals as goal

pub returns : goal.returns
returns c = λ s old new within sound. sound_grown s old new within sound
