use Rattle.goal_solver.proofs.Memory.{sound_new}
use Rattle.goal_solver.proofs.solver.Solver.new.Goals as goal

pub returns-clause-sound : goal.returns-clause-sound
returns-clause-sound c = λ graph. rw (c.new.ensures, c.new-2.ensures, c.new-3.ensures) (sound_new _ graph)
