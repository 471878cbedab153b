use Rattle.goal_solver.proofs.Memory.{grown_value}
use Rattle.goal_solver.proofs.solver.Solver.grown.Goals as goal

pub returns : goal.returns
returns c = grown_value _ _ _ _ _ _ _ c.self.view_is (cc) (cc)
