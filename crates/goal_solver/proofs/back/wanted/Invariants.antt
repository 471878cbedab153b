use Rattle.std.proofs.Common.{◌≡◌, take, not}
use Rattle.std.specs.List.{filter}
use Rattle.goal_solver.specs.Backs.{is_var}
use Rattle.goal_solver.proofs.back.wanted.Given as goal

abbrev pub invariant-loop-goal : goal.invariant-loop-goal
invariant-loop-goal l = l.list.items ≡ filter (λ b. not (is_var l.target b.var)) (take l.goal-index l.goals)
