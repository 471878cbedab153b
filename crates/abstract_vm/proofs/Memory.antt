-- What a solver remembers over several calls.
use Rattle.std.proofs.Common.{◌∙◌}
use Rattle.typegraph.specs.Graphs.{GraphTables}
use Rattle.goal_solver.specs.Memos.{SolverState}
use Rattle.goal_solver.specs.Answers.{IsKept}

pub kept_on : (g : GraphTables) (s t u : SolverState) → IsKept g s t → IsKept g t u → IsKept g s u
kept_on g s t u h k = record { sound = k.sound; kept = λ p m y r. k.kept p m y (h.kept p m y r); budget = k.budget ∙ h.budget }
