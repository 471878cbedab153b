-- What the solver answers of a state, and what it remembers then.
use Rattle.std.specs.Prelude.{◌≡◌, ◌↔◌, ℕ, Bool, true, false, Option, Some, None, ◌⊎◌, IsTrue}
use Rattle.graph_walks.specs.Worlds.{Memory}
use Rattle.graph_walks.specs.Walks.{Visible}
use Rattle.graph_walks.specs.Backs.{Reached, Heavy}
use Rattle.typegraph.specs.Graphs.{GraphTables}
use Rattle.goal_solver.specs.declared.solver.Answer.{Answer}
use Rattle.goal_solver.specs.declared.solver.Answer.TheVariants.{Yes, No, Spent}
use Rattle.goal_solver.specs.Graphs.{world_of}
use Rattle.goal_solver.specs.Memos.{SolverState, Remembers, IsLight, IsSound}

-- the answer that is remembered of the state, or that none is
abbrev pub IsKnownAs : SolverState → ℕ → Memory ℕ ℕ → Option Answer → Type 0
IsKnownAs s point goals None = (yes : Bool) → Remembers s point goals yes → ⊥
IsKnownAs s point goals (Some Yes) = Remembers s point goals true
IsKnownAs s point goals (Some No) = Remembers s point goals false
IsKnownAs s point goals (Some Spent) = ⊥

-- the memo is right after the call too, and has all that it had
pub record IsKept (g : GraphTables) (s t : SolverState) : Type 0 where
  pub sound : IsSound t g
  pub kept : (point : ℕ) (goals : Memory ℕ ℕ) (yes : Bool) → Remembers s point goals yes → Remembers t point goals yes
  pub budget : t.budget ≡ s.budget

-- the answer is right, and remembered
pub record IsAnswered (g : GraphTables) (point : ℕ) (goals : Memory ℕ ℕ) (old new : SolverState) (answer : Answer) : Type 0 where
  pub no : answer ≡ No ↔ ((Visible (world_of g) point goals → ⊥) × (Heavy (world_of g) point goals old.budget → ⊥))
  pub yes : answer ≡ Yes → Visible (world_of g) point goals
  pub spent : answer ≡ Spent → Heavy (world_of g) point goals old.budget
  pub after_yes : answer ≡ Yes → Remembers new point goals true
  pub after_no : answer ≡ No → (at : ℕ) (wanted : Memory ℕ ℕ) → Reached (world_of g) point goals at wanted → Remembers new at wanted false
  pub light : new.light ≡ old.light
  pub memo : IsKept g old new

-- what is said of more states than the budget is right, and remembered where they are not more
pub record IsWeighed (g : GraphTables) (point : ℕ) (goals : Memory ℕ ℕ) (old new : SolverState) (heavy : Bool) : Type 0 where
  pub exact : IsTrue heavy ↔ Heavy (world_of g) point goals old.budget
  pub after_false : heavy ≡ false → IsLight new point goals ⊎ Remembers new point goals false
  pub memo : IsKept g old new
