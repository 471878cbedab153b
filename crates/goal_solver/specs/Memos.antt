-- What a solver remembers: the answers of states, and states that are not heavy.
use Rattle.std.specs.Prelude.{◌≡◌, ℕ, ◌+◌, ◌-◌, ◌≤◌, Bool, true, false, List, [], ◌∷◌}
use Rattle.std.specs.List.{Contains, filter}
use Rattle.graph_walks.specs.Worlds as worlds
use Rattle.graph_walks.specs.Worlds.{Memory}
use Rattle.graph_walks.specs.Walks.{Visible}
use Rattle.graph_walks.specs.Backs.{BackState, Heavy}
use Rattle.typegraph.specs.declared.goals.Binding.{Binding}
use Rattle.typegraph.specs.Maps.{look}
use Rattle.typegraph.specs.Graphs.{GraphTables}
use Rattle.goal_solver.specs.Graphs.{world_of}

-- the states of the points from low to high with this map, and whether their answer was Yes or No
pub record Remembered : Type 0 where
  pub low : ℕ
  pub high : ℕ
  pub goals : List Binding
  pub yes : Bool

-- the states of the points from low to high with this map
pub record Stretch : Type 0 where
  pub low : ℕ
  pub high : ℕ
  pub goals : List Binding

-- the memo is a map from states, each a point and what is wanted there, to answers, as the list of its entries; the light states are not heavy, and may be visible
pub record SolverState : Type 0 where
  pub budget : ℕ
  pub memo : List Remembered
  pub light : List Stretch

pub record Remembers (s : SolverState) (point : ℕ) (goals : Memory ℕ ℕ) (yes : Bool) : Type 0 where
  pub entry : Remembered
  pub is : Contains s.memo entry
  pub low_is : entry.low ≤ point
  pub high_is : point ≤ entry.high
  pub goals_is : look entry.goals ≡ goals
  pub yes_is : entry.yes ≡ yes

pub record IsLight (s : SolverState) (point : ℕ) (goals : Memory ℕ ℕ) : Type 0 where
  pub stretch : Stretch
  pub is : Contains s.light stretch
  pub low_is : stretch.low ≤ point
  pub high_is : point ≤ stretch.high
  pub goals_is : look stretch.goals ≡ goals

-- how many states the stretches have
abbrev pub state_count : List Stretch → ℕ
state_count [] = 0
state_count (x ∷ xs) = x.high + 1 - x.low + state_count xs

-- Each Yes is visible in the graph, and each No is neither visible nor heavy. The back states of a No are remembered as No.
-- The light states are at most budget many, and their back states are light too.
pub record IsSound (s : SolverState) (g : GraphTables) : Type 0 where
  pub yes : (point : ℕ) (goals : Memory ℕ ℕ) → Remembers s point goals true → Visible (world_of g) point goals
  pub no : (point : ℕ) (goals : Memory ℕ ℕ) → Remembers s point goals false → (Visible (world_of g) point goals → ⊥) × (Heavy (world_of g) point goals s.budget → ⊥)
  pub no_backs : (e : worlds.Edge ℕ ℕ ℕ) (after before : Memory ℕ ℕ) → Remembers s e.to after false → BackState (world_of g) e after before → Remembers s e.from before false
  pub light_backs : (e : worlds.Edge ℕ ℕ ℕ) (after before : Memory ℕ ℕ) → IsLight s e.to after → BackState (world_of g) e after before → IsLight s e.from before
  pub light_few : state_count s.light ≤ s.budget

-- each Yes is kept, each No dropped, and no state known as light
abbrev pub grown : SolverState → SolverState
grown s = record s { memo = filter (λ entry. entry.yes) s.memo; light = [] }
