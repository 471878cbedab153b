-- States, and sets of them.
use Rattle.std.specs.Prelude.{◌≡◌, ◌≢◌, ℕ, ◌+◌, ◌≤◌, Bool, true, false, List, [], ◌∷◌, ◌++◌, ◌⊎◌, map, length}
use Rattle.std.specs.List.{AllPairs, Contains}
use Rattle.graph_walks.specs.Worlds.{Memory}
use Rattle.typegraph.specs.Maps.{look, IsRising}
use Rattle.goal_solver.specs.declared.state.State.{State}

abbrev pub state_of : State → ℕ × Memory ℕ ℕ
state_of x = (x.point, look x.goals)

abbrev pub IsMet : List State → State → Type 0
IsMet states x = Contains (map state_of states) (state_of x)

abbrev pub AreApart : List State → Type 0
AreApart states = AllPairs (λ x y. x ≢ y) (map state_of states)

-- no state stands twice, and the goals of each are a map in order
pub record AreStates (states : List State) : Type 0 where
  pub apart : AreApart states
  pub rising : (x : State) → Contains states x → IsRising x.goals

-- the state was there before, or is put at the end
pub data IsAdded (old : List State) (x : State) (fresh : Bool) (new : List State) : Type 0 where
  was_there : IsMet old x → fresh ≡ false → new ≡ old → IsAdded old x fresh new
  put_last : (IsMet old x → ⊥) → fresh ≡ true → new ≡ old ++ x ∷ [] → IsAdded old x fresh new

-- the states of the one set and those of the other
pub record IsUnion (one other all : List State) : Type 0 where
  pub kept : (x : State) → Contains one x → Contains all x
  pub added : (x : State) → Contains other x → IsMet all x
  pub from : (x : State) → Contains all x → Contains one x ⊎ Contains other x
  pub few : length all ≤ length one + length other
