-- What a search has met, and what it shows.
use Rattle.std.specs.Prelude.{◌≡◌, ℕ, ◌+◌, ◌<◌, ◌≤◌, Bool, false, Some, List, [], ◌∷◌, ◌⊎◌, length, map, slice_get, IsTrue}
use Rattle.std.specs.List.{Contains}
use Rattle.graph_walks.specs.Worlds.{Memory, nothing}
use Rattle.graph_walks.specs.Walks.{Visible}
use Rattle.typegraph.specs.Graphs.{GraphTables}
use Rattle.graph_walks.specs.Worlds as worlds
use Rattle.graph_walks.specs.Backs.{BackState}
use Rattle.typegraph.specs.Maps.{look}
use Rattle.goal_solver.specs.declared.state.State.{State}
use Rattle.goal_solver.specs.declared.search.Search.{Search}
use Rattle.goal_solver.specs.Graphs.{world_of}
use Rattle.goal_solver.specs.States.{state_of, IsMet, AreApart}

-- the state is entered, or noted
abbrev pub IsKnown : Search → ℕ × Memory ℕ ℕ → Type 0
IsKnown s z = Contains (map state_of s.states) z ⊎ Contains (map state_of s.noted) z

-- a state that was entered now: one of those that are met, which waits for its back states
pub record IsFresh (P : State → Type 0) (s : Search) (place : ℕ) (x : State) : Type 0 where
  pub is : P x
  pub waits : Contains s.waiting.items place
  pub parent : slice_get s.parents.items place ≡ Some s.parent

-- some of the states P were entered or, where they are in the list, noted; all else is as it was
pub record IsExtended (list : List State) (P : State → Type 0) (old new : Search) : Type 0 where
  pub states : (place : ℕ) (x : State) → slice_get old.states place ≡ Some x → slice_get new.states place ≡ Some x
  pub parents : (place parent : ℕ) → slice_get old.parents.items place ≡ Some parent → slice_get new.parents.items place ≡ Some parent
  pub waiting : (place : ℕ) → Contains old.waiting.items place → Contains new.waiting.items place
  pub noted : (x : State) → Contains old.noted x → Contains new.noted x
  pub new_states : (place : ℕ) (x : State) → slice_get new.states place ≡ Some x → (slice_get old.states place ≡ Some x) ⊎ IsFresh P new place x
  pub new_waiting : (place : ℕ) → Contains new.waiting.items place → Contains old.waiting.items place ⊎ (place < length new.states)
  pub new_noted : (x : State) → Contains new.noted x → Contains old.noted x ⊎ (P x × IsMet list x × IsTrue old.uses_list)
  pub count : length new.waiting.items + length old.states ≡ length old.waiting.items + length new.states
  pub even : length old.parents.items ≡ length old.states → length new.parents.items ≡ length new.states
  pub parent : new.parent ≡ old.parent
  pub limit : new.limit ≡ old.limit
  pub uses_list : new.uses_list ≡ old.uses_list

-- the search has more states than its limit
pub record IsFull (s : Search) : Type 0 where
  pub many : s.limit < length s.states
  pub apart : AreApart s.states

-- each back state of the state is known
abbrev pub AreBacksKnown : GraphTables → State → Search → Type 0
AreBacksKnown g x s = (e : worlds.Edge ℕ ℕ ℕ) (before : Memory ℕ ℕ) → e.to ≡ x.point → BackState (world_of g) e (look x.goals) before → IsKnown s (e.from, before)

abbrev pub AreKnown : (State → Type 0) → Search → Type 0
AreKnown P s = (x : State) → P x → IsKnown s (state_of x)

-- the query is met, and nothing else
pub record IsBegun (query : State) (limit : ℕ) (uses_list : Bool) (s : Search) : Type 0 where
  pub states : s.states ≡ query ∷ []
  pub parents : s.parents.items ≡ 0 ∷ []
  pub waiting : s.waiting.items ≡ 0 ∷ []
  pub noted : s.noted ≡ []
  pub limit_is : s.limit ≡ limit
  pub uses_is : s.uses_list ≡ uses_list

-- from a place, from each place to its parent's, as far as the query's
pub data IsOnWay (parents : List ℕ) (place : ℕ) : ℕ → Type 0 where
  here : IsOnWay parents place place
  back : (child parent : ℕ) → IsOnWay parents place child → 0 < child → slice_get parents child ≡ Some parent → IsOnWay parents place parent

-- a state of the set stands at a place on the way
pub record IsOfWay (s : Search) (place : ℕ) (x : State) : Type 0 where
  pub at : ℕ
  pub on : IsOnWay s.parents.items place at
  pub state : State
  pub stands : slice_get s.states at ≡ Some state
  pub same : state_of x ≡ state_of state

-- states on the way from a place, the query among them
pub record IsWayBack (s : Search) (place : ℕ) (way : List State) : Type 0 where
  pub each : (x : State) → Contains way x → IsOfWay s place x
  pub query : (x : State) → slice_get s.states 0 ≡ Some x → IsMet way x

-- a root, and nothing is wanted there
abbrev pub IsRootState : GraphTables → State → Type 0
IsRootState g x = IsTrue ((world_of g).root x.point) × (look x.goals ≡ nothing)

-- the list was left: what was noted is entered
pub record IsLeft (old new : Search) : Type 0 where
  pub extended : IsExtended [] (IsMet old.noted) (record old { uses_list = false }) new
  pub met : (x : State) → Contains old.noted x → IsMet new.states x

-- nothing has changed, or the list was left; where it is used there is room for all states
pub record IsRoomMade (room : ℕ) (old new : Search) : Type 0 where
  pub is : (new ≡ old) ⊎ (IsTrue old.uses_list × IsLeft old new)
  pub fits : IsTrue new.uses_list → length new.states ≤ room

-- each back state of a state of the list is in it
pub record IsClosed (g : GraphTables) (states : List State) : Type 0 where
  pub backs : (e : worlds.Edge ℕ ℕ ℕ) (after before : Memory ℕ ℕ) → Contains (map state_of states) (e.to, after) → BackState (world_of g) e after before → Contains (map state_of states) (e.from, before)

abbrev pub AreVisible : GraphTables → List State → Type 0
AreVisible g states = (x : State) → Contains states x → Visible (world_of g) x.point (look x.goals)

abbrev pub HaveNoRoot : GraphTables → List State → Type 0
HaveNoRoot g states = (x : State) → Contains states x → IsRootState g x → ⊥

-- a closed list with the query, of at most budget states
pub record IsWhole (g : GraphTables) (query : State) (budget : ℕ) (states : List State) : Type 0 where
  pub has : IsMet states query
  pub closed : IsClosed g states
  pub few : length states ≤ budget
