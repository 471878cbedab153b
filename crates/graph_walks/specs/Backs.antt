-- The states that a query is explained by, going backwards: a state is a point and what is wanted there.
use Rattle.std.specs.List.{All, AllPairs, Contains}
use Rattle.std.specs.Prelude.{◌≡◌, ◌≢◌, ℕ, ◌+◌, Option, Some, None, List, length, IsTrue, ◌⊎◌, ◌↔◌}
use Rattle.graph_walks.specs.Worlds.{Memory, nothing, Ask, Edge, World, PassesBy, HasFact, assigned, FactGives, AllGiven}
use Rattle.graph_walks.specs.Walks.{Visible}

-- the pairs wanted before an edge: those wanted after it but for the assigned variable's, the source set's, and the asked pair
pub data Wanted {V S : Type 0} (target : Option V) (goals source : Memory V S) (asked : Option (V × S)) (v : V) (s : S) : Type 0 where
  still : target ≢ Some v → goals v ≡ Some s → Wanted target goals source asked v s
  by_source : source v ≡ Some s → Wanted target goals source asked v s
  by_ask : asked ≡ Some (v, s) → Wanted target goals source asked v s

module _ {P V S : Type 0} (w : World P V S) where
  -- what explains the shape that is wanted of the assigned variable: the source set of one fact at the point, or nothing where none is wanted
  pub data Explains (target : Option V) (point : P) (goals : Memory V S) : Memory V S → Type 0 where
    unwanted : ((v : V) → target ≡ Some v → goals v ≡ None) → Explains target point goals nothing
    by_fact : (v : V) (s : S) → target ≡ Some v → goals v ≡ Some s → (source : Memory V S) → HasFact w point s source → Explains target point goals source

  -- the pair that an edge asks for: a shape that passes, among those that some fact gives the variable
  pub data Asks : Option (Ask V S) → Option (V × S) → Type 0 where
    unasked : Asks None None
    asked : (a : Ask V S) (s : S) → PassesBy w.truth a.test s → FactGives w a.var s → Asks (Some a) (Some (a.var, s))

  -- (e.from, before) is a back state of (e.to, goals) over the edge e. There is none where two shapes are wanted of one variable
  pub record BackState (e : Edge P V S) (goals before : Memory V S) : Type 0 where
    pub edge : Contains w.edges e
    pub source : Memory V S
    pub explains : Explains (assigned w e) e.from goals source
    pub pair : Option (V × S)
    pub asks : Asks e.asks pair
    pub wanted : (v : V) (s : S) → before v ≡ Some s ↔ Wanted (assigned w e) goals source pair v s

  -- the query itself, and the back states of each state that is reached
  pub data Reached (point : P) (goals : Memory V S) : P → Memory V S → Type 0 where
    here : Reached point goals point goals
    back : {after before : Memory V S} (e : Edge P V S) → Reached point goals e.to after → BackState e after before → Reached point goals e.from before

  -- more than budget states are reached
  pub record Heavy (point : P) (goals : Memory V S) (budget : ℕ) : Type 0 where
    pub states : List (P × Memory V S)
    pub many : length states ≡ budget + 1
    pub apart : AllPairs (λ x y. x ≢ y) states
    pub reached : All (λ x. Reached point goals x.0 x.1) states

  pub record RootReached (point : P) (goals : Memory V S) : Type 0 where
    pub root : P
    pub is : IsTrue (w.root root)
    pub reached : Reached point goals root nothing

  -- visible, or heavy with each of its pairs given by some fact
  abbrev pub Seen : P → Memory V S → ℕ → Type 0
  Seen point goals budget = Visible w point goals ⊎ (Heavy point goals budget × AllGiven w goals)
