-- Walks: a step along an edge may forget pairs of the memory, and never invents one.
use Rattle.std.specs.List.{Contains}
use Rattle.std.specs.Prelude.{◌≡◌, ◌≢◌, Option, Some, None, IsTrue}
use Rattle.graph_walks.specs.Worlds.{Memory, nothing, Within, Ask, Edge, World, PassesBy, HasFact, assigned}

module _ {P V S : Type 0} (w : World P V S) where
  -- the variable that is asked has a shape that passes
  pub data Answers : Option (Ask V S) → Memory V S → Type 0 where
    unasked : {m : Memory V S} → Answers None m
    passes : {a : Ask V S} {m : Memory V S} (s : S) → m a.var ≡ Some s → PassesBy w.truth a.test s → Answers (Some a) m

  -- where a pair of the memory after the edge is from: the memory m before, or a fact whose source set m holds
  pub data Comes (e : Edge P V S) (m : Memory V S) (v : V) (s : S) : Type 0 where
    kept : assigned w e ≢ Some v → m v ≡ Some s → Comes e m v s
    made : assigned w e ≡ Some v → (source : Memory V S) → HasFact w e.from s source → Within source m → Comes e m v s

  pub record Step (e : Edge P V S) (before after : Memory V S) : Type 0 where
    pub edge : Contains w.edges e
    pub answers : Answers e.asks before
    pub comes : (v : V) (s : S) → after v ≡ Some s → Comes e before v s

  -- a walk from a root to a point, with the memory that it ends with
  pub data Walk : P → Memory V S → Type 0 where
    start : {p : P} → IsTrue (w.root p) → Walk p nothing
    step : {before after : Memory V S} (e : Edge P V S) → Walk e.from before → Step e before after → Walk e.to after

  -- some walk to the point ends with a memory that holds the goals
  pub record Visible (point : P) (goals : Memory V S) : Type 0 where
    pub memory : Memory V S
    pub walk : Walk point memory
    pub holds : Within goals memory
