-- A world that has all of another world, and maybe more.
use Rattle.std.specs.List.{Contains}
use Rattle.std.specs.Prelude.{◌≡◌, Some, IsTrue}
use Rattle.graph_walks.specs.Worlds.{Truth, Edge, Fact, World}

module _ {P V S : Type 0} where
  -- Each edge and fact of old is one of new. The points and shapes of old are as they were in new; where an edge or a fact stands, that point has kept its target.
  pub record IsWithin (old new : World P V S) : Type 0 where
    pub edges : (e : Edge P V S) → Contains old.edges e → Contains new.edges e
    pub facts : (f : Fact P V S) → Contains old.facts f → Contains new.facts f
    pub edge_targets : (e : Edge P V S) → Contains old.edges e → old.target e.from ≡ new.target e.from
    pub fact_targets : (f : Fact P V S) → Contains old.facts f → old.target f.point ≡ new.target f.point
    pub roots : (p : P) → IsTrue (old.root p) → IsTrue (new.root p)
    pub truths : (s : S) (t : Truth) → old.truth s ≡ Some t → new.truth s ≡ Some t
