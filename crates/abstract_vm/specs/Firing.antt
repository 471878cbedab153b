-- What firing does to a world.
use Rattle.std.specs.Prelude.{◌≡◌, ◌⊎◌}
use Rattle.std.specs.List.{Contains}
use Rattle.world_rules.specs.Places.{Point}
use Rattle.world_rules.specs.Sources.{Source}
use Rattle.world_rules.specs.Items.{Item}
use Rattle.world_rules.specs.Rules.{GivesAt, IsContained}
use Rattle.abstract_vm.specs.Worlds.{WorldState, items_in, IsWorldOf}

-- an item more than there was
pub record HasNewItem (old new : WorldState) : Type 0 where
  pub item : Item
  pub is : Contains (items_in new) item
  pub fresh : Contains (items_in old) item → ⊥

-- it is a world still that has all that it had, each new item is given by a rule of the point, and points, variables, edges and contexts are those that there were
pub record IsFired (s : Source) (p : Point) (old new : WorldState) : Type 0 where
  pub world : IsWorldOf s new
  pub contained : IsContained (items_in old) (items_in new)
  pub given : (i : Item) → Contains (items_in new) i → Contains (items_in old) i ⊎ GivesAt s (items_in new) p i
  pub flow : new.rows.graph.flow ≡ old.rows.graph.flow
  pub points : new.rows.points ≡ old.rows.points
  pub variables : new.rows.variables ≡ old.rows.variables
  pub budget : new.solver.budget ≡ old.solver.budget
  pub library : new.library ≡ old.library
