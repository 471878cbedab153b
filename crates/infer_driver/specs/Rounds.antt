-- What firing many points does to a world.
use Rattle.std.specs.Prelude.{◌≡◌, List}
use Rattle.std.specs.List.{Contains}
use Rattle.world_rules.specs.Places.{Point, main}
use Rattle.world_rules.specs.Sources.{Source}
use Rattle.world_rules.specs.Items.{Item}
use Rattle.world_rules.specs.Rules.{GivesAt, IsContained}
use Rattle.world_tables.specs.Rows.{tables_of}
use Rattle.abstract_vm.specs.Worlds.{WorldState, items_in, IsWorldOf}

-- it is a world still that has all that it had, and its points and settings are those that it had
pub record IsGrown (s : Source) (old new : WorldState) : Type 0 where
  pub world : IsWorldOf s new
  pub contained : IsContained (items_in old) (items_in new)
  pub flow : new.rows.graph.flow ≡ old.rows.graph.flow
  pub points : new.rows.points ≡ old.rows.points
  pub budget : new.solver.budget ≡ old.solver.budget
  pub library : new.library ≡ old.library

-- no rule of a point gives an item that isn't there
pub record IsQuiet (s : Source) (w : WorldState) : Type 0 where
  pub at : (p : Point) (i : Item) → Contains (tables_of w.rows).points p → GivesAt s (items_in w) p i → Contains (items_in w) i

-- the module's own context is there
abbrev pub HasMain : WorldState → Type 0
HasMain w = Contains (tables_of w.rows).contexts main
