-- What a round over the points of a world leaves, where nothing is added in it.
use Rattle.std.specs.Prelude.{List}
use Rattle.std.specs.List.{Contains}
use Rattle.world_rules.specs.Places.{Point}
use Rattle.world_rules.specs.Sources.{Source}
use Rattle.world_rules.specs.Items.{Item}
use Rattle.world_rules.specs.Rules.{IsContained, GivesAt}

-- when it was the point's turn no item of these was missing, and what its rules gave then is among them
pub record WasQuiet (s : Source) (items : List Item) (p : Point) : Type 0 where
  pub before : List Item
  pub had_all : IsContained items before
  pub given : (i : Item) → GivesAt s before p i → Contains items i
