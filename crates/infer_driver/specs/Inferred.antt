-- What is inferred of a program.
use Rattle.std.specs.Prelude.{◌≤◌, length}
use Rattle.type_terms.specs.Stubs.{stub_view}
use Rattle.world_rules.specs.Sources.{Source}
use Rattle.world_rules.specs.Rules.{IsLeast}
use Rattle.abstract_vm.specs.Worlds.{WorldState, items_in, most_items, IsWorldOf}
use Rattle.infer_driver.specs.declared.driver.Inferred.{Inferred}
use Rattle.infer_driver.specs.declared.settings.Settings.{Settings}
use Rattle.infer_driver.specs.Sources.{HasSettings}
use Rattle.infer_driver.specs.Telling.{Tells}

-- it holds the least world of its source, of at most so many items, under the settings
pub record IsLeastWorld (s : Source) (settings : Settings) (w : WorldState) : Type 0 where
  pub least : IsLeast s (items_in w)
  pub world : IsWorldOf s w
  pub few : length (items_in w) ≤ most_items
  pub settings_are : HasSettings settings w

-- the least world, and all that it tells
pub record IsInferred (s : Source) (settings : Settings) (r : Inferred) : Type 0 where
  pub tells : Tells s (items_in r.world) (stub_view r.stub) r.findings r.unchecked r.heavy
  pub world : IsWorldOf s r.world
  pub settings_are : HasSettings settings r.world
