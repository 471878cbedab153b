-- What a program's world is made of.
use Rattle.std.specs.Prelude.{◌≡◌, ℕ, List}
use Rattle.type_terms.specs.Stubs.{Stub}
use Rattle.program_tables.specs.Programs.{Compiled}
use Rattle.world_rules.specs.Sources.{Source}
use Rattle.abstract_vm.specs.Worlds.{WorldState}
use Rattle.infer_driver.specs.declared.settings.Settings.{Settings}

-- a program with the given stubs and the settings
abbrev pub source_by : Compiled → List (List ℕ × Stub) → Settings → Source
source_by compiled stubs settings =
    record {
      program = compiled.program;
      scopes = compiled.scopes;
      stubs = stubs;
      depth = settings.depth;
      budget = settings.budget;
      library = settings.library;
    }

-- the world has the budget of the settings, and enters functions as they say
pub record HasSettings (settings : Settings) (w : WorldState) : Type 0 where
  pub budget : w.solver.budget ≡ settings.budget
  pub library : w.library ≡ settings.library
