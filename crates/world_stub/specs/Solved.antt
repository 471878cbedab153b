-- A world of which only what is remembered of answers is another.
use Rattle.std.specs.Prelude.{◌≡◌}
use Rattle.abstract_vm.specs.Worlds.{WorldState}

-- nothing but what is remembered of answers is another than before
pub record OnlySolved (old new : WorldState) : Type 0 where
  pub rows : new.rows ≡ old.rows
  pub budget : new.solver.budget ≡ old.solver.budget
  pub library : new.library ≡ old.library
