-- What a world is made of.
use Rattle.std.specs.Prelude.{ℕ, Bool, List}
use Rattle.type_terms.specs.Stubs.{Stub}
use Rattle.scope_rules.specs.Scoped.{Scoped}
use Rattle.tree_code.specs.Programs.{Program}

-- a program, what its names stand for, the stubs with the names of their modules, and the settings: how long a chain of calls gets, how many states a query may reach, and whether every function is entered from outside
pub record Source : Type 0 where
  pub program : Program
  pub scopes : Scoped
  pub stubs : List (List ℕ × Stub)
  pub depth : ℕ
  pub budget : ℕ
  pub library : Bool
