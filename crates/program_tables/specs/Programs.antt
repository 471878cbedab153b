-- What contracts see of a program.
use Rattle.std.specs.Prelude.{ℕ, List}
use Rattle.scope_rules.specs.Scoped.{Scoped}
use Rattle.tree_code.specs.Programs.{Program}

-- its codes and tables, the scopes of its names, and the name of each class
pub record Compiled : Type 0 where
  pub program : Program
  pub scopes : Scoped
  pub class_names : List ℕ
