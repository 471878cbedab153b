-- What a compiled module tells.
use Rattle.std.specs.Prelude.{map}
use Rattle.py_tree.specs.Tree.{Module}
use Rattle.scope_rules.specs.Scoped.{Scoped}
use Rattle.program_tables.specs.Programs.{Compiled}
use Rattle.tree_code.specs.Programs.{program_of, class_row, classes}

abbrev pub compiled : Module → Scoped → Compiled
compiled m scopes = record { program = program_of m; scopes = scopes; class_names = map (λ c. (class_row c).name) (classes m.body) }
