-- A memory with one variable's shape changed.
use Rattle.std.specs.Prelude.{Some, if◌then◌else◌}
use Rattle.graph_walks.specs.Worlds.{Memory}
use Rattle.abstract_shapes.specs.Shapes.{Shape}
use Rattle.world_rules.specs.Places.{Variable, same_variable}

abbrev pub updated : Memory Variable Shape → Variable → Shape → Memory Variable Shape
updated m x t y = if same_variable x y then Some t else m y
