-- What a call gives its value to.
use Rattle.std.specs.Prelude.{Option, List}
use Rattle.std.specs.Option.{option_and_then}
use Rattle.tree_code.specs.Programs.{Program}
use Rattle.world_rules.specs.Places.{Context, Variable, op_at, pushed}
use Rattle.world_tables.specs.declared.spot.PointSpot.{PointSpot}
use Rattle.world_tables.specs.Rows.{the_context}

-- the slot that the instruction at a spot pushes
abbrev pub pushed_at : Program → List Context → PointSpot → Option Variable
pushed_at program contexts spot =
    option_and_then (pushed (the_context contexts spot.context) spot.depth) (op_at program (the_context contexts spot.context) spot.place)
