-- The line of a point, by its spot.
use Rattle.std.specs.Prelude.{ℕ, Option, slice_get}
use Rattle.std.specs.Option.{option_and_then}
use Rattle.program_tables.specs.Programs.{Compiled}
use Rattle.world_rules.specs.Places.{code_for}
use Rattle.abstract_vm.specs.declared.spot.Spot.{Spot}

abbrev pub line_by : Compiled → Spot → Option ℕ
line_by compiled spot = option_and_then (λ code. slice_get code.lines spot.place) (code_for compiled.program spot.fun)
