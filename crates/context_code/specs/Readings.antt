-- What the instruction at a point reads.
use Rattle.std.specs.Prelude.{ℕ, Option, Some, None, List, []}
use Rattle.stack_code.specs.declared.op.Op.{Op}
use Rattle.program_tables.specs.Programs.{Compiled}
use Rattle.world_rules.specs.declared.transfer.SeatReading.{SeatReading}
use Rattle.world_rules.specs.Places.{Context, op_at, thread_of}
use Rattle.world_rules.specs.Readings.{readings}
use Rattle.world_tables.specs.declared.spot.PointSpot.{PointSpot}
use Rattle.world_tables.specs.Rows.{the_context}

-- the readings of an instruction of a context, if there is one
abbrev pub readings_by : Compiled → Context → (depth : ℕ) → Option Op → List SeatReading
readings_by compiled c depth None = []
readings_by compiled c depth (Some o) = readings compiled.program compiled.scopes (thread_of c) depth o

abbrev pub readings_of : Compiled → List Context → PointSpot → List SeatReading
readings_of compiled contexts spot =
    readings_by compiled (the_context contexts spot.context) spot.depth (op_at compiled.program (the_context contexts spot.context) spot.place)
