-- The readings at a point are those of the rules.
use Rattle.std.proofs.Common.{◌≡◌, Some, List, sym, ap, ◌∙◌}
use Rattle.stack_code.specs.declared.op.Op.{Op}
use Rattle.program_tables.specs.Programs.{Compiled}
use Rattle.world_rules.specs.Places.{Context, op_at, thread_of}
use Rattle.world_rules.specs.Sources.{Source}
use Rattle.world_rules.specs.Readings.{readings}
use Rattle.world_rules.specs.Rules.{readings_at}
use Rattle.world_tables.specs.declared.spot.PointSpot.{PointSpot}
use Rattle.world_tables.specs.Rows.{the_context}
use Rattle.context_code.specs.Readings.{readings_by, readings_of}
use Rattle.context_code.specs.Sources.{IsSourceOf}

pub readings_are : (s : Source) (compiled : Compiled) → IsSourceOf s compiled → (contexts : List Context) (spot : PointSpot) (o : Op) → op_at compiled.program (the_context contexts spot.context) spot.place ≡ Some o →
    readings_of compiled contexts spot ≡ readings_at s (the_context contexts spot.context) spot.depth o
readings_are s compiled source contexts spot o is =
    ap (readings_by compiled (the_context contexts spot.context) spot.depth) is
    ∙ (ap (λ p. readings p compiled.scopes (thread_of (the_context contexts spot.context)) spot.depth o) (sym source.program)
    ∙ ap (λ n. readings s.program n (thread_of (the_context contexts spot.context)) spot.depth o) (sym source.scopes))
