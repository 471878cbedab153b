use Rattle.std.proofs.Common.{◌≡◌, ℕ, ◌<◌, Some, None, Option, List, length, slice_get, refl, sym, ap, ◌∙◌}
use Rattle.std.specs.Option.{option_and_then, IfSome}
use Rattle.world_rules.specs.Places.{returned}
use Rattle.world_tables.specs.declared.spot.PointSpot.{PointSpot}
use Rattle.world_tables.specs.Rows.{contexts_of}
use Rattle.context_code.specs.Calls.{pushed_at}
use Rattle.context_code.proofs.Contexts.{returned_by_row, call_there, no_row}
use Rattle.context_code.proofs.targets.call_of.Goals as goal

-- the call of a row, which has one or not
called : (points : List PointSpot) (call : Option ℕ) (k : ℕ) → call ≡ Some k → option_and_then (λ c. slice_get points c) call ≡ slice_get points k
called points call k e = ap (option_and_then (λ c. slice_get points c)) e

uncalled : (points : List PointSpot) (call : Option ℕ) → call ≡ None → option_and_then (λ c. slice_get points c) call ≡ None
uncalled points call e = ap (option_and_then (λ c. slice_get points c)) e

there_if : (count : ℕ) (found : Option PointSpot) → ((spot : PointSpot) → found ≡ Some spot → spot.context < count) → IfSome found (λ spot. spot.context < count)
there_if count None h = tt
there_if count (Some spot) h = h spot refl

pub returns-in-Some-call-clause-stands : goal.returns-in-Some-call-clause-stands
returns-in-Some-call-clause-stands c = λ program.
    returned_by_row c.args.tables.now c.in-Some.ensures.kept c.args.context program c.in-Some.row (sym c.in-Some.ensures.row)
    ∙ ap (option_and_then (pushed_at program (contexts_of c.args.tables.now))) (called c.args.tables.now.points c.in-Some.row.call c.in-Some-call.call c.in-Some-call.is ∙ sym c.point_spot.ensures)

pub returns-in-Some-call-clause-there : goal.returns-in-Some-call-clause-there
returns-in-Some-call-clause-there c = λ h.
    there_if (length c.args.tables.now.graph.flow.contexts) c.point_spot.result (λ spot e.
    call_there c.args.tables.now c.in-Some.ensures.kept c.args.context c.in-Some.row c.in-Some-call.call spot (sym c.in-Some.ensures.row) c.in-Some-call.is (sym c.point_spot.ensures ∙ e))

pub returns-in-None-call-clause-stands : goal.returns-in-None-call-clause-stands
returns-in-None-call-clause-stands c = λ program.
    returned_by_row c.args.tables.now c.in-Some.ensures.kept c.args.context program c.in-Some.row (sym c.in-Some.ensures.row)
    ∙ ap (option_and_then (pushed_at program (contexts_of c.args.tables.now))) (uncalled c.args.tables.now.points c.in-Some.row.call c.in-None-call.is)

pub returns-in-None-clause-stands : goal.returns-in-None-clause-stands
returns-in-None-clause-stands c = λ program.
    ap (returned program) (no_row c.args.tables.now c.in-None.ensures.kept c.args.context (sym c.in-None.ensures.row))
