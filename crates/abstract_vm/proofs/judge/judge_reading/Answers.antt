use Rattle.std.proofs.Common.{◌≡◌, Some, Ok, IfSome, map, slice_get, ap, subst, ◌∙◌}
use Rattle.world_tables.specs.Rows.{contexts_of}
use Rattle.context_code.specs.Seats.{owned_spots, IsOneMissing}
use Rattle.abstract_vm.specs.Marks.{SaysToo}
use Rattle.abstract_vm.specs.Telling.{asked, ChoicesTell}
use Rattle.abstract_vm.specs.Asking.{tables_in, context_at}
use Rattle.abstract_vm.proofs.Saying.{on_ok}
use Rattle.abstract_vm.proofs.Reading.{with_vars, without_vars}
use Rattle.abstract_vm.proofs.judge.judge_reading.Goals as goal

pub returns-in-Some-clause-told : goal.returns-in-Some-clause-told
returns-in-Some-clause-told g c = λ s known.
    let seats : c.as_slice.result.now ≡ c.args.reading.now.seats = c.as_slice.ensures in
    on_ok c.judge_choices.result _ _
    (λ t. with_vars s c.args.judging.now c.args.solver.now.budget c.args.spot.now known c.graph-graph.ensures.kept c.args.reading.now c.requires.reading
    (λ op st. c.readings_fire_by_numbers.ensures.fires s (tables_in c.args.judging.now) known.tables.numbering c.args.judging.now.point (context_at c.args.judging.now c.args.spot.now) c.args.spot.now.place c.args.spot.now.depth op st c.args.reading.now)
    (λ op st. c.readings_fire_by_numbers.ensures.found s (tables_in c.args.judging.now) known.tables.numbering c.args.judging.now.point (context_at c.args.judging.now c.args.spot.now) c.args.spot.now.place c.args.spot.now.depth op st c.args.reading.now)
    (λ op st. c.readings_fire_by_numbers.ensures.reading s (tables_in c.args.judging.now) known.tables.numbering c.args.judging.now.point (context_at c.args.judging.now c.args.spot.now) c.args.spot.now.place c.args.spot.now.depth op st c.args.reading.now)
    (c.variables_have_numbers.ensures.once s (tables_in c.args.judging.now) known.tables.numbering)
    (c.spots_are_variables.ensures (contexts_of c.args.judging.now.tables.now) c.args.spot.now.context c.args.reading.now.seats)
    c.in-Some.vars
    (subst (λ xs. map (slice_get c.args.judging.now.tables.now.variables) c.in-Some.vars ≡ map Some (owned_spots c.args.spot.now.context xs)) seats
    (subst (λ o. IfSome o (λ vars. map (slice_get c.args.judging.now.tables.now.variables) vars ≡ map Some (owned_spots c.args.spot.now.context c.as_slice.result.now))) c.in-Some.is c.in_ok-vars.ensures.found))
    c.args.verdict.now c.judge_choices.new.verdict
    (subst (λ vars. SaysToo (ChoicesTell (asked c.args.judging.now c.args.solver.now.budget) c.args.reading.now.transfer vars) c.args.verdict.now c.judge_choices.new.verdict) c.as_slice-in-Some.ensures t))
    c.judge_choices.ensures.told

pub returns-in-None-clause-told : goal.returns-in-None-clause-told
returns-in-None-clause-told g c = λ s known.
    without_vars s c.args.judging.now c.args.solver.now.budget c.args.spot.now known c.graph-graph.ensures.kept c.args.reading.now c.requires.reading
    (λ op st. c.readings_fire_by_numbers.ensures.fires s (tables_in c.args.judging.now) known.tables.numbering c.args.judging.now.point (context_at c.args.judging.now c.args.spot.now) c.args.spot.now.place c.args.spot.now.depth op st c.args.reading.now)
    (λ op st. c.readings_fire_by_numbers.ensures.found s (tables_in c.args.judging.now) known.tables.numbering c.args.judging.now.point (context_at c.args.judging.now c.args.spot.now) c.args.spot.now.place c.args.spot.now.depth op st c.args.reading.now)
    (λ op st. c.readings_fire_by_numbers.ensures.reading s (tables_in c.args.judging.now) known.tables.numbering c.args.judging.now.point (context_at c.args.judging.now c.args.spot.now) c.args.spot.now.place c.args.spot.now.depth op st c.args.reading.now)
    (c.variables_have_numbers.ensures.once s (tables_in c.args.judging.now) known.tables.numbering)
    (c.spots_are_variables.ensures (contexts_of c.args.judging.now.tables.now) c.args.spot.now.context c.args.reading.now.seats)
    (subst (λ xs. IsOneMissing c.args.judging.now.tables.now.variables (owned_spots c.args.spot.now.context xs)) c.as_slice.ensures (c.vars_of.ensures.missing (c.in_ok-vars.was ∙ ap (λ o. Ok o) c.in-None.is)))
    c.args.verdict.now
