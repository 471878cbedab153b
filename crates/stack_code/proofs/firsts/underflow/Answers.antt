use Rattle.std.proofs.Common.{◌<◌, length, None, refl, ap, arith, below_more, get_or}
use Rattle.std.proofs.lemmas.Option.{slice_get-get_or}
use Rattle.stack_code.specs.Validity.{Underflows}
use Rattle.stack_code.proofs.FirstBreaks.{slots_not, slots_suffice, op_stands}
use Rattle.stack_code.proofs.firsts.underflow.Goals as goal

pub loop-place-preserved : goal.loop-place-preserved
loop-place-preserved c =
    let within : c.loop-place.place < length c.args.code.now.ops = omega (arith, ap length c.as_slice-ops.ensures) in
    below_more (λ other. Underflows c.args.code.now other → ⊥) _ c.loop-place.invariant
    (slots_not c.args.code.now c.args.depths.now c.requires.depths c.loop-place.place c.index-ops-place.result (get_or c.args.depths.now c.loop-place.place None)
    (op_stands c.args.code.now c.as_slice-ops.result.now c.loop-place.place c.index-ops-place.result c.as_slice-ops.ensures within c.index-ops-place.is)
    (slice_get-get_or c.args.depths.now c.loop-place.place None (omega (arith, within, c.requires.depths.size)))
    (λ slots is. c.if-finds_few.ensures.no refl slots is))

pub returns-clause-none : goal.returns-clause-none
returns-clause-none c = λ _. slots_suffice c.args.code.now (λ other l. c.loop-place.invariant other (omega (arith, ap length c.as_slice-ops.ensures)))
