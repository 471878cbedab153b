use Rattle.std.proofs.Common.{◌<◌, length, refl, ap, arith, below_more}
use Rattle.stack_code.specs.Validity.{JumpsOut}
use Rattle.stack_code.proofs.FirstBreaks.{jumps_not, jumps_stay, op_stands}
use Rattle.stack_code.proofs.firsts.jump_out.Goals as goal

pub loop-place-preserved : goal.loop-place-preserved
loop-place-preserved c =
    let within : c.loop-place.place < length c.args.code.now.ops = omega (arith, ap length c.as_slice-ops.ensures) in
    below_more (λ other. JumpsOut c.args.code.now other → ⊥) _ c.loop-place.invariant
    (jumps_not c.args.code.now c.loop-place.place c.index-ops-place.result (op_stands c.args.code.now c.as_slice-ops.result.now c.loop-place.place c.index-ops-place.result c.as_slice-ops.ensures within c.index-ops-place.is)
    (λ jump is. omega (arith, c.if-leaves.ensures.no refl jump is, ap length c.as_slice-ops.ensures)))

pub returns-clause-none : goal.returns-clause-none
returns-clause-none c = λ _. jumps_stay c.args.code.now (λ other l. c.loop-place.invariant other (omega (arith, ap length c.as_slice-ops.ensures)))
