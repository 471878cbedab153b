use Rattle.std.proofs.Common.{arith, ap, length}
use Rattle.stack_code.proofs.FirstBreaks.{ranges_lie_in}
use Rattle.stack_code.proofs.firsts.range_out.Goals as goal

pub returns-clause-none : goal.returns-clause-none
returns-clause-none c = λ _. ranges_lie_in c.args.code.now (λ other l. c.loop-number.invariant other (omega (arith, ap length c.as_slice-range-items.ensures)))
