use Rattle.std.proofs.Common.{ℕ, ◌<◌}
use Rattle.stack_code.specs.Validity.{LiesOut}
use Rattle.stack_code.proofs.firsts.range_out.Given as goal

abbrev pub invariant-loop-number : goal.invariant-loop-number
invariant-loop-number l = (other : ℕ) → other < l.number → LiesOut l.code other → ⊥
