use Rattle.std.proofs.Common.{ℕ, ◌<◌}
use Rattle.stack_code.specs.Validity.{Underflows}
use Rattle.stack_code.proofs.firsts.underflow.Given as goal

abbrev pub invariant-loop-place : goal.invariant-loop-place
invariant-loop-place l = (other : ℕ) → other < l.place → Underflows l.code other → ⊥
