use Rattle.std.proofs.Common.{ℕ, ◌<◌}
use Rattle.stack_code.specs.Validity.{JumpsOut}
use Rattle.stack_code.proofs.firsts.jump_out.Given as goal

abbrev pub invariant-loop-place : goal.invariant-loop-place
invariant-loop-place l = (other : ℕ) → other < l.place → JumpsOut l.code other → ⊥
