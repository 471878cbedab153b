use Rattle.std.proofs.Common.{◌≡◌}
use Rattle.shape_cases.proofs.tests.printed.Given as goal

abbrev pub invariant-loop-number : goal.invariant-loop-number
invariant-loop-number l = l.set.width ≡ 42
