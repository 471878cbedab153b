use Rattle.std.proofs.Common.{◌≡◌}
use Rattle.benchmarks.proofs.lists.all_below.Given as goal

abbrev pub invariant-loop-number : goal.invariant-loop-number
invariant-loop-number l = l.set.width ≡ l.count
