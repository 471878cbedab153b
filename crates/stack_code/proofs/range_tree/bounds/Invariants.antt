use Rattle.std.proofs.Common.{ℕ, ◌<◌, get_or}
use Rattle.stack_code.specs.declared.code.Range.{Range}
use Rattle.stack_code.specs.RangeTrees.{LiesBetween}
use Rattle.stack_code.proofs.range_tree.bounds.Given as goal

abbrev pub invariant-loop-range : goal.invariant-loop-range
invariant-loop-range l = (k : ℕ) (d : Range) → k < l.range-index → LiesBetween l.first l.past (get_or l.ranges k d)
