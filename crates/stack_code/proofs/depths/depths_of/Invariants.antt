use Rattle.stack_code.specs.RangeTrees.{ranges_of, IsBounded}
use Rattle.stack_code.proofs.Searching.{IsSearched, IsPending, left_of}
use Rattle.stack_code.proofs.depths.depths_of.Given as goal

abbrev pub invariant-loop-reached : goal.invariant-loop-reached
invariant-loop-reached l =
    record {
      searched : IsSearched l.code l.search;
      pending : IsPending l.code (ranges_of l.ranges) l.search;
      bounded : IsBounded l.ranges;
    }

abbrev pub decreases-loop-reached : goal.decreases-loop-reached
decreases-loop-reached l = left_of l.search
