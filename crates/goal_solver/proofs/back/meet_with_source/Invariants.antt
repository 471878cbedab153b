use Rattle.std.proofs.Common.{◌≡◌, length, take}
use Rattle.goal_solver.specs.Searches.{IsExtended, AreKnown}
use Rattle.goal_solver.specs.Backs.{FromSome, IsBefore, BySource}
use Rattle.goal_solver.proofs.back.meet_with_source.Given as goal

abbrev pub invariant-loop-pair : goal.invariant-loop-pair
invariant-loop-pair l =
    record {
      extended : IsExtended l.light (BySource l.from l.target l.goals l.pairs l.source) l.initial.search l.search;
      met : AreKnown (FromSome (take l.pair-index l.pairs) (IsBefore l.from l.target l.goals l.source)) l.search;
      even : length l.search.parents.items ≡ length l.search.states;
    }
