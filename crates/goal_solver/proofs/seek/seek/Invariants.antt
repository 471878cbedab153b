use Rattle.std.proofs.Common.{◌≡◌, ◌≤◌, ◌+◌, ◌-◌, length, IsTrue}
use Rattle.goal_solver.proofs.Searching.{IsSearched}
use Rattle.goal_solver.proofs.seek.seek.Given as goal

abbrev pub invariant-loop-search : goal.invariant-loop-search
invariant-loop-search g l =
    record {
      searched : IsSearched l.graph l.fn.query l.light l.roots l.search;
      count : l.steps + length l.search.waiting.items ≡ l.initial.steps + length l.search.states;
      cost : l.steps ≤ l.initial.steps + l.budget;
      room : IsTrue l.search.uses_list → length l.search.states ≤ l.room;
      limit : l.search.limit ≡ l.limit;
    }

abbrev pub decreases-loop-search : goal.decreases-loop-search
decreases-loop-search g l = l.initial.steps + l.limit - l.steps
