use Rattle.std.proofs.Common.{◌≡◌, ◌<◌, ℕ, Some, [], length, slice_get}
use Rattle.goal_solver.specs.declared.state.State.{State}
use Rattle.goal_solver.specs.States.{IsMet}
use Rattle.goal_solver.specs.Searches.{IsExtended}
use Rattle.goal_solver.proofs.search.Search.leave_list.Given as goal

abbrev pub invariant-loop-place : goal.invariant-loop-place
invariant-loop-place l =
    record {
      extended : IsExtended [] (IsMet l.initial.self.noted) l.initial.self l.self;
      met : (k : ℕ) (x : State) → k < l.place → slice_get l.initial.self.noted k ≡ Some x → IsMet l.self.states x;
      noted : l.self.noted ≡ l.initial.self.noted;
      even : length l.self.parents.items ≡ length l.self.states;
    }
