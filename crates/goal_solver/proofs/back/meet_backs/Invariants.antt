use Rattle.std.proofs.Common.{◌≡◌, length, take}
use Rattle.goal_solver.specs.Searches.{IsExtended, AreKnown}
use Rattle.goal_solver.specs.Backs.{FromSome, IsOverEdge}
use Rattle.goal_solver.proofs.back.meet_backs.Given as goal

abbrev pub invariant-loop-edge : goal.invariant-loop-edge
invariant-loop-edge g l =
    record {
      steps : l.steps ≡ l.initial.steps;
      extended : IsExtended l.light (FromSome l.edge-items (IsOverEdge l.graph l.state.goals)) l.initial.search l.search;
      met : AreKnown (FromSome (take l.edge-index l.edge-items) (IsOverEdge l.graph l.state.goals)) l.search;
      even : length l.search.parents.items ≡ length l.search.states;
    }
