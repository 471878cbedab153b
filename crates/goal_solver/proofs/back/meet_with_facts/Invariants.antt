use Rattle.std.proofs.Common.{◌≡◌, length, take}
use Rattle.goal_solver.specs.Searches.{IsExtended, AreKnown}
use Rattle.goal_solver.specs.Backs.{FromSome, IsByPlace, ByFact}
use Rattle.goal_solver.proofs.back.meet_with_facts.Given as goal

abbrev pub invariant-loop-place : goal.invariant-loop-place
invariant-loop-place l =
    record {
      extended : IsExtended l.light (ByFact l.from l.target l.goals l.pairs l.facts l.places) l.initial.search l.search;
      met : AreKnown (FromSome (take l.place-index l.places) (IsByPlace l.from l.target l.goals l.pairs l.facts)) l.search;
      even : length l.search.parents.items ≡ length l.search.states;
    }
