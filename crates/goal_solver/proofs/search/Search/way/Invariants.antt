use Rattle.goal_solver.proofs.Meetings.{IsWaySoFar}
use Rattle.goal_solver.proofs.search.Search.way.Given as goal

abbrev pub invariant-loop-at : goal.invariant-loop-at
invariant-loop-at l = IsWaySoFar l.self l.place l.at l.way

abbrev pub decreases-loop-at : goal.decreases-loop-at
decreases-loop-at l = l.at
