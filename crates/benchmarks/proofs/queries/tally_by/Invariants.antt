use Rattle.goal_solver.specs.Memos.{IsSound}
use Rattle.benchmarks.proofs.queries.tally_by.Given as goal

abbrev pub invariant-loop-number : goal.invariant-loop-number
invariant-loop-number g l = IsSound l.solver l.graph
