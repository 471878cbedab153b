-- The places so far are points.
use Rattle.context_graph.proofs.PointLoops.{PointsAdded}
use Rattle.context_graph.proofs.points.add_points.Given as goal

abbrev pub invariant-loop-place : goal.invariant-loop-place
invariant-loop-place l = PointsAdded l.fn.program l.initial.tables l.tables l.fn.context l.place
