-- The places so far have their edges.
use Rattle.context_graph.proofs.EdgeLoops.{EdgesAdded}
use Rattle.context_graph.proofs.edges.add_edges.Given as goal

abbrev pub invariant-loop-place : goal.invariant-loop-place
invariant-loop-place l = EdgesAdded l.initial.tables l.tables l.code l.context l.place
