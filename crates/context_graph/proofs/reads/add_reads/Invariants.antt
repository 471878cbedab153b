-- What the places so far read are variables.
use Rattle.context_graph.proofs.ReadSteps.{PlacesRead}
use Rattle.context_graph.proofs.reads.add_reads.Given as goal

abbrev pub invariant-loop-place : goal.invariant-loop-place
invariant-loop-place l = PlacesRead l.fn.program l.initial.tables l.tables l.fn.code l.fn.context l.place
