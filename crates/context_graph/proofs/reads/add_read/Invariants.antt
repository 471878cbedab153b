-- What the readings so far read are variables.
use Rattle.context_graph.proofs.ReadSteps.{ReadingsAdded}
use Rattle.context_graph.proofs.reads.add_read.Given as goal

abbrev pub invariant-loop-reading : goal.invariant-loop-reading
invariant-loop-reading l = ReadingsAdded l.fn.program l.initial.tables l.tables l.fn.at l.reading-items l.reading-index
