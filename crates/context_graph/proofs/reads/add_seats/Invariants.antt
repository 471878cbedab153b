-- The seats so far are variables.
use Rattle.context_graph.proofs.ReadSteps.{SeatsAdded}
use Rattle.context_graph.proofs.reads.add_seats.Given as goal

abbrev pub invariant-loop-seat : goal.invariant-loop-seat
invariant-loop-seat l = SeatsAdded l.initial.tables l.tables l.context l.seats l.seat-index
