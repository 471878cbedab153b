-- The ends among the points so far.
use Rattle.world_stub.proofs.Ending.{AreEndsBelow}
use Rattle.world_stub.proofs.ends.end_points.Given as goal

abbrev pub invariant-loop-number : goal.invariant-loop-number
invariant-loop-number l = AreEndsBelow l.program l.world.rows l.number l.ends
