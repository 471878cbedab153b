-- At none of the points so far are the goals seen.
use Rattle.std.proofs.Common.{take}
use Rattle.typegraph.specs.Maps.{look}
use Rattle.world_stub.specs.Solved.{OnlySolved}
use Rattle.world_stub.proofs.Seeing.{IsUnseen}
use Rattle.world_stub.proofs.seen.is_seen_at_one.Given as goal

abbrev pub invariant-loop-end : goal.invariant-loop-end
invariant-loop-end g l = IsUnseen l.initial.world (take l.end-index l.ends) (look l.goals) × OnlySolved l.initial.world l.world
