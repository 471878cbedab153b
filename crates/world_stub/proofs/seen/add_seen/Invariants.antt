-- The set has the shapes so far that are seen.
use Rattle.std.proofs.Common.{◌≡◌, take}
use Rattle.world_stub.specs.Solved.{OnlySolved}
use Rattle.world_stub.proofs.Seeing.{AreSeen}
use Rattle.world_stub.proofs.seen.add_seen.Given as goal

abbrev pub invariant-loop-shape : goal.invariant-loop-shape
invariant-loop-shape g l = AreSeen l.initial.world l.ends l.var (take l.shape-index l.shape-items) l.seen × OnlySolved l.initial.world l.world × (l.seen.width ≡ l.initial.seen.width)
