use Rattle.std.proofs.Common.{◌-◌, length}
use Rattle.abstract_shapes.specs.Numbering.{structures}
use Rattle.world_tables.proofs.Counting.{AreNamed}
use Rattle.world_tables.proofs.tables.name_shapes.Given as goal

abbrev pub invariant-loop-named : goal.invariant-loop-named
invariant-loop-named l = AreNamed l.fn.graph (structures l.shapes) l.fn.named l.last l.named l.graph

abbrev pub decreases-loop-named : goal.decreases-loop-named
decreases-loop-named l = length l.shapes - l.named
