use Rattle.std.proofs.Common.{take}
use Rattle.typegraph.specs.Clashes.{IsConsistent}
use Rattle.typegraph.proofs.clash.first_clash.Given as goal

abbrev pub invariant-loop-place : goal.invariant-loop-place
invariant-loop-place l = IsConsistent (take l.place l.list)
