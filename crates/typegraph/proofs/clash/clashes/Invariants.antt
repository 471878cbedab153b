use Rattle.std.proofs.Common.{take}
use Rattle.typegraph.specs.Clashes.{ClashesWith}
use Rattle.typegraph.proofs.clash.clashes.Given as goal

abbrev pub invariant-loop-other : goal.invariant-loop-other
invariant-loop-other l = ClashesWith (take l.other-index l.before) l.binding → ⊥
