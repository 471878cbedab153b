use Rattle.std.proofs.Common.{take}
use Rattle.typegraph.proofs.Joins.{IsThinned}
use Rattle.typegraph.proofs.goals.thinned.Given as goal

abbrev pub invariant-loop-binding : goal.invariant-loop-binding
invariant-loop-binding l = IsThinned (take l.binding-index l.sorted) l.bindings.items
