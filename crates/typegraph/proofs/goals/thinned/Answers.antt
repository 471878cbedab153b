use Rattle.std.proofs.Common.{arith}
use Rattle.typegraph.proofs.Joins.{thinned_below, thinned_refused, thinned_taken, thinned_all}
use Rattle.typegraph.proofs.goals.thinned.Goals as goal

pub put_last-requires-clause-below : goal.put_last-requires-clause-below
put_last-requires-clause-below c = thinned_below c.args.sorted.now c.requires c.loop-binding.binding-index c.binding-item.result (omega arith) c.binding-item.is c.loop-binding.bindings.items c.loop-binding.invariant

pub returns-then-not-branch-clause-joined : goal.returns-then-not-branch-clause-joined
returns-then-not-branch-clause-joined c = thinned_refused c.args.sorted.now c.requires c.loop-binding.binding-index c.binding-item.result (omega arith) c.binding-item.is c.loop-binding.bindings.items c.loop-binding.invariant c.in_ok-put_last.field-0 _ c.if-not-branch.true c.in_ok-put_last.ensures

pub loop-binding-preserved : goal.loop-binding-preserved
loop-binding-preserved c = thinned_taken c.args.sorted.now c.requires c.loop-binding.binding-index c.binding-item.result (omega arith) c.binding-item.is c.loop-binding.bindings.items c.loop-binding.invariant c.in_ok-put_last.field-0 _ c.if-not-branch.false c.in_ok-put_last.ensures

pub returns-clause-joined : goal.returns-clause-joined
returns-clause-joined c = thinned_all c.args.sorted.now c.loop-binding.bindings.items c.loop-binding.binding-index (omega arith) c.loop-binding.invariant
