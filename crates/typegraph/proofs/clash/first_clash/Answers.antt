use Rattle.std.proofs.Common.{arith}
use Rattle.typegraph.proofs.Results.{not_so}
use Rattle.typegraph.proofs.Clashing.{consistent_none, consistent_more, first_clash_here, no_two_shapes}
use Rattle.typegraph.proofs.clash.first_clash.Goals as goal

pub loop-place-init : goal.loop-place-init
loop-place-init c = consistent_none

pub returns-then-clashes : goal.returns-then-clashes
returns-then-clashes c = first_clash_here c.args.list.now c.loop-place.place c.index-list-place.result c.loop-place-test.true c.index-list-place.is c.loop-place.invariant (c.clashes.ensures.0 c.if-clashes.true)

pub loop-place-preserved : goal.loop-place-preserved
loop-place-preserved c = consistent_more c.args.list.now c.loop-place.place c.index-list-place.result c.loop-place-test.true c.index-list-place.is c.loop-place.invariant (λ k. not_so c.clashes.result c.if-clashes.false c.clashes.ensures.1 k)

pub unreachable-requires : goal.unreachable-requires
unreachable-requires c = no_two_shapes c.args.list.now c.loop-place.place (omega arith) c.loop-place.invariant c.requires
