-- Each shape adds its entry.
use Rattle.std.proofs.Common.{◌≡◌, ◌<◌, Ok, Err, get_or, length, arith}
use Rattle.abstract_vm.specs.Steps.{entry_in, NumbersStay}
use Rattle.abstract_vm.proofs.Loops.{entries_more}
use Rattle.abstract_vm.proofs.Steps.{step_error, step_whole}
use Rattle.world_rules.specs.Places.{main, at}
use Rattle.abstract_vm.proofs.world.World.add_entries.Goals as goal

pub add_entry-requires : goal.add_entry-requires
add_entry-requires c =
    let stay : NumbersStay c.args.self.now c.loop-shape.self = (c.loop-shape.invariant (at main 0 0)).stay in
    let l : get_or c.args.shapes.now c.loop-shape.shape-index c.shape-item.result < length c.args.self.now.rows.graph.truths = c.requires c.loop-shape.shape-index c.shape-item.result c.loop-shape-test.true in
    omega (arith, l, c.shape-item.is, stay.truths)

pub returns-in_err-more : goal.returns-in_err-more
returns-in_err-more c =
    λ p. step_error c.from_residual.result c.from_residual.ensures.0
    (entries_more c.args.self.now c.loop-shape.self c.add_entry.new.self c.args.shapes.now c.requires c.loop-shape.shape-index c.shape-item.result c.loop-shape-test.true c.shape-item.is c.loop-shape.grown (Err c.in_err-more.field-0.0)
    c.args.place.now p (c.loop-shape.invariant p) (c.in_err-more.ensures p))

pub loop-shape-preserved : goal.loop-shape-preserved
loop-shape-preserved c =
    λ p. entries_more c.args.self.now c.loop-shape.self c.add_entry.new.self c.args.shapes.now c.requires c.loop-shape.shape-index c.shape-item.result c.loop-shape-test.true c.shape-item.is c.loop-shape.grown (Ok c.in_ok-more.more)
    c.args.place.now p (c.loop-shape.invariant p) (c.in_ok-more.ensures p)

pub returns : goal.returns
returns c = λ p. step_whole (λ s id i. i ≡ entry_in c.args.self.now c.args.place.now id) c.args.shapes.now c.loop-shape.shape-index c.loop-shape.auto.shape-index-end c.loop-shape-test.false (c.loop-shape.invariant p)
