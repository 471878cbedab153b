-- Each shape adds its fact.
use Rattle.std.proofs.Common.{◌≡◌, Ok, Err}
use Rattle.abstract_vm.specs.Steps.{fact_in}
use Rattle.abstract_vm.proofs.Loops.{facts_more}
use Rattle.abstract_vm.proofs.Steps.{step_error, step_whole}
use Rattle.abstract_vm.proofs.world.World.add_facts.Goals as goal

pub returns-in_err-more : goal.returns-in_err-more
returns-in_err-more c =
    step_error c.from_residual.result c.from_residual.ensures.0
    (facts_more c.args.self.now c.loop-shape.self c.add_fact.new.self c.args.shapes.now c.requires.shapes c.loop-shape.shape-index c.shape-item.result c.loop-shape-test.true c.shape-item.is c.loop-shape.grown (Err c.in_err-more.field-0.0)
    c.args.point c.args.goals.now c.requires.goals c.loop-shape.invariant c.in_err-more.ensures)

pub loop-shape-preserved : goal.loop-shape-preserved
loop-shape-preserved c =
    facts_more c.args.self.now c.loop-shape.self c.add_fact.new.self c.args.shapes.now c.requires.shapes c.loop-shape.shape-index c.shape-item.result c.loop-shape-test.true c.shape-item.is c.loop-shape.grown (Ok c.in_ok-more.more)
    c.args.point c.args.goals.now c.requires.goals c.loop-shape.invariant c.in_ok-more.ensures

pub returns : goal.returns
returns c = step_whole (λ s id i. i ≡ fact_in c.args.self.now c.args.point id c.args.goals.now) c.args.shapes.now c.loop-shape.shape-index c.loop-shape.auto.shape-index-end c.loop-shape-test.false c.loop-shape.invariant
