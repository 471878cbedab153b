use Rattle.std.proofs.Common.{◌↔◌, ℕ, subst, arith}
use Rattle.std.specs.List.{Contains}
use Rattle.typegraph.specs.Graphs.{IsGiven}
use Rattle.abstract_vm.specs.Marks.{SaysToo}
use Rattle.abstract_vm.specs.Telling.{asked, ShapeWeighs}
use Rattle.abstract_vm.proofs.Memory.{kept_on}
use Rattle.abstract_vm.proofs.Saying.{one_more_told, all_told}
use Rattle.abstract_vm.proofs.Choosing.{shapes_more}
use Rattle.abstract_vm.proofs.tell.weigh_var.Goals as goal

pub loop-shape-preserved : goal.loop-shape-preserved
loop-shape-preserved g c = record {
  told = one_more_told (ShapeWeighs (asked c.args.judging.now c.args.solver.now.budget) c.args.var) c.shapes_of-shape-items.result.now c.loop-shape.shape-index c.shape-item.result (omega arith) c.shape-item.is c.args.verdict.now c.loop-shape.verdict c.weigh_shape.new.verdict c.loop-shape.invariant.told
      (subst (λ b. SaysToo (ShapeWeighs (asked c.args.judging.now b) c.args.var c.shape-item.result) c.loop-shape.verdict c.weigh_shape.new.verdict) c.loop-shape.invariant.kept.budget c.in_ok-weigh_shape.ensures.told);
  kept = kept_on c.args.judging.now.tables.now.graph c.args.solver.now c.loop-shape.solver c.weigh_shape.new.solver c.loop-shape.invariant.kept c.in_ok-weigh_shape.ensures.kept;
}

pub returns-clause-told : goal.returns-clause-told
returns-clause-told g c =
    shapes_more (asked c.args.judging.now c.args.solver.now.budget) c.args.var c.shapes_of-shape-items.result.now
    (subst (λ gr. (shape : ℕ) → Contains c.shapes_of-shape-items.result.now shape ↔ IsGiven gr c.args.var shape) c.graph.ensures.graph c.shapes_of-shape-items.ensures.given) c.args.verdict.now c.loop-shape.verdict
    (all_told (ShapeWeighs (asked c.args.judging.now c.args.solver.now.budget) c.args.var) c.shapes_of-shape-items.result.now c.loop-shape.shape-index (omega arith) c.args.verdict.now c.loop-shape.verdict c.loop-shape.invariant.told)
