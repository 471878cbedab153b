use Rattle.std.proofs.Common.{ap, ◌∙◌, arith}
use Rattle.graph_queries.proofs.Longer.{longer, next_step}
use Rattle.graph_queries.proofs.choose.choices.Goals as goal

pub loop-var-preserved : goal.loop-var-preserved
loop-var-preserved c =
    next_step c.args.graph.now c.args.vars.now c.loop-var.var-index c.var-item.result (omega arith) c.var-item.is c.loop-var.chosen c.loop-var.invariant c.shapes_of.result.now c.shapes_of.ensures.given c.in_ok-chosen-2.chosen
    (c.in_ok-chosen-2.ensures ∙ ap (λ xs. longer xs c.shapes_of.result.now) c.as_slice.ensures)
