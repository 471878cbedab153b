use Rattle.std.proofs.Common.{◌<◌, ◌≤◌, ◌∙◌, sym, ap, subst, arith}
use Rattle.typegraph.specs.Graphs.{with_shape}
use Rattle.abstract_shapes.specs.Numbering.{structures, shape_at}
use Rattle.abstract_shapes.specs.Shapes.{truth_of}
use Rattle.world_tables.proofs.Counting.{next_named}
use Rattle.world_tables.proofs.Prefixes.{as_many}
use Rattle.world_tables.proofs.tables.name_shapes.Goals as goal

pub loop-named-preserved : goal.loop-named-preserved
loop-named-preserved c =
    next_named c.args.graph.now (structures c.args.shapes.now) c.args.named.now c.args.last c.loop-named.named c.loop-named.graph _ c.loop-named.invariant
    (subst (λ n. c.loop-named.named < n) (sym (as_many c.args.shapes.now)) (omega arith)) (omega arith)
    (c.in_ok-add_shape.ensures.added ∙ ap (λ t. with_shape t c.loop-named.graph) (c.truth-truth.ensures ∙ ap (λ k. truth_of (shape_at (structures c.args.shapes.now) k)) c.new.ensures))

pub returns-clause-few : goal.returns-clause-few
returns-clause-few c = subst (λ n. c.loop-named.named ≤ n) (as_many c.args.shapes.now) c.loop-named.invariant.few
