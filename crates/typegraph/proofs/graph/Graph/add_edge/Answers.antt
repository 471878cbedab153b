use Rattle.std.proofs.Common.{length, arith, ap, subst, sym, Ok}
use Rattle.typegraph.specs.Validity.{IsShapeAskThere}
use Rattle.typegraph.proofs.Totals.{capped_more}
use Rattle.typegraph.proofs.Keeps.{kept_edge}
use Rattle.typegraph.proofs.graph.Graph.add_edge.Goals as goal

pub invariant_of-self : goal.invariant_of-self
invariant_of-self c =
    rw (c.in-Ok-true.ensures.fresh (ap Ok c.in-Ok-true.field-0-test)).1 (kept_edge _ _ c.self.inside.counts _ c.args.edge c.self.invariant
    (omega (arith, ap (λ t. length t.flow.points) c.self.view_is, c.requires.to))
    (subst (λ t. IsShapeAskThere c.args.edge.asks (length t.truths)) (sym c.self.view_is) c.requires.shape)
    c.add_item.ensures.contexts
    (capped_more c.self.inside.counts.items _ _ c.self.invariant.items c.add_item.ensures.more c.add_item.ensures.full))
