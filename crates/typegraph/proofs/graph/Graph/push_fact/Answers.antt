use Rattle.std.proofs.Common.{◌≡◌, ◌<◌, ◌∙◌, length, arith, ap, subst, sym, Some, slice_get}
use Rattle.std.specs.List.{All}
use Rattle.flow_graph.specs.Flows.{target_of}
use Rattle.typegraph.specs.Graphs.{HasFact}
use Rattle.typegraph.specs.Validity.{IsBindingThere}
use Rattle.typegraph.proofs.Tables.{target_there}
use Rattle.typegraph.proofs.Totals.{capped_more}
use Rattle.typegraph.proofs.Keeps.{kept_fact}
use Rattle.typegraph.proofs.graph.Graph.push_fact.Goals as goal

pub push-requires-clause-var : goal.push-requires-clause-var
push-requires-clause-var c =
    let l : c.unwrap-var.result < c.self.inside.flow.vars = target_there c.self.inside.flow c.target.ensures.valid c.args.point c.unwrap-var.result (sym c.target.ensures.told ∙ c.unwrap-var.ensures) in
    omega (arith, l, c.self.invariant.given.size)

pub invariant_of-self-2 : goal.invariant_of-self-2
invariant_of-self-2 c =
    let target : target_of (slice_get c.self.inside.flow.points c.args.point) ≡ Some c.unwrap-var.result = sym c.target.ensures.told ∙ c.unwrap-var.ensures in
    let l : c.unwrap-var.result < c.self.inside.flow.vars = target_there c.self.inside.flow c.target.ensures.valid c.args.point c.unwrap-var.result target in
    rw c.in_ok-push.ensures.pushed (kept_fact _ _ c.self.inside.counts _ c.args.point c.unwrap-var.result c.args.fact c.self.invariant target
    (omega (arith, l, c.self.invariant.given.size))
    (omega (arith, ap (λ t. length t.truths) c.self.view_is, c.requires.shape))
    (subst (λ t. All (IsBindingThere t.flow.vars (length t.truths)) c.args.fact.source) (sym c.self.view_is) c.requires.source)
    c.items.ensures.rising
    (subst (λ t. HasFact t c.args.point c.args.fact.shape c.args.fact.source → ⊥) (sym c.self.view_is) c.requires.fresh)
    c.add_item.ensures.contexts
    (capped_more c.self.inside.counts.items _ _ c.self.invariant.items c.add_item.ensures.more c.add_item.ensures.full))
