use Rattle.std.proofs.Common.{◌≡◌, length, refl, arith, ap, sym, subst, slice_get, Some}
use Rattle.std.proofs.lemmas.Option.{slice_get_read}
use Rattle.flow_graph.specs.Validity.{IsAskThere}
use Rattle.flow_graph.proofs.Valid.{valid_added, added_fresh, added_known}
use Rattle.flow_graph.proofs.flow.Flow.add_edge.Goals as goal

there : (c : goal.After-self-1) → slice_get c.self.inside.points.items c.args.edge.to ≡ Some c.index_mut-row.result.now
there c =
    slice_get_read c.self.inside.points.items _ c.args.edge.to c.index_mut-row.result.now refl (omega (arith, ap (λ t. length t.points) c.self.view_is, c.requires.to))
    (rw (← c.number.ensures) c.index_mut-row.ensures.value)

pub invariant_of-self : goal.invariant_of-self
invariant_of-self c =
    rw c.number.ensures (valid_added _ _ c.args.edge c.index_mut-row.result.now _ c.self.invariant
    (omega (arith, ap (λ t. length t.points) c.self.view_is, c.requires.from))
    (subst (λ t. IsAskThere c.args.edge.asks t.vars) (sym c.self.view_is) c.requires.asks)
    (there c)
    (record { fresh = c.add.ensures.fresh; known = c.add.ensures.known; refused = c.add.ensures.refused }))

pub returns-clause-fresh : goal.returns-clause-fresh
returns-clause-fresh c = λ e. rw (← c.self.view_is, c.number.ensures) (added_fresh _ _ c.args.edge c.index_mut-row.result.now _ (there c) (record { fresh = c.add.ensures.fresh; known = c.add.ensures.known; refused = c.add.ensures.refused }) e)

pub returns-clause-known : goal.returns-clause-known
returns-clause-known c = λ e. rw (← c.self.view_is, c.number.ensures) (added_known _ _ c.args.edge c.index_mut-row.result.now _ (there c) (record { fresh = c.add.ensures.fresh; known = c.add.ensures.known; refused = c.add.ensures.refused }) e)
