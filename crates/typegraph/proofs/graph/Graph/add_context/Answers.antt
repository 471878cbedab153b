use Rattle.std.proofs.Common.{◌≡◌, ◌-◌, ◌^◌, length, arith}
use Rattle.typegraph.proofs.Keeps.{kept_context}
use Rattle.typegraph.proofs.Results.{no_full}
use Rattle.typegraph.proofs.graph.Graph.add_context.Goals as goal

pub invariant_of-self : goal.invariant_of-self
invariant_of-self c =
    kept_context _ _ c.self.inside.counts _ _ _ c.in-Ok.id c.self.invariant c.in-Ok.ensures.numbered (λ h. (c.in-Ok.ensures.known h).1)
    (λ n. let below : length c.self.inside.flow.contexts ≡ 2 ^ 32 - 1 → ⊥ = λ e. no_full _ _ (c.in-Ok.ensures.full.1 (n, e)) in
    (c.in-Ok.ensures.fresh n, omega (arith, c.in-Ok.ensures.few, below)))
    (record { known = c.add_context-in-Ok.ensures.known; contexts = c.add_context-in-Ok.ensures.contexts; more = c.add_context-in-Ok.ensures.more; full = c.add_context-in-Ok.ensures.full })
