use Rattle.std.proofs.Common.{inl, inr}
use Rattle.typegraph.proofs.Keeps.{kept_shape}
use Rattle.typegraph.proofs.Results.{either}
use Rattle.typegraph.proofs.graph.Graph.add_shape.Goals as goal

pub invariant_of-self : goal.invariant_of-self
invariant_of-self c =
    elim (either _ _ c.push.result c.push.ensures.pushed c.push.ensures.refused) [
      | inl e ↦ rw e (kept_shape _ _ _ c.args.truth c.self.invariant)
      | inr e ↦ rw e c.self.invariant
    ]
