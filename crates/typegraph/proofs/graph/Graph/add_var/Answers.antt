use Rattle.std.proofs.Common.{sym, ◌∙◌}
use Rattle.typegraph.proofs.Keeps.{kept_var}
use Rattle.typegraph.proofs.Results.{good}
use Rattle.typegraph.proofs.graph.Graph.add_var.Goals as goal

pub invariant_of-self-in-Ok : goal.invariant_of-self-in-Ok
invariant_of-self-in-Ok c =
    rw (c.in-Ok.ensures.added, good _ c.add_var.result (sym c.is_err.ensures.value ∙ c.if-is_err.false) c.add_var.ensures.added) (kept_var _ _ _ c.self.invariant)
