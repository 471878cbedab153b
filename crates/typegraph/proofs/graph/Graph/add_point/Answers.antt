use Rattle.std.proofs.Common.{sym, ◌∙◌}
use Rattle.typegraph.proofs.Keeps.{kept_point}
use Rattle.typegraph.proofs.Results.{good}
use Rattle.typegraph.proofs.graph.Graph.add_point.Goals as goal

pub invariant_of-self-in-Ok : goal.invariant_of-self-in-Ok
invariant_of-self-in-Ok c =
    rw (c.in-Ok.ensures.added, good _ c.add_point.result (sym c.is_err.ensures.value ∙ c.if-is_err.false) c.add_point.ensures.added)
    (kept_point _ _ _ c.args.target c.args.root c.self.invariant)
