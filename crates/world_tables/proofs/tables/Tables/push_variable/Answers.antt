use Rattle.std.proofs.Common.{◌∙◌, sym, ap, subst, length, slice_get}
use Rattle.typegraph.proofs.Results.{good}
use Rattle.world_tables.specs.Rows.{IsSpotThere}
use Rattle.world_tables.proofs.Growth.{kept_variable}
use Rattle.world_tables.proofs.Lists.{get_last}
use Rattle.world_tables.proofs.tables.Tables.push_variable.Goals as goal

pub invariant_of-self-in-Ok : goal.invariant_of-self-in-Ok
invariant_of-self-in-Ok c =
    rw (c.in-Ok.ensures.added, good _ c.push.result (sym c.is_err.ensures.value ∙ c.if-is_err.false) c.push.ensures.pushed)
    (kept_variable _ c.self.invariant.0 c.args.spot.now (subst (λ t. IsSpotThere c.args.spot.now (length t.graph.flow.contexts)) (sym c.self.view_is) c.requires.context), c.self.invariant.1)

pub returns-in-Ok-clause-numbered : goal.returns-in-Ok-clause-numbered
returns-in-Ok-clause-numbered c =
    ap (λ t. slice_get t c.in-Ok.id) (good _ c.push.result (sym c.is_err.ensures.value ∙ c.if-is_err.false) c.push.ensures.pushed)
    ∙ (ap (slice_get _) (c.in-Ok.ensures.numbered ∙ sym c.self.invariant.0.variable_count) ∙ get_last c.self.inside.variables c.args.spot.now)
