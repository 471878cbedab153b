use Rattle.std.proofs.Common.{◌≡◌, ◌<◌, ◌∙◌, sym, ap, subst, length, slice_get}
use Rattle.std.specs.List.{Contains}
use Rattle.typegraph.proofs.Results.{good}
use Rattle.world_tables.specs.declared.spot.PointSpot.{PointSpot as Spot}
use Rattle.world_tables.proofs.Growth.{kept_point}
use Rattle.world_tables.proofs.Lists.{get_last}
use Rattle.world_tables.proofs.tables.Tables.push_point.Goals as goal

pub invariant_of-self-in-Ok : goal.invariant_of-self-in-Ok
invariant_of-self-in-Ok c =
    rw (c.in-Ok.ensures.added, good _ c.push.result (sym c.is_err.ensures.value ∙ c.if-is_err.false) c.push.ensures.pushed) (
      kept_point _ c.self.invariant.0 c.args.spot.now c.args.target c.args.root
          (subst (λ t. c.args.spot.now.context < length t.graph.flow.contexts) (sym c.self.view_is) c.requires.context)
          (subst (λ t. c.args.spot.now.context ≡ t.finished) (sym c.self.view_is) c.requires.next)
          (subst (λ t. (other : Spot) → Contains t.points other → other.context ≡ c.args.spot.now.context → other.place < c.args.spot.now.place) (sym c.self.view_is) c.requires.order),
      c.self.invariant.1,
    )

pub returns-in-Ok-clause-numbered : goal.returns-in-Ok-clause-numbered
returns-in-Ok-clause-numbered c =
    ap (λ t. slice_get t c.in-Ok.id) (good _ c.push.result (sym c.is_err.ensures.value ∙ c.if-is_err.false) c.push.ensures.pushed)
    ∙ (ap (slice_get _) (c.in-Ok.ensures.numbered ∙ sym c.self.invariant.0.point_count) ∙ get_last c.self.inside.points c.args.spot.now)
