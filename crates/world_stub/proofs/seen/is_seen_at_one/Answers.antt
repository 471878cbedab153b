-- The goals are seen at one of the points, or at none of them.
use Rattle.std.proofs.Common.{sym, arith}
use Rattle.typegraph.specs.Maps.{look}
use Rattle.world_stub.proofs.Seeing.{seen_as, not_true, solved_further, unseen_next, unseen_everywhere}
use Rattle.world_stub.proofs.seen.is_seen_at_one.Goals as goal

pub loop-end-preserved : goal.loop-end-preserved
loop-end-preserved g c = (
  unseen_next c.args.world.now c.args.ends.now c.loop-end.end-index c.end-item.result c.end-item.result (look c.args.goals.now) c.loop-end-test.true (sym c.end-item.is) c.loop-end.invariant.0
      (λ h. not_true c.in_ok-is_seen.field-0 c.if-branch.false (c.in_ok-is_seen.ensures.seen.1 ((seen_as c.args.world.now c.loop-end.world c.loop-end.invariant.1 c.end-item.result (look c.args.goals.now)).1 h))),
  solved_further c.args.world.now c.loop-end.world c.is_seen.new.world c.loop-end.invariant.1 c.in_ok-is_seen.ensures.same,
)

pub returns-clause-seen : goal.returns-clause-seen
returns-clause-seen g c = (
  λ t. absurd (cc),
  λ h. absurd (unseen_everywhere c.args.world.now c.args.ends.now c.loop-end.end-index (look c.args.goals.now) (omega arith) c.loop-end.invariant.0 h),
)
