-- The shapes that are seen, one after the other.
use Rattle.std.proofs.Common.{◌≡◌, ◌+◌, ◌<◌, ◌≤◌, List, [], length, take, get_or, refl, sym, ap, subst, ◌∙◌, arith}
use Rattle.std.specs.List.{Contains}
use Rattle.typegraph.specs.Graphs.{GraphTables, IsGiven}
use Rattle.typegraph.specs.Maps.{look}
use Rattle.typegraph.specs.Validity.{IsValid}
use Rattle.world_stub.specs.Ends.{goal_of}
use Rattle.world_stub.proofs.Seeing.{AreSeen, none_seen, with_seen, without_seen, all_seen, not_true, seen_at_one_as, solved_further, shape_below, at_index}
use Rattle.world_stub.proofs.seen.add_seen.Goals as goal
use Rattle.world_stub.proofs.seen.add_seen.Goals.{then-branch, else-branch}

pub loop-shape-init : goal.loop-shape-init
loop-shape-init g c = (none_seen c.args.world.now c.args.ends.now c.args.var [] c.args.seen.now c.requires.empty refl, record { rows = refl; budget = refl; library = refl }, refl)

pub insert-requires : goal.insert-requires
insert-requires g c =
    let valid : IsValid c.args.world.now.rows.graph = subst IsValid c.graph.ensures.graph c.valid.ensures in
    let there : Contains c.as_slice-shape-items.result.now c.shape-item.result = at_index c.as_slice-shape-items.result.now c.loop-shape.shape-index c.shape-item.result c.shape-item.result c.loop-shape-test.true (sym c.shape-item.is) in
    let items : c.as_slice-shape-items.result.now ≡ c.shapes_of.result.now = c.as_slice-shape-items.ensures ∙ c.in_ok-given.ensures in
    let given : IsGiven c.args.world.now.rows.graph c.args.var c.shape-item.result =
    subst (λ (t : GraphTables). IsGiven t c.args.var c.shape-item.result) c.graph-2.ensures.graph ((c.shapes_of.ensures.given c.shape-item.result).0 (subst (λ xs. Contains xs c.shape-item.result) items there)) in
    let l : c.shape-item.result < length c.args.world.now.rows.graph.truths = shape_below c.args.world.now.rows.graph valid c.args.var c.shape-item.result given in
    omega (arith, l, c.requires.wide, c.loop-shape.invariant.2)

pub loop-shape-preserved : goal.loop-shape-preserved
loop-shape-preserved g c =
    elim c.if-branch.branch [
      | then-branch w ↦ (
        with_seen c.args.world.now c.args.ends.now c.args.var c.as_slice-shape-items.result.now c.loop-shape.shape-index c.shape-item.result c.shape-item.result c.loop-shape-test.true (sym c.shape-item.is) c.loop-shape.seen c.loop-shape.invariant.0
            ((seen_at_one_as c.args.world.now c.loop-shape.world c.loop-shape.invariant.1 c.args.ends.now (look (goal_of c.args.var c.shape-item.result))).0 (c.in_ok-is_seen_at.ensures.seen.0 w.if-branch.true))
            c.if-branch.seen (w.seen-is ∙ w.insert.ensures.inserted),
        solved_further c.args.world.now c.loop-shape.world c.is_seen_at.new.world c.loop-shape.invariant.1 c.in_ok-is_seen_at.ensures.same,
        ap (λ s. s.width) (w.seen-is ∙ w.insert.ensures.inserted) ∙ c.loop-shape.invariant.2,
      )
      | else-branch w ↦ (
        subst (AreSeen c.args.world.now c.args.ends.now c.args.var (take (c.loop-shape.shape-index + 1) c.as_slice-shape-items.result.now)) (sym w.seen-is)
            (without_seen c.args.world.now c.args.ends.now c.args.var c.as_slice-shape-items.result.now c.loop-shape.shape-index c.shape-item.result c.shape-item.result c.loop-shape-test.true (sym c.shape-item.is) c.loop-shape.seen c.loop-shape.invariant.0
            (λ h. not_true c.in_ok-is_seen_at.field-0 w.if-branch.false (c.in_ok-is_seen_at.ensures.seen.1 ((seen_at_one_as c.args.world.now c.loop-shape.world c.loop-shape.invariant.1 c.args.ends.now (look (goal_of c.args.var c.shape-item.result))).1 h)))),
        solved_further c.args.world.now c.loop-shape.world c.is_seen_at.new.world c.loop-shape.invariant.1 c.in_ok-is_seen_at.ensures.same,
        ap (λ s. s.width) w.seen-is ∙ c.loop-shape.invariant.2,
      )
    ]

pub returns-clause-seen : goal.returns-clause-seen
returns-clause-seen g c =
    let items : c.as_slice-shape-items.result.now ≡ c.shapes_of.result.now = c.as_slice-shape-items.ensures ∙ c.in_ok-given.ensures in
    all_seen c.args.world.now c.args.ends.now c.args.var c.as_slice-shape-items.result.now c.loop-shape.shape-index c.loop-shape.seen (omega arith)
    (λ shape. (
      λ h. subst (λ (t : GraphTables). IsGiven t c.args.var shape) c.graph-2.ensures.graph ((c.shapes_of.ensures.given shape).0 (subst (λ xs. Contains xs shape) items h)),
      λ h. subst (λ xs. Contains xs shape) (sym items) ((c.shapes_of.ensures.given shape).1 (subst (λ (t : GraphTables). IsGiven t c.args.var shape) (sym c.graph-2.ensures.graph) h)),
    )) c.loop-shape.invariant.0
