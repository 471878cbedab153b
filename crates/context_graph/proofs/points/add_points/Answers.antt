use Rattle.std.proofs.Common.{◌≤◌, length, subst, sym, ap, ◌∙◌}
use Rattle.stack_code.specs.declared.code.Code.{Code}
use Rattle.world_rules.specs.Places.{code_of}
use Rattle.world_tables.specs.Rows.{contexts_of, the_context}
use Rattle.context_graph.proofs.PointLoops.{first_points, next_points, points_keep, points_before}
use Rattle.context_graph.proofs.PointSteps.{one_depth}
use Rattle.context_graph.proofs.ReadSteps.{code_on}
use Rattle.context_graph.proofs.points.add_points.Goals as goal

pub loop-place-init : goal.loop-place-init
loop-place-init c =
    first_points c.args.program.now c.args.tables.now c.args.context _ c.first_place-place.ensures.order
    (λ s w. c.first_place-place.ensures.points s w.tables (one_depth s (the_context (contexts_of c.args.tables.now) c.args.context) c.args.code.now
    (ap (λ p. code_of p (the_context (contexts_of c.args.tables.now) c.args.context)) w.source.program ∙ c.requires.code.of) c.code.ensures.valid))

pub loop-place-preserved : goal.loop-place-preserved
loop-place-preserved c =
    next_points c.args.program.now c.args.tables.now c.loop-place.tables c.add_point_at.new.tables c.args.context c.loop-place.place c.loop-place.invariant c.add_point_at.ensures.keeps
    c.in_ok-add_point_at.ensures.step c.in_ok-add_point_at.ensures.order c.in_ok-add_point_at.ensures.points

pub add_point_at-requires-clause-next : goal.add_point_at-requires-clause-next
add_point_at-requires-clause-next c = c.requires.next ∙ sym c.loop-place.invariant.step.finished

pub add_point_at-requires-clause-code : goal.add_point_at-requires-clause-code
add_point_at-requires-clause-code c = code_on c.args.program.now c.args.tables.now c.loop-place.tables c.args.context c.args.code.now c.loop-place.invariant.step.grown c.requires.code

pub add_point_at-requires-clause-order : goal.add_point_at-requires-clause-order
add_point_at-requires-clause-order c = c.loop-place.invariant.order

pub returns-in_err-add_point_at-clause-keeps : goal.returns-in_err-add_point_at-clause-keeps
returns-in_err-add_point_at-clause-keeps c =
    points_keep c.args.program.now c.args.tables.now c.loop-place.tables c.add_point_at.new.tables c.args.context c.loop-place.place c.loop-place.invariant c.add_point_at.ensures.keeps

pub returns-clause-points : goal.returns-clause-points
returns-clause-points c = λ s w.
    points_before s c.loop-place.tables (the_context (contexts_of c.args.tables.now) c.args.context) c.loop-place.place (length c.args.code.now.ops)
    (subst (λ n. n ≤ c.loop-place.place) (c.len-places.ensures ∙ ap (λ (k : Code). length k.ops) c.code.ensures.code) c.loop-place-test.false) (c.loop-place.invariant.points s w)
