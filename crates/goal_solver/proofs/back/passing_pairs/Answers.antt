use Rattle.std.proofs.Common.{◌≡◌, ◌∙◌, arith, ap, sym, subst, map, take, Some, length}
use Rattle.std.proofs.Math.Seq.{take-length}
use Rattle.std.specs.List.{filter}
use Rattle.goal_solver.specs.Backs.{passes_test, AreAsked}
use Rattle.goal_solver.proofs.Tables.{asked_some}
use Rattle.goal_solver.proofs.back.passing_pairs.Goals as goal

pub returns : goal.returns
returns c =
    let last : c.loop-shape.shape-index ≡ length c.shapes_of-shape-items.result.now = omega arith in
    subst (λ pairs. AreAsked c.args.graph.now (Some c.args.ask.now) pairs)
    (sym (c.loop-shape.invariant ∙ ap (λ xs. map (λ s. Some (record { var = c.args.ask.now.var; shape = s })) (filter (passes_test c.args.graph.now.truths c.args.ask.now.test) xs))
    (ap (λ n. take n c.shapes_of-shape-items.result.now) last ∙ take-length c.shapes_of-shape-items.result.now)))
    (asked_some c.args.graph.now c.args.ask.now c.shapes_of-shape-items.result.now c.shapes_of-shape-items.ensures.given)
