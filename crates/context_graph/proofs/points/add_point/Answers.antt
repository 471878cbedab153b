use Rattle.std.proofs.Common.{sym, subst}
use Rattle.std.specs.List.{Contains}
use Rattle.graph_walks.proofs.Lists.{got}
use Rattle.world_tables.specs.Rows.{WorldRows}
use Rattle.context_graph.specs.Growth.{IsStep}
use Rattle.context_graph.proofs.Grown.{step_on, step_point}
use Rattle.context_graph.proofs.Parts.{part_items, part_on}
use Rattle.context_graph.proofs.PointSteps.{new_point, not_there, order_more, order_next}
use Rattle.context_graph.proofs.points.add_point.Goals as goal

pub returns-in_err-target-clause-order : goal.returns-in_err-target-clause-order
returns-in_err-target-clause-order c = λ other m e. order_more c.args.tables.now.points c.args.at.now.context c.args.at.now.place c.requires.order other (subst (λ ps. Contains ps other) c.in_err-target.ensures.points m) e

pub returns-in_err-target-clause-keeps : goal.returns-in_err-target-clause-keeps
returns-in_err-target-clause-keeps c = λ s w stands have. c.add_target.ensures.keeps s w stands

pub add_point-requires-clause-order : goal.add_point-requires-clause-order
add_point-requires-clause-order c = λ new other m e. c.requires.order other (subst (λ ps. Contains ps other) c.in_ok-target.ensures.points m) e

pub returns-in-Ok-clause-step : goal.returns-in-Ok-clause-step
returns-in-Ok-clause-step c =
    let e = c.in-Ok.ensures.fresh (λ m. not_there c.args.tables.now.points c.args.at.now c.requires.order (subst (λ ps. Contains ps c.args.at.now) c.in_ok-target.ensures.points m)) in
    step_on c.args.tables.now c.add_target.new.tables c.add_point.new.self c.in_ok-target.ensures.step
    (subst (IsStep c.add_target.new.tables) (sym e) (step_point c.add_target.new.tables c.kept.ensures.kept c.kept.ensures.valid c.args.at.now c.in_ok-target.target c.is_root-root.result))

pub returns-in-Ok-clause-order : goal.returns-in-Ok-clause-order
returns-in-Ok-clause-order c = λ other m same.
    let e = c.in-Ok.ensures.fresh (λ m. not_there c.args.tables.now.points c.args.at.now c.requires.order (subst (λ ps. Contains ps c.args.at.now) c.in_ok-target.ensures.points m)) in
    order_next c.add_target.new.tables.points c.args.at.now (λ other m same. c.requires.order other (subst (λ ps. Contains ps other) c.in_ok-target.ensures.points m) same) other
    (subst (λ (w : WorldRows). Contains w.points other) e m) same

pub returns-in-Ok-clause-there : goal.returns-in-Ok-clause-there
returns-in-Ok-clause-there c = got c.add_point.new.self.points _ c.args.at.now c.in-Ok.ensures.numbered

pub returns-in-Ok-clause-keeps : goal.returns-in-Ok-clause-keeps
returns-in-Ok-clause-keeps c = λ s w stands have.
    let p = c.add_target.ensures.keeps s w stands in
    let k = c.add_point.ensures.keeps s p.tables (new_point s c.args.program.now c.args.tables.now c.add_target.new.tables c.args.at.now c.args.op.now c.in_ok-target.target c.is_root-root.result w.source c.in_ok-target.ensures.step.grown stands have
    c.in_ok-target.ensures.target c.is_root-root.ensures) in
    part_on s c.args.at.now.context c.args.tables.now c.add_target.new.tables c.add_point.new.self c.in_ok-target.ensures.step.grown p (part_items s c.args.at.now.context c.add_target.new.tables c.add_point.new.self k.0 k.1)

pub returns-in-Err-clause-order : goal.returns-in-Err-clause-order
returns-in-Err-clause-order c = λ other m same.
    order_more c.args.tables.now.points c.args.at.now.context c.args.at.now.place c.requires.order other
    (subst (λ ps. Contains ps other) c.in_ok-target.ensures.points (subst (λ (w : WorldRows). Contains w.points other) c.in-Err.ensures.refused m)) same

pub returns-in-Err-clause-keeps : goal.returns-in-Err-clause-keeps
returns-in-Err-clause-keeps c = λ s w stands have.
    let p = c.add_target.ensures.keeps s w stands in
    let k = c.add_point.ensures.keeps s p.tables (new_point s c.args.program.now c.args.tables.now c.add_target.new.tables c.args.at.now c.args.op.now c.in_ok-target.target c.is_root-root.result w.source c.in_ok-target.ensures.step.grown stands have
    c.in_ok-target.ensures.target c.is_root-root.ensures) in
    part_on s c.args.at.now.context c.args.tables.now c.add_target.new.tables c.add_point.new.self c.in_ok-target.ensures.step.grown p (part_items s c.args.at.now.context c.add_target.new.tables c.add_point.new.self k.0 k.1)
