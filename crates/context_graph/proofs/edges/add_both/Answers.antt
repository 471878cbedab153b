use Rattle.std.proofs.Common.{sym, subst, length}
use Rattle.world_tables.specs.Rows.{the_context, contexts_of, tables_of}
use Rattle.context_graph.specs.Places.{HasJump, HavePoints}
use Rattle.context_graph.proofs.EdgeMore.{on_ok, ok_always, fall_stays, op_on, points_on}
use Rattle.context_graph.proofs.Parts.{part_on}
use Rattle.context_graph.proofs.edges.add_both.Goals as goal

pub returns-clause-keeps : goal.returns-clause-keeps
returns-clause-keeps c = λ s a is.
    let grown = c.add_fall.ensures.step.grown in
    let p = c.add_fall.ensures.keeps s a is in
    part_on s c.args.at.now.context c.args.tables.now c.add_fall.new.tables c.add_jump.new.tables grown p
    (c.add_jump.ensures.keeps s p.tables (op_on s c.args.tables.now c.add_fall.new.tables c.args.code.now c.args.at.now c.args.op.now grown is))

pub returns-clause-fall : goal.returns-clause-fall
returns-clause-fall c = λ s a is have.
    let grown = c.add_fall.ensures.step.grown in
    let p = c.add_fall.ensures.keeps s a is in
    ok_always c.add_jump.result (fall_stays s c.add_fall.new.tables c.add_jump.new.tables (the_context (contexts_of c.args.tables.now) c.args.at.now.context) c.args.at.now.place c.args.at.now.depth c.args.op.now
    (c.add_jump.ensures.keeps s p.tables (op_on s c.args.tables.now c.add_fall.new.tables c.args.code.now c.args.at.now c.args.op.now grown is)).items.contained (c.in_ok-add_fall.ensures.fall s a is have))

pub returns-clause-jump : goal.returns-clause-jump
returns-clause-jump c = λ s a is have.
    let grown = c.add_fall.ensures.step.grown in
    let p = c.add_fall.ensures.keeps s a is in
    on_ok c.add_jump.result (λ has. subst (λ cs. HasJump s (tables_of c.add_jump.new.tables) (the_context cs c.args.at.now.context) c.args.at.now.place c.args.at.now.depth c.args.op.now) grown.contexts has)
    (c.add_jump.ensures.jump s p.tables (op_on s c.args.tables.now c.add_fall.new.tables c.args.code.now c.args.at.now c.args.op.now grown is)
    (points_on s c.args.tables.now c.add_fall.new.tables (the_context (contexts_of c.add_fall.new.tables) c.args.at.now.context) (length c.args.code.now.ops) grown
    (subst (λ cs. HavePoints s (tables_of c.args.tables.now) (the_context cs c.args.at.now.context) (length c.args.code.now.ops)) (sym grown.contexts) have)))
