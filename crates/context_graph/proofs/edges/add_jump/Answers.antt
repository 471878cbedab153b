use Rattle.std.proofs.Common.{refl, sym}
use Rattle.world_tables.specs.Rows.{tables_of}
use Rattle.context_graph.proofs.EdgeMore.{on_ok, jump_led, jump_here, jump_missing, branch_there, no_goal}
use Rattle.context_graph.proofs.EdgeSteps.{stands_of}
use Rattle.context_graph.proofs.edges.add_jump.Goals as goal

pub returns-in-Some-point_of-clause-keeps : goal.returns-in-Some-point_of-clause-keeps
returns-in-Some-point_of-clause-keeps c = λ s a is.
    let b = branch_there c.args.op.now c.in-Some.goal (sym c.in-Some.ensures) in
    let led = jump_led s c.args.tables.now c.args.code.now c.args.at.now c.args.op.now is c.requires.valid c.in-Some-point_of.to c.jump_test.result b.branch_is b.is c.in-Some.goal (sym c.in-Some.ensures) c.in-Some-point_of.ensures.found
    (c.jump_test.ensures.test (tables_of c.args.tables.now)) in
    c.add_edge.ensures.keeps s c.args.op.now a (stands_of s c.args.tables.now c.args.code.now c.args.at.now c.args.op.now is) led.leads led.point

pub returns-in-Some-point_of-clause-jump : goal.returns-in-Some-point_of-clause-jump
returns-in-Some-point_of-clause-jump c = λ s a is have.
    on_ok c.add_edge.result (λ has.
    jump_here s c.args.tables.now c.add_edge.new.tables c.args.code.now c.args.at.now c.args.op.now is c.requires.valid c.in-Some-point_of.to c.in-Some.goal c.jump_test.result (sym c.in-Some.ensures) c.in-Some-point_of.ensures.found
    (c.jump_test.ensures.test (tables_of c.args.tables.now)) has)
    c.add_edge.ensures.has

pub returns-in-None-point_of-clause-jump : goal.returns-in-None-point_of-clause-jump
returns-in-None-point_of-clause-jump c = λ s a is have.
    jump_missing s c.args.tables.now c.args.code.now c.args.at.now c.args.op.now c.in-Some.goal c.in-None-point_of.ensures.kept a c.requires.there is have (sym c.in-Some.ensures) (c.in-None-point_of.ensures.none refl)

pub returns-in-None-clause-jump : goal.returns-in-None-clause-jump
returns-in-None-clause-jump c = λ s a is have b is_branch to. no_goal c.args.op.now b is_branch c.in-None.ensures
