use Rattle.std.proofs.Common.{refl, sym, subst, suc, add-one}
use Rattle.std.specs.List.{Contains}
use Rattle.world_rules.specs.Items.{an_edge}
use Rattle.world_tables.specs.Tables.{items_of}
use Rattle.world_tables.specs.Rows.{tables_of}
use Rattle.context_graph.specs.Places.{IsSpotAt}
use Rattle.context_graph.proofs.EdgeMore.{on_ok, point_missing, fall_same, fall_led}
use Rattle.context_graph.proofs.EdgeSteps.{stands_of}
use Rattle.context_graph.proofs.edges.add_fall.Goals as goal

pub returns-in-Some-clause-keeps : goal.returns-in-Some-clause-keeps
returns-in-Some-clause-keeps c = λ s a is.
    let way = c.goes_on.ensures.on c.if-goes_on.true in
    let led = fall_led s c.args.tables.now c.args.code.now c.args.at.now c.args.op.now is c.requires.valid c.in-Some.to c.fall_test.result way.0 way.1 c.in-Some.ensures.found (c.fall_test.ensures.test (tables_of c.args.tables.now)) in
    c.add_edge.ensures.keeps s c.args.op.now a (stands_of s c.args.tables.now c.args.code.now c.args.at.now c.args.op.now is) led.leads led.point

pub returns-in-Some-clause-fall : goal.returns-in-Some-clause-fall
returns-in-Some-clause-fall c = λ s a is have.
    let way = c.goes_on.ensures.on c.if-goes_on.true in
    on_ok c.add_edge.result (λ has f n to.
    subst (λ e. Contains (items_of (tables_of c.add_edge.new.tables)) (an_edge e))
    (fall_same s c.args.tables.now c.args.code.now c.args.at.now c.args.op.now is c.requires.valid c.in-Some.to c.fall_test.result way.0 way.1 c.in-Some.ensures.found (c.fall_test.ensures.test (tables_of c.args.tables.now))) has)
    c.add_edge.ensures.has

pub returns-in-None-clause-fall : goal.returns-in-None-clause-fall
returns-in-None-clause-fall c = λ s a is have f n to.
    point_missing s c.args.tables.now c.args.code.now c.args.at.now c.args.op.now c.in-None.ensures.kept a c.requires.there is.of have (suc c.args.at.now.place) _
    (λ other h. c.in-None.ensures.none refl other (subst (λ n. IsSpotAt c.args.code.now c.args.at.now.context n other) (sym (add-one c.args.at.now.place)) h)) to
