use Rattle.std.proofs.Common.{◌<◌, length, sym, subst, ap, ◌∙◌}
use Rattle.std.specs.List.{Contains}
use Rattle.world_rules.specs.Items.{an_edge}
use Rattle.world_tables.specs.Tables.{items_of}
use Rattle.world_tables.specs.Rows.{tables_of}
use Rattle.world_tables.proofs.Items.{below}
use Rattle.context_graph.proofs.EdgeMore.{edge_there, edge_gives, edge_part}
use Rattle.context_graph.proofs.EdgeSteps.{edge_is}
use Rattle.context_graph.proofs.VariableSteps.{asked_used}
use Rattle.context_graph.proofs.edges.add_edge.Goals as goal

pub returns-in_err-asks-clause-keeps : goal.returns-in_err-asks-clause-keeps
returns-in_err-asks-clause-keeps c = λ s o a stands leads to.
    c.ask_top.ensures.keeps s a (asked_used s c.args.tables.now c.args.at.now o c.args.to c.args.assigns c.args.test c.requires.there stands leads to)

pub add_edge-requires-clause-from : goal.add_edge-requires-clause-from
add_edge-requires-clause-from c =
    subst (λ n. c.args.from < n) (ap length (sym c.in_ok-asks.ensures.points) ∙ c.kept.ensures.kept.point_count) (below c.args.tables.now.points c.args.from c.args.at.now c.requires.from)

pub add_edge-requires-clause-to : goal.add_edge-requires-clause-to
add_edge-requires-clause-to c =
    subst (λ n. c.args.to < n) (ap length (sym c.in_ok-asks.ensures.points) ∙ c.kept.ensures.kept.point_count) c.requires.to

pub returns-in_err-_added-clause-keeps : goal.returns-in_err-_added-clause-keeps
returns-in_err-_added-clause-keeps c = λ s o a stands leads to.
    let grown = c.in_ok-asks.ensures.step.grown in
    let is = edge_is c.args.tables.now c.ask_top.new.tables grown.contexts c.in_ok-asks.ensures.points c.args.at.now c.args.from c.args.to c.args.assigns c.in_ok-asks.asks c.args.test c.requires.from c.in_ok-asks.ensures.asks in
    let p = c.ask_top.ensures.keeps s a (asked_used s c.args.tables.now c.args.at.now o c.args.to c.args.assigns c.args.test c.requires.there stands leads to) in
    edge_part s c.args.tables.now c.ask_top.new.tables c.add_edge.new.self c.args.at.now o c.args.to c.args.assigns c.args.test (record { from = c.args.from; to = c.args.to; assigns = c.args.assigns; asks = c.in_ok-asks.asks }) c.add_edge.result
    grown p is stands leads to c.add_edge.ensures.fresh c.add_edge.ensures.known c.add_edge.ensures.refused
    (c.add_edge.ensures.keeps s p.tables (edge_gives s c.args.tables.now c.ask_top.new.tables c.args.at.now o c.args.to c.args.assigns c.args.test _ grown c.requires.there is stands leads to))

pub returns-clause-keeps : goal.returns-clause-keeps
returns-clause-keeps c = λ s o a stands leads to.
    let grown = c.in_ok-asks.ensures.step.grown in
    let is = edge_is c.args.tables.now c.ask_top.new.tables grown.contexts c.in_ok-asks.ensures.points c.args.at.now c.args.from c.args.to c.args.assigns c.in_ok-asks.asks c.args.test c.requires.from c.in_ok-asks.ensures.asks in
    let p = c.ask_top.ensures.keeps s a (asked_used s c.args.tables.now c.args.at.now o c.args.to c.args.assigns c.args.test c.requires.there stands leads to) in
    edge_part s c.args.tables.now c.ask_top.new.tables c.add_edge.new.self c.args.at.now o c.args.to c.args.assigns c.args.test (record { from = c.args.from; to = c.args.to; assigns = c.args.assigns; asks = c.in_ok-asks.asks }) c.add_edge.result
    grown p is stands leads to c.add_edge.ensures.fresh c.add_edge.ensures.known c.add_edge.ensures.refused
    (c.add_edge.ensures.keeps s p.tables (edge_gives s c.args.tables.now c.ask_top.new.tables c.args.at.now o c.args.to c.args.assigns c.args.test _ grown c.requires.there is stands leads to))

pub returns-clause-has : goal.returns-clause-has
returns-clause-has c =
    let is = edge_is c.args.tables.now c.ask_top.new.tables c.in_ok-asks.ensures.step.grown.contexts c.in_ok-asks.ensures.points c.args.at.now c.args.from c.args.to c.args.assigns c.in_ok-asks.asks c.args.test c.requires.from c.in_ok-asks.ensures.asks in
    subst (λ e. Contains (items_of (tables_of c.add_edge.new.self)) (an_edge e)) is
    (edge_there c.add_edge.result c.in_ok-_added._added c.ask_top.new.tables c.add_edge.new.self (record { from = c.args.from; to = c.args.to; assigns = c.args.assigns; asks = c.in_ok-asks.asks }) c.in_ok-_added.was
    (subst (λ n. c.args.to < n) (ap length (sym c.in_ok-asks.ensures.points) ∙ c.kept.ensures.kept.point_count) c.requires.to) c.add_edge.ensures.fresh c.add_edge.ensures.known)
