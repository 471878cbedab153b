use Rattle.std.proofs.Common.{sym, subst}
use Rattle.flow_graph.specs.Flows.{with_edge}
use Rattle.typegraph.specs.Graphs.{with_flow}
use Rattle.world_rules.specs.Items.{an_edge}
use Rattle.world_rules.specs.Rules.{Gives}
use Rattle.world_tables.specs.Tables.{edge_at, items_of, AreTables}
use Rattle.world_tables.specs.Rows.{tables_of}
use Rattle.world_tables.specs.contracts.tables.Tables as tables
use Rattle.world_tables.proofs.Answered.{by_answer}
use Rattle.world_tables.proofs.Growth.{kept_edge, edge_keeps}
use Rattle.world_tables.proofs.tables.Tables.add_edge.Goals as goal

pub invariant_of-self : goal.invariant_of-self
invariant_of-self c =
    by_answer c.add_edge-added.result c.self.inside.graph (with_flow (with_edge c.args.edge c.self.inside.graph.flow) c.self.inside.graph) c.add_edge-added.new.self c.add_edge-added.ensures.fresh c.add_edge-added.ensures.known c.add_edge-added.ensures.refused _
    (λ _ e. subst (λ g. tables.the_invariant (record c.self.inside { graph = g })) (sym e) (kept_edge _ c.self.invariant.0 c.args.edge, c.self.invariant.1))
    (λ e. subst (λ g. tables.the_invariant (record c.self.inside { graph = g })) (sym e) c.self.invariant)

pub returns-clause-keeps : goal.returns-clause-keeps
returns-clause-keeps c = λ s a g.
    by_answer c.add_edge-added.result c.self.inside.graph (with_flow (with_edge c.args.edge c.self.inside.graph.flow) c.self.inside.graph) c.add_edge-added.new.self c.add_edge-added.ensures.fresh c.add_edge-added.ensures.known c.add_edge-added.ensures.refused _
    (λ _ e. subst (λ h. AreTables s (tables_of (tables.the_view (record c.self.inside { graph = h })))) (sym e)
    (edge_keeps (tables.the_view c.self.inside) s c.args.edge (subst (λ w. AreTables s (tables_of w)) (sym c.self.view_is) a) (subst (λ w. Gives s (items_of (tables_of w)) (an_edge (edge_at (tables_of w) c.args.edge))) (sym c.self.view_is) g)
    c.add_edge-added.new.self e c.validity.ensures.flow c.validity.ensures.graph))
    (λ e. subst (λ h. AreTables s (tables_of (tables.the_view (record c.self.inside { graph = h })))) (sym e) (subst (λ w. AreTables s (tables_of w)) (sym c.self.view_is) a))
