use Rattle.std.proofs.Common.{length, sym, subst}
use Rattle.std.specs.List.{Contains}
use Rattle.flow_graph.specs.declared.context.Context.{Context as ContextRow}
use Rattle.flow_graph.specs.Flows.{with_context}
use Rattle.typegraph.specs.Graphs.{with_flow}
use Rattle.world_rules.specs.Items.{a_context}
use Rattle.world_rules.specs.Rules.{Gives}
use Rattle.world_tables.specs.Tables.{items_of, AreTables}
use Rattle.world_tables.specs.Rows.{contexts_of, context_of, tables_of, IsCall}
use Rattle.world_tables.specs.contracts.tables.Tables as tables
use Rattle.world_tables.proofs.Answered.{by_id, known_or_new}
use Rattle.world_tables.proofs.Growth.{kept_context, context_keeps}
use Rattle.world_tables.proofs.NewContexts.{new_context}
use Rattle.world_tables.proofs.tables.Tables.add_context.Goals as goal

pub invariant_of-self : goal.invariant_of-self
invariant_of-self c =
    let row : ContextRow = record { parent = c.args.parent; call = c.args.call; fun = c.args.fun } in
    known_or_new c.self.inside.graph.flow.contexts row _
    (λ k. subst (λ g. tables.the_invariant (record c.self.inside { graph = g })) (sym (c.add_context-added.ensures.known k).1) c.self.invariant)
    (λ n. by_id c.add_context-added.result c.self.inside.graph (with_flow (with_context row c.self.inside.graph.flow) c.self.inside.graph) c.add_context-added.new.self (c.add_context-added.ensures.fresh n) c.add_context-added.ensures.refused _
    (λ e. subst (λ g. tables.the_invariant (record c.self.inside { graph = g })) (sym e)
    (kept_context (tables.the_view c.self.inside) c.self.invariant.0 row (subst (λ w. IsCall w.points (length w.graph.flow.contexts) c.args.parent c.args.call c.args.fun) (sym c.self.view_is) c.requires.call), c.self.invariant.1))
    (λ e. subst (λ g. tables.the_invariant (record c.self.inside { graph = g })) (sym e) c.self.invariant))

pub returns-clause-apart : goal.returns-clause-apart
returns-clause-apart c = λ s a n k.
    let row : ContextRow = record { parent = c.args.parent; call = c.args.call; fun = c.args.fun } in
    new_context (tables.the_view c.self.inside) c.self.invariant.0 s (subst (λ w. AreTables s (tables_of w)) (sym c.self.view_is) a) row
    (subst (λ w. IsCall w.points (length w.graph.flow.contexts) c.args.parent c.args.call c.args.fun) (sym c.self.view_is) c.requires.call)
    (subst (λ w. Contains w.graph.flow.contexts row → ⊥) (sym c.self.view_is) n)
    (subst (λ w. Contains (contexts_of w) (context_of (contexts_of w) w.points row)) (sym c.self.view_is) k)

pub returns-clause-keeps : goal.returns-clause-keeps
returns-clause-keeps c = λ s a n g.
    let row : ContextRow = record { parent = c.args.parent; call = c.args.call; fun = c.args.fun } in
    let b : AreTables s (tables_of (tables.the_view c.self.inside)) = subst (λ w. AreTables s (tables_of w)) (sym c.self.view_is) a in
    let m : Contains (tables.the_view c.self.inside).graph.flow.contexts row → ⊥ = subst (λ w. Contains w.graph.flow.contexts row → ⊥) (sym c.self.view_is) n in
    by_id c.add_context-added.result c.self.inside.graph (with_flow (with_context row c.self.inside.graph.flow) c.self.inside.graph) c.add_context-added.new.self
    (c.add_context-added.ensures.fresh m) c.add_context-added.ensures.refused _
    (λ e. subst (λ h. AreTables s (tables_of (tables.the_view (record c.self.inside { graph = h })))) (sym e)
    (context_keeps (tables.the_view c.self.inside) c.self.invariant.0 s row b
    (new_context (tables.the_view c.self.inside) c.self.invariant.0 s b row (subst (λ w. IsCall w.points (length w.graph.flow.contexts) c.args.parent c.args.call c.args.fun) (sym c.self.view_is) c.requires.call) m)
    (subst (λ w. Gives s (items_of (tables_of w)) (a_context (context_of (contexts_of w) w.points row))) (sym c.self.view_is) g)
    c.add_context-added.new.self e c.validity.ensures.flow c.validity.ensures.graph))
    (λ e. subst (λ h. AreTables s (tables_of (tables.the_view (record c.self.inside { graph = h })))) (sym e) b)
