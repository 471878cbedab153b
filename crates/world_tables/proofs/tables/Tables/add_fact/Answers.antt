use Rattle.std.proofs.Common.{length, sym, subst}
use Rattle.std.specs.List.{All}
use Rattle.typegraph.specs.Validity.{IsBindingThere}
use Rattle.world_rules.specs.Items.{a_fact}
use Rattle.world_rules.specs.Rules.{GivesAt}
use Rattle.world_tables.specs.Tables.{the_point, the_shape, memory_at, items_of, AreTables}
use Rattle.world_tables.specs.Rows.{tables_of}
use Rattle.world_tables.specs.contracts.tables.Tables as tables
use Rattle.world_tables.proofs.Answered.{by_fact}
use Rattle.world_tables.proofs.FactGrowth.{keeps_with}
use Rattle.world_tables.proofs.Growth.{kept_fact}
use Rattle.world_tables.proofs.tables.Tables.add_fact.Goals as goal

pub invariant_of-self : goal.invariant_of-self
invariant_of-self c =
    by_fact c.add_fact-added.result c.self.inside.graph c.add_fact-added.new.self c.args.point c.args.shape c.args.source.now c.add_fact-added.ensures.fresh c.add_fact-added.ensures.known c.add_fact-added.ensures.refused _
    (λ w. subst (λ g. tables.the_invariant (record c.self.inside { graph = g })) (sym w.is) (kept_fact _ c.self.invariant.0 c.args.point (record { shape = c.args.shape; source = w.map }), c.self.invariant.1))
    (λ e. subst (λ g. tables.the_invariant (record c.self.inside { graph = g })) (sym e) c.self.invariant)

pub returns-clause-keeps : goal.returns-clause-keeps
returns-clause-keeps c = λ s a g.
    by_fact c.add_fact-added.result c.self.inside.graph c.add_fact-added.new.self c.args.point c.args.shape c.args.source.now c.add_fact-added.ensures.fresh c.add_fact-added.ensures.known c.add_fact-added.ensures.refused _
    (λ w. subst (λ h. AreTables s (tables_of (tables.the_view (record c.self.inside { graph = h })))) (sym w.is)
    (
    subst (λ x. AreTables s (record (tables_of (tables.the_view c.self.inside)) { graph = x })) w.is
    (keeps_with s (tables_of (tables.the_view c.self.inside)) (subst (λ v. AreTables s (tables_of v)) (sym c.self.view_is) a) c.args.source.now
    (subst (λ v. All (IsBindingThere v.graph.flow.vars (length v.graph.truths)) c.args.source.now) (sym c.self.view_is) c.requires.source)
    c.add_fact-added.new.self c.args.point c.args.shape w c.validity.ensures.graph
    (subst (λ v. GivesAt s (items_of (tables_of v)) (the_point (tables_of v) c.args.point) (a_fact (record { point = the_point (tables_of v) c.args.point; shape = the_shape (tables_of v) c.args.shape; source = memory_at (tables_of v) c.args.source.now }))) (sym c.self.view_is) g))
    ))
    (λ e. subst (λ h. AreTables s (tables_of (tables.the_view (record c.self.inside { graph = h })))) (sym e) (subst (λ w. AreTables s (tables_of w)) (sym c.self.view_is) a))
