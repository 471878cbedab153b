use Rattle.std.proofs.Common.{sym, refl, subst, Option, IsSome}
use Rattle.flow_graph.specs.declared.edge.Test.{Test}
use Rattle.world_tables.specs.Tables.{IsUsedIn}
use Rattle.world_tables.specs.Rows.{contexts_of}
use Rattle.context_graph.proofs.VariableSteps.{ask_is}
use Rattle.context_graph.proofs.edges.ask_top.Goals as goal

pub returns-in_err-var-clause-keeps : goal.returns-in_err-var-clause-keeps
returns-in_err-var-clause-keeps c = λ s a used.
    c.add_variable.ensures.keeps s c.args.at.now.context a
    (subst (IsUsedIn s (contexts_of c.args.tables.now)) (sym (c.top_spot.ensures.stands (contexts_of c.args.tables.now))) (used (subst (λ (o : Option Test). IsSome o) (sym c.in-Some.is) refl)))

pub returns-clause-keeps : goal.returns-clause-keeps
returns-clause-keeps c = λ s a used.
    c.add_variable.ensures.keeps s c.args.at.now.context a
    (subst (IsUsedIn s (contexts_of c.args.tables.now)) (sym (c.top_spot.ensures.stands (contexts_of c.args.tables.now))) (used (subst (λ (o : Option Test). IsSome o) (sym c.in-Some.is) refl)))

pub returns-clause-asks : goal.returns-clause-asks
returns-clause-asks c =
    ask_is c.args.tables.now c.add_variable.new.tables c.args.at.now c.in_ok-var.var c.top_spot.result c.in-Some.test c.args.test c.in-Some.is c.requires.plain c.in_ok-var.ensures.step.grown.contexts c.in_ok-var.ensures.numbered
    (c.top_spot.ensures.stands (contexts_of c.args.tables.now))
