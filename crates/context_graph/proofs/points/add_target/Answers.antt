use Rattle.std.proofs.Common.{Some, ap, ◌∙◌}
use Rattle.context_graph.proofs.VariableSteps.{written_used, variable_number}
use Rattle.context_graph.proofs.points.add_target.Goals as goal

pub returns-in_err-var-in-Some-clause-keeps : goal.returns-in_err-var-in-Some-clause-keeps
returns-in_err-var-in-Some-clause-keeps c = λ s w stands.
    c.add_variable.ensures.keeps s c.args.at.now.context w.tables
    (written_used s c.args.program.now c.args.tables.now c.args.at.now c.args.op.now c.in-Some.spot w.source c.requires.there stands c.in-Some.ensures.stands)

pub returns-in_ok-var-in-Some-clause-keeps : goal.returns-in_ok-var-in-Some-clause-keeps
returns-in_ok-var-in-Some-clause-keeps c = λ s w stands.
    c.add_variable.ensures.keeps s c.args.at.now.context w.tables
    (written_used s c.args.program.now c.args.tables.now c.args.at.now c.args.op.now c.in-Some.spot w.source c.requires.there stands c.in-Some.ensures.stands)

pub returns-in_ok-var-in-Some-clause-target : goal.returns-in_ok-var-in-Some-clause-target
returns-in_ok-var-in-Some-clause-target c =
    ap Some (variable_number c.args.tables.now c.add_variable.new.tables c.in_ok-var-in-Some.var c.in-Some.spot c.in_ok-var-in-Some.ensures.step.grown.contexts c.in_ok-var-in-Some.ensures.numbered) ∙ c.in-Some.ensures.stands
