use Rattle.context_graph.proofs.Parts.{part_items}
use Rattle.context_graph.proofs.VariableSteps.{variable_step, variable_points}
use Rattle.context_graph.proofs.variables.add_variable.Goals as goal

pub returns-in-Ok-clause-points : goal.returns-in-Ok-clause-points
returns-in-Ok-clause-points c =
    variable_points c.add_variable-added.result c.args.tables.now c.add_variable-added.new.self c.args.spot.now c.add_variable-added.ensures.known c.add_variable-added.ensures.fresh c.add_variable-added.ensures.refused

pub returns-in-Ok-clause-step : goal.returns-in-Ok-clause-step
returns-in-Ok-clause-step c =
    variable_step c.add_variable-added.result c.args.tables.now c.add_variable-added.new.self c.args.spot.now c.add_variable-added.ensures.known c.add_variable-added.ensures.fresh c.add_variable-added.ensures.refused

pub returns-in-Err-clause-points : goal.returns-in-Err-clause-points
returns-in-Err-clause-points c =
    variable_points c.add_variable-added.result c.args.tables.now c.add_variable-added.new.self c.args.spot.now c.add_variable-added.ensures.known c.add_variable-added.ensures.fresh c.add_variable-added.ensures.refused

pub returns-in-Err-clause-step : goal.returns-in-Err-clause-step
returns-in-Err-clause-step c =
    variable_step c.add_variable-added.result c.args.tables.now c.add_variable-added.new.self c.args.spot.now c.add_variable-added.ensures.known c.add_variable-added.ensures.fresh c.add_variable-added.ensures.refused

pub returns-in-Ok-clause-keeps : goal.returns-in-Ok-clause-keeps
returns-in-Ok-clause-keeps c = λ s context a used.
    let k = c.add_variable-added.ensures.keeps s a used in part_items s context c.args.tables.now c.add_variable-added.new.self k.0 k.1

pub returns-in-Err-clause-keeps : goal.returns-in-Err-clause-keeps
returns-in-Err-clause-keeps c = λ s context a used.
    let k = c.add_variable-added.ensures.keeps s a used in part_items s context c.args.tables.now c.add_variable-added.new.self k.0 k.1
