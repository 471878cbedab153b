use Rattle.tree_covering.proofs.Functions.{runs_read, each_read}
use Rattle.tree_covering.proofs.laws.functions_are_numbered_alike.Goals as goal

pub returns-clause-each : goal.returns-clause-each
returns-clause-each c = λ m stubs number d e. each_read m stubs number d e

pub returns-clause-no_others : goal.returns-clause-no_others
returns-clause-no_others c = λ m stubs number. runs_read m stubs number
