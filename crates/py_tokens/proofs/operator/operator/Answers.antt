use Rattle.py_tokens.proofs.OperatorLemmas.{operator_within}
use Rattle.py_tokens.proofs.operator.operator.Goals as goal

pub returns-clause-within : goal.returns-clause-within
returns-clause-within c = operator_within c.args.bytes.now c.find_operator.result c.find_operator.ensures
