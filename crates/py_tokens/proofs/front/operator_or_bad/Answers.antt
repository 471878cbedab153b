-- An operator is ASCII.
use Rattle.py_tokens.proofs.Cuts.{operator_at}
use Rattle.py_tokens.proofs.front.operator_or_bad.Goals as goal

pub returns-in-Some-clause-fits : goal.returns-in-Some-clause-fits
returns-in-Some-clause-fits c = operator_at c.as_bytes.result.now c.args.text.now c.in-Some.found c.as_bytes.ensures.value c.utf8.text c.in-Some.ensures.exact c.in-Some.ensures.within
