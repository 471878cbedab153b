use Rattle.py_meaning.proofs.FreshKinds
use Rattle.py_meaning.proofs.laws.fresh_is_of_a_kind.Goals as goal

pub returns : goal.returns
returns c = FreshKinds.fresh_is_of_a_kind
