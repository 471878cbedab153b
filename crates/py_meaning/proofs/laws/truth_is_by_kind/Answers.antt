use Rattle.py_meaning.proofs.KindTables
use Rattle.py_meaning.proofs.laws.truth_is_by_kind.Goals as goal

pub returns : goal.returns
returns c = KindTables.truth_is_by_kind
