use Rattle.py_meaning.proofs.KeptModules
use Rattle.py_meaning.proofs.laws.references_point_in.Goals as goal

pub returns : goal.returns
returns c = KeptModules.references_point_in
