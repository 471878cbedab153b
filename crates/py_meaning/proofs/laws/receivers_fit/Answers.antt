use Rattle.py_meaning.proofs.KeptModules
use Rattle.py_meaning.proofs.laws.receivers_fit.Goals as goal

pub returns : goal.returns
returns c = KeptModules.receivers_fit
