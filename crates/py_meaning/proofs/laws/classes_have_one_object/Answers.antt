use Rattle.py_meaning.proofs.KeptModules
use Rattle.py_meaning.proofs.laws.classes_have_one_object.Goals as goal

pub returns : goal.returns
returns c = KeptModules.classes_have_one_object
