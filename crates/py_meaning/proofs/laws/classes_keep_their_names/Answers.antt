use Rattle.py_meaning.proofs.ClassNames
use Rattle.py_meaning.proofs.laws.classes_keep_their_names.Goals as goal

pub returns : goal.returns
returns c = ClassNames.classes_keep_their_names
