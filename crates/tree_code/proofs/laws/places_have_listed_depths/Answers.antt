-- The listed depths stand at the places of the code, and no place gets another.
use Rattle.tree_code.proofs.Programs.{module_listed, fun_listed}
use Rattle.tree_code.proofs.laws.places_have_listed_depths.Goals as goal

pub returns-clause-modules : goal.returns-clause-modules
returns-clause-modules c = λ error body. module_listed error body

pub returns-clause-functions : goal.returns-clause-functions
returns-clause-functions c = λ error f. fun_listed error f
