use Rattle.tree_covering.proofs.Faultless.{module_may, function_may}
use Rattle.tree_covering.proofs.laws.jumps_stand_where_they_may.Goals as goal

pub returns-clause-modules : goal.returns-clause-modules
returns-clause-modules c = λ m none. module_may m none

pub returns-clause-functions : goal.returns-clause-functions
returns-clause-functions c = λ m number d none at. function_may m number d none at
