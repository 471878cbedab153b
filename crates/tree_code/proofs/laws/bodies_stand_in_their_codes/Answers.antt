-- A closed piece stands from the first place on, and its parts stand in it.
use Rattle.tree_code.proofs.Bodies.{module_lies, module_ends, fun_lies}
use Rattle.tree_code.proofs.laws.bodies_stand_in_their_codes.Goals as goal

pub returns-clause-modules : goal.returns-clause-modules
returns-clause-modules c = λ error body. module_lies error body

pub returns-clause-module_ends : goal.returns-clause-module_ends
returns-clause-module_ends c = λ error body. module_ends error body

pub returns-clause-params : goal.returns-clause-params
returns-clause-params c = λ error f. (fun_lies error f).params

pub returns-clause-functions : goal.returns-clause-functions
returns-clause-functions c = λ error f. (fun_lies error f).body

pub returns-clause-function_ends : goal.returns-clause-function_ends
returns-clause-function_ends c = λ error f. (fun_lies error f).ends
