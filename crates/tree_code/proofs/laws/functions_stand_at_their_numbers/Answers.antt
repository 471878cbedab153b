-- By induction on the statements; the methods of a class are numbered in their order.
use Rattle.tree_code.proofs.Numbers.{fun_number, class_number_is, locals_map}
use Rattle.tree_code.proofs.laws.functions_stand_at_their_numbers.Goals as goal

pub returns-clause-functions : goal.returns-clause-functions
returns-clause-functions c = λ body number d h e. fun_number body number d h e

pub returns-clause-classes : goal.returns-clause-classes
returns-clause-classes c = λ body number x h e. class_number_is body number x h e

pub returns-clause-locals : goal.returns-clause-locals
returns-clause-locals c = λ body. locals_map body
