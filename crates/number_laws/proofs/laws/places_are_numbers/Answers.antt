use Rattle.tree_code.proofs.Numbers.{fun_number, class_number_is}
use Rattle.number_laws.proofs.Numbers.{module_numbered}
use Rattle.number_laws.proofs.laws.places_are_numbers.Goals as goal

pub returns-clause-functions : goal.returns-clause-functions
returns-clause-functions c = λ t m number d is e. fun_number m.body number d (module_numbered t m is) e

pub returns-clause-classes : goal.returns-clause-classes
returns-clause-classes c = λ t m number k is e. class_number_is m.body number k (module_numbered t m is) e
