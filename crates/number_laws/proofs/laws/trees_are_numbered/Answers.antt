use Rattle.number_laws.proofs.Numbers.{module_numbered}
use Rattle.number_laws.proofs.laws.trees_are_numbered.Goals as goal

pub returns : goal.returns
returns c = λ t m is. module_numbered t m is
