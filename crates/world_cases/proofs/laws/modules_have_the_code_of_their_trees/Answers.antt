-- By computing.
use Rattle.std.proofs.Common.{refl}
use Rattle.world_cases.proofs.laws.modules_have_the_code_of_their_trees.Goals as goal

pub returns-clause-line : goal.returns-clause-line
returns-clause-line c = (refl, refl)

pub returns-clause-unknown : goal.returns-clause-unknown
returns-clause-unknown c = (refl, refl)

pub returns-clause-sum : goal.returns-clause-sum
returns-clause-sum c = (refl, refl)

pub returns-clause-outside : goal.returns-clause-outside
returns-clause-outside c = (refl, refl)

pub returns-clause-loop_code : goal.returns-clause-loop_code
returns-clause-loop_code c = (refl, refl)

pub returns-clause-branch_code : goal.returns-clause-branch_code
returns-clause-branch_code c = (refl, refl)
