-- By induction on how an item was built.
use Rattle.world_rules.proofs.Programs.{derived_of}
use Rattle.world_rules.proofs.laws.derived_items_are_of_the_program.Goals as goal

pub returns : goal.returns
returns c = λ s i d. derived_of s i d
