-- By induction on both numbers.
use Rattle.world_rules.proofs.Counted.{slots_counted}
use Rattle.world_rules.proofs.laws.slots_are_counted.Goals as goal

pub returns : goal.returns
returns c = slots_counted
