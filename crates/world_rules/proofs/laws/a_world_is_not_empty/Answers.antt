-- Item by item.
use Rattle.world_rules.proofs.Samples.{stored_derived}
use Rattle.world_rules.proofs.laws.a_world_is_not_empty.Goals as goal

pub returns : goal.returns
returns c = stored_derived
