-- A list without repetition is no longer than a list that has its elements.
use Rattle.world_rules.proofs.Least.{no_fewer}
use Rattle.world_rules.proofs.laws.a_larger_world_is_no_smaller.Goals as goal

pub returns : goal.returns
returns c = λ s limit items more l few. no_fewer s limit items more l few
