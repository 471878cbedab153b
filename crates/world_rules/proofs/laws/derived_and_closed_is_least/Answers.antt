-- By induction on how an item was built.
use Rattle.world_rules.proofs.Least.{within, least}
use Rattle.world_rules.proofs.laws.derived_and_closed_is_least.Goals as goal

pub returns-clause-within : goal.returns-clause-within
returns-clause-within c = λ s items other d closed. within s other closed items d

pub returns-clause-least : goal.returns-clause-least
returns-clause-least c = λ s items d closed. least s items d closed
