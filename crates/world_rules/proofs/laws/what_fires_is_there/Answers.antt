-- A closed world has what the rules of a point give.
use Rattle.world_rules.proofs.Extending.{fact_there, entry_there}
use Rattle.world_rules.proofs.laws.what_fires_is_there.Goals as goal

pub returns-clause-facts : goal.returns-clause-facts
returns-clause-facts c = λ s items closed. fact_there s items closed

pub returns-clause-entries : goal.returns-clause-entries
returns-clause-entries c = λ s items closed. entry_there s items closed
