-- A closed world of derived items is the least.
use Rattle.world_tables.proofs.Quiet.{quiet_least, round_least}
use Rattle.world_tables.proofs.laws.a_quiet_world_is_least.Goals as goal

pub returns-clause-least : goal.returns-clause-least
returns-clause-least c = λ s t a all. quiet_least s t a all

pub returns-clause-round : goal.returns-clause-round
returns-clause-round c = λ s t a all. round_least s t a all
