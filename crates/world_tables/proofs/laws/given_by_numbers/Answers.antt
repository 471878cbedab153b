-- A fact and what it is about have numbers.
use Rattle.world_tables.proofs.Given.{has_numbers, given_same}
use Rattle.world_tables.proofs.laws.given_by_numbers.Goals as goal

pub returns-clause-numbered : goal.returns-clause-numbered
returns-clause-numbered c = λ s t n. has_numbers s t n

pub returns-clause-given : goal.returns-clause-given
returns-clause-given c = λ s t n. given_same s t n
