-- What fires is a choice that is seen, and the other way round.
use Rattle.world_queries.proofs.Telling.{given_same, faults_same, unchecked_same}
use Rattle.world_queries.proofs.laws.points_by_numbers.Goals as goal

pub returns-clause-gives : goal.returns-clause-gives
returns-clause-gives c = λ s t n id b place depth o h. given_same s t n id b place depth o h

pub returns-clause-finds : goal.returns-clause-finds
returns-clause-finds c = λ s t n id b place depth o h. faults_same s t n id b place depth o h

pub returns-clause-unchecks : goal.returns-clause-unchecks
returns-clause-unchecks c = λ s t n id b place depth o h. unchecked_same s t n id b place depth o h
