-- A choice is a map, and is seen where the map is.
use Rattle.world_queries.proofs.Firing.{fires, found, is_read}
use Rattle.world_queries.proofs.laws.readings_fire_by_numbers.Goals as goal

pub returns-clause-fires : goal.returns-clause-fires
returns-clause-fires c = λ s t n id b place depth o h r vars by ids goals k seen. fires s t n id b place depth o h r vars by ids goals k seen

pub returns-clause-found : goal.returns-clause-found
returns-clause-found c = λ s t n id b place depth o h r vars k shapes f. found s t n id b place depth o h r vars k shapes f

pub returns-clause-reading : goal.returns-clause-reading
returns-clause-reading c = λ s t n id b place depth o h r shapes f. is_read s t n id b place depth o h r shapes f
