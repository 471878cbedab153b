-- A choice is a map, and is heavy where the map is.
use Rattle.world_queries.proofs.Weighing.{choice_query, readings_heavy}
use Rattle.world_queries.proofs.laws.readings_are_queries.Goals as goal

pub returns-clause-query : goal.returns-clause-query
returns-clause-query c = λ s t n id b place depth o h r vars by ids goals k. choice_query s t n id b place depth o h r vars by ids goals k

pub returns-clause-heavy : goal.returns-clause-heavy
returns-clause-heavy c = λ s t n id b place depth o h. readings_heavy s t n id b place depth o h
