-- What fires gives what its row has.
use Rattle.world_queries.proofs.Firing.{gives_fact, gives_entry, stands_point}
use Rattle.world_queries.proofs.laws.results_by_numbers.Goals as goal

pub returns-clause-fact : goal.returns-clause-fact
returns-clause-fact c = λ s t n id b place depth o h r vars by ids goals k seen y shape e made. gives_fact s t n id b place depth o h r vars by ids goals k seen y shape e made

pub returns-clause-entry : goal.returns-clause-entry
returns-clause-entry c = λ s t n id b place depth o h r vars by ids goals k seen e shape d made. gives_entry s t n id b place depth o h r vars by ids goals k seen e shape d made

pub returns-clause-point : goal.returns-clause-point
returns-clause-point c = λ s t id b place depth o h. stands_point s t id b place depth o h
