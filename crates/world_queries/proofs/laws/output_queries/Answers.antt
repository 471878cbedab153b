-- A choice for one variable is a query of the output.
use Rattle.world_queries.proofs.Weighing.{outputs_heavy, point_heavy}
use Rattle.world_queries.proofs.laws.output_queries.Goals as goal

pub returns-clause-heavy : goal.returns-clause-heavy
returns-clause-heavy c = λ s t n id b place depth o h. outputs_heavy s t n id b place depth o h

pub returns-clause-point : goal.returns-clause-point
returns-clause-point c = λ s t n id b place depth o h. point_heavy s t n id b place depth o h
