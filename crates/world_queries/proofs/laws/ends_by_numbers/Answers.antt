-- The points of a finished module have numbers.
use Rattle.world_queries.proofs.Ending.{ends_same, ends_with, end_seen, end_variable, end_point}
use Rattle.world_queries.proofs.laws.ends_by_numbers.Goals as goal

pub returns-clause-ends : goal.returns-clause-ends
returns-clause-ends c = λ s t n f k shape. ends_same s t n k shape f

pub returns-clause-seen : goal.returns-clause-seen
returns-clause-seen c = λ s t n k shape e. ends_with s t n k shape e

pub returns-clause-found : goal.returns-clause-found
returns-clause-found c = λ s t n k shape e. end_seen s t n k shape e

pub returns-clause-variable : goal.returns-clause-variable
returns-clause-variable c = λ s t n k shape e. end_variable s t n k shape e

pub returns-clause-point : goal.returns-clause-point
returns-clause-point c = λ s t n f k shape e. end_point s t n k shape e f
