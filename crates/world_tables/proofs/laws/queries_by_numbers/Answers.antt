-- The tables' world is the graph's under other names.
use Rattle.world_tables.proofs.Queries.{visible_by_numbers, heavy_by_numbers, seen_by_numbers}
use Rattle.world_tables.proofs.laws.queries_by_numbers.Goals as goal

pub returns-clause-visible : goal.returns-clause-visible
returns-clause-visible c = λ s t n. visible_by_numbers s t n

pub returns-clause-heavy : goal.returns-clause-heavy
returns-clause-heavy c = λ s t n. heavy_by_numbers s t n

pub returns-clause-seen : goal.returns-clause-seen
returns-clause-seen c = λ s t n. seen_by_numbers s t n
