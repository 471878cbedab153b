-- Different rows stand for different items.
use Rattle.world_tables.specs.Tables.{items_of}
use Rattle.world_tables.proofs.Counted.{items_apart, item_count, no_others}
use Rattle.world_tables.proofs.laws.items_are_counted.Goals as goal

pub returns-clause-once : goal.returns-clause-once
returns-clause-once c = λ s t a. items_apart s t a

pub returns-clause-count : goal.returns-clause-count
returns-clause-count c = λ s t a. item_count t a.numbering.context_count

pub returns-clause-same : goal.returns-clause-same
returns-clause-same c = λ s t a more within few. no_others s t a more within few

pub returns-clause-larger : goal.returns-clause-larger
returns-clause-larger c = λ s t a limit many. record { items = items_of t; apart = items_apart s t a; derived = a.derived; many = many }
