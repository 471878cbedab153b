-- Nothing has two numbers, and what facts give a shape has one.
use Rattle.world_rules.specs.Items.{map_of}
use Rattle.world_queries.proofs.Choosing.{numbers_once, numbers_given}
use Rattle.world_queries.proofs.laws.variables_have_numbers.Goals as goal

pub returns-clause-once : goal.returns-clause-once
returns-clause-once c = λ s t n xs vars others h k. numbers_once s t n xs vars others h k

pub returns-clause-given : goal.returns-clause-given
returns-clause-given c = λ s t n xs shapes a g. numbers_given s t n (map_of xs shapes) g xs shapes a
