-- What is seen is given.
use Rattle.world_rules.proofs.Given.{fired_query}
use Rattle.world_rules.proofs.laws.what_fires_is_a_query.Goals as goal

pub returns : goal.returns
returns c = λ s items b place depth r shapes f. fired_query s items b place depth r shapes f
