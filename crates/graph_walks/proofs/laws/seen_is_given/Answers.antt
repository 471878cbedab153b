-- What is visible is given; what is heavy and seen says so itself.
use Rattle.graph_walks.proofs.RootLaw.{seen_given}
use Rattle.graph_walks.proofs.laws.seen_is_given.Goals as goal

pub returns : goal.returns
returns g c = λ w point goals budget. seen_given w point goals budget
