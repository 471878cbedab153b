-- By induction on the walk.
use Rattle.graph_walks.proofs.RootLaw.{walk_given, visible_given}
use Rattle.graph_walks.proofs.laws.never_invents.Goals as goal

pub returns-clause-walks : goal.returns-clause-walks
returns-clause-walks g c = λ w point memory walk. walk_given w point memory walk

pub returns-clause-queries : goal.returns-clause-queries
returns-clause-queries g c = λ w point goals seen. visible_given w point goals seen
