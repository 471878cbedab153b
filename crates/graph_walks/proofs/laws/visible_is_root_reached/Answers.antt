-- By induction on the walk, and on the way back.
use Rattle.graph_walks.proofs.RootLaw.{root_law}
use Rattle.graph_walks.proofs.laws.visible_is_root_reached.Goals as goal

pub returns : goal.returns
returns g c = λ w same point goals. root_law w same point goals
