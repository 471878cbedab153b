use Rattle.graph_walks.proofs.Growing.{within_on}
use Rattle.graph_walks.proofs.laws.growth_goes_on.Goals as goal

pub returns : goal.returns
returns g c = λ old new newer. within_on old new newer
