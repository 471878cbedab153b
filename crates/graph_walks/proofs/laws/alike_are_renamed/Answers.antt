use Rattle.graph_walks.proofs.Alike.{alike_renamed}
use Rattle.graph_walks.proofs.laws.alike_are_renamed.Goals as goal

pub returns : goal.returns
returns g c = λ points vars shapes w other. alike_renamed points vars shapes w other
