use Rattle.graph_walks.specs.Renamings.{own_names}
use Rattle.graph_walks.proofs.Alike.{own_alike, alike_renamed}
use Rattle.graph_walks.proofs.laws.own_names_rename.Goals as goal

pub returns : goal.returns
returns g c = λ w. alike_renamed own_names own_names own_names w w (own_alike w)
