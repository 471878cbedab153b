-- What is carried into the other world is carried there and back.
use Rattle.graph_walks.proofs.Renaming.{visible_same, reached_same, heavy_same, seen_same}
use Rattle.graph_walks.proofs.laws.kept_under_other_names.Goals as goal

pub returns-clause-visible : goal.returns-clause-visible
returns-clause-visible g c = λ points vars shapes w other same. visible_same points vars shapes w other same.0 same.1

pub returns-clause-reached : goal.returns-clause-reached
returns-clause-reached g c = λ points vars shapes w other same. reached_same points vars shapes w other same.0 same.1

pub returns-clause-heavy : goal.returns-clause-heavy
returns-clause-heavy g c = λ points vars shapes w other same. heavy_same points vars shapes w other same.0 same.1

pub returns-clause-seen : goal.returns-clause-seen
returns-clause-seen g c = λ points vars shapes w other same. seen_same points vars shapes w other same.0 same.1
