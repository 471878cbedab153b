-- Each step of a walk, and each step back, is one of the larger world.
use Rattle.graph_walks.proofs.Growing.{visible_stays, reached_stays, heavy_stays, seen_stays}
use Rattle.graph_walks.proofs.laws.stays_as_worlds_grow.Goals as goal

pub returns-clause-visible : goal.returns-clause-visible
returns-clause-visible g c = λ old new grown. visible_stays old new grown

pub returns-clause-reached : goal.returns-clause-reached
returns-clause-reached g c = λ old new grown. reached_stays old new grown

pub returns-clause-heavy : goal.returns-clause-heavy
returns-clause-heavy g c = λ old new grown. heavy_stays old new grown

pub returns-clause-seen : goal.returns-clause-seen
returns-clause-seen g c = λ old new grown. seen_stays old new grown
