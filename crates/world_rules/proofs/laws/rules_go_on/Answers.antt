-- Each premise goes on to hold.
use Rattle.world_rules.proofs.Growing.{world_more, point_more, gives_more}
use Rattle.world_rules.proofs.laws.rules_go_on.Goals as goal

pub returns-clause-worlds : goal.returns-clause-worlds
returns-clause-worlds c = λ s items more k. world_more s items more k

pub returns-clause-points : goal.returns-clause-points
returns-clause-points c = λ s items more k p i g. point_more s items more k g

pub returns-clause-items : goal.returns-clause-items
returns-clause-items c = λ s items more k i g. gives_more s items more k g
