use Rattle.typegraph.proofs.Joins.{joined_rising}
use Rattle.typegraph.proofs.goals.GoalMap.from_bindings.Goals as goal

pub returns-then-is_rising-clause-joined : goal.returns-then-is_rising-clause-joined
returns-then-is_rising-clause-joined c = rw c.in_ok-bindings.ensures.ok (joined_rising c.args.list.now (c.is_rising.ensures.0 c.if-is_rising.true))
