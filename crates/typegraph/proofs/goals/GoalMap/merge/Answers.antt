use Rattle.std.proofs.Common.{◌++◌, ◌∙◌, [], ap}
use Rattle.typegraph.specs.Maps.{IsJoined}
use Rattle.typegraph.proofs.Joins.{joined_both}
use Rattle.typegraph.proofs.Results.{mapped}
use Rattle.typegraph.proofs.goals.GoalMap.merge.Goals as goal

pub returns-clause-joined : goal.returns-clause-joined
returns-clause-joined c =
    mapped (IsJoined [] _) (IsJoined c.args.self.now c.args.list.now)
    (joined_both c.args.self.now c.args.list.now _ c.items.ensures.rising (c.in_ok-extend_from_slice.ensures.ok ∙ ap (λ xs. xs ++ c.args.list.now) (c.in_ok-all.ensures.ok ∙ c.items.ensures.items)))
    c.of.result c.of.ensures.joined
