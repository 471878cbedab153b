use Rattle.std.proofs.Common.{◌∙◌, ◌++◌, ◌∷◌, [], ap, None}
use Rattle.goal_solver.proofs.Tables.{asked_none}
use Rattle.goal_solver.proofs.back.no_pair.Goals as goal

pub returns : goal.returns
returns c = asked_none c.args.graph.now _ (c.in_ok-push.ensures.ok ∙ ap (λ ys. ys ++ None ∷ []) c.new-pairs.ensures.items)
