use Rattle.std.proofs.Common.{◌≡◌, ◌∷◌, [], ◌++◌, map, subst, arith}
use Rattle.graph_queries.proofs.Longer.{one_more}
use Rattle.graph_queries.proofs.choose.longer.Goals as goal

pub loop-choice-preserved : goal.loop-choice-preserved
loop-choice-preserved c =
    one_more c.args.shapes.now c.args.chosen.now c.loop-choice.choice-index c.choice-item.result (omega arith) c.choice-item.is c.loop-choice.all c.push_longer.new.all c.loop-choice.invariant
    (subst (λ x. c.push_longer.new.all ≡ c.loop-choice.all ++ map (λ shape. x ++ shape ∷ []) c.args.shapes.now) c.as_slice.ensures c.in_ok-push_longer.ensures)
