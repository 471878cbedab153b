use Rattle.std.proofs.Common.{◌≡◌, ◌∷◌, [], ◌++◌, map, take}
use Rattle.graph_queries.proofs.choose.push_longer.Given as goal

abbrev pub invariant-loop-shape : goal.invariant-loop-shape
invariant-loop-shape l = l.all ≡ l.initial.all ++ map (λ shape. l.choice ++ shape ∷ []) (take l.shape-index l.shapes)
