use Rattle.std.proofs.Common.{◌≡◌, ◌∷◌, [], ◌++◌, map, take}
use Rattle.std.specs.List.{flat_map}
use Rattle.graph_queries.proofs.choose.longer.Given as goal

abbrev pub invariant-loop-choice : goal.invariant-loop-choice
invariant-loop-choice l = l.all ≡ flat_map (λ choice. map (λ shape. choice ++ shape ∷ []) l.shapes) (take l.choice-index l.chosen)
