use Rattle.std.proofs.Common.{◌≡◌, take, map, Some}
use Rattle.std.specs.List.{filter}
use Rattle.goal_solver.specs.Backs.{passes_test}
use Rattle.goal_solver.proofs.back.passing_pairs.Given as goal

abbrev pub invariant-loop-shape : goal.invariant-loop-shape
invariant-loop-shape l = l.pairs.items ≡ map (λ s. Some (record { var = l.ask.var; shape = s })) (filter (passes_test l.graph.truths l.ask.test) (take l.shape-index l.shape-items))
