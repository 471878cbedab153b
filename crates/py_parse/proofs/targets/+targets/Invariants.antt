use Rattle.std.proofs.Common.{◌≡◌, drop}
use Rattle.py_descent.specs.Bodies.{are_targets}
use Rattle.py_tree.specs.View.{exprs_view}
use Rattle.py_parse.proofs.targets.+targets.Given as goal

abbrev pub invariant-are_targets-loop-item : goal.invariant-are_targets-loop-item
invariant-are_targets-loop-item l = are_targets (exprs_view l.items) ≡ are_targets (exprs_view (drop l.item-index l.items))
