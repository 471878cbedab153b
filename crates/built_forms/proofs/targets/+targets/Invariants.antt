-- What is put so far, and the lines of what is left.
use Rattle.std.proofs.Common.{◌≡◌, ◌++◌, drop}
use Rattle.py_tree.specs.View.{exprs_view}
use Rattle.built_forms.specs.Unbuilt.{in_targets}
use Rattle.built_forms.proofs.targets.+targets.Given as goal

abbrev pub invariant-target_list-loop-expr : goal.invariant-target_list-loop-expr
invariant-target_list-loop-expr l = l.out ++ in_targets l.known (exprs_view (drop l.expr-index l.exprs)) ≡ l.initial.out ++ in_targets l.known (exprs_view l.exprs)
