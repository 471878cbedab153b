-- What is put so far, and the lines of what is left.
use Rattle.std.proofs.Common.{◌≡◌, ◌++◌, drop}
use Rattle.py_tree.specs.View.{exprs_view, args_view, pairs_view}
use Rattle.built_forms.specs.Unbuilt.{in_exprs, in_args, in_pairs}
use Rattle.built_forms.proofs.expressions.+expressions.Given as goal

abbrev pub invariant-elements-loop-expr : goal.invariant-elements-loop-expr
invariant-elements-loop-expr l = l.out ++ in_exprs l.known (exprs_view (drop l.expr-index l.exprs)) ≡ l.initial.out ++ in_exprs l.known (exprs_view l.exprs)

abbrev pub invariant-arguments-loop-arg : goal.invariant-arguments-loop-arg
invariant-arguments-loop-arg l = l.out ++ in_args l.known (args_view (drop l.arg-index l.args)) ≡ l.initial.out ++ in_args l.known (args_view l.args)

abbrev pub invariant-pairs-loop-pair : goal.invariant-pairs-loop-pair
invariant-pairs-loop-pair l = l.out ++ in_pairs l.known (pairs_view (drop l.pair-index l.pairs)) ≡ l.initial.out ++ in_pairs l.known (pairs_view l.pairs)
