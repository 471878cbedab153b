use Rattle.std.proofs.Common.{◌≡◌, ◌+◌, ◌*◌, max, drop}
use denote.Param.Weighed.{most}
use Rattle.py_tree.proofs.expression.Arg.TheLaws.{the_size as arg_size}
use Rattle.py_tree.proofs.expression.Expr.TheLaws.{the_size}
use Rattle.py_tree.specs.declared.expression.ExprKind.TheShapes.{weighed-ExprKind-Slice-1 as in_bound}
use Rattle.py_tree.specs.View.{exprs_view, args_view, pairs_view}
use Rattle.tree_code.specs.Pieces.{Labels}
use Rattle.tree_code.specs.Expressions.{values, arguments, pairs}
use Rattle.expr_compile.specs.Emitted.{with_piece}
use Rattle.expr_compile.proofs.values.+values.Given as goal

abbrev pub invariant-push_values-loop-expr : goal.invariant-push_values-loop-expr
invariant-push_values-loop-expr l = (labels : Labels) → with_piece (values l.names (exprs_view (drop l.expr-index l.exprs))) labels l.buffer ≡ with_piece (values l.names (exprs_view l.exprs)) labels l.initial.buffer

abbrev pub invariant-push_arguments-loop-arg : goal.invariant-push_arguments-loop-arg
invariant-push_arguments-loop-arg l = (labels : Labels) → with_piece (arguments l.names (args_view (drop l.arg-index l.args))) labels l.buffer ≡ with_piece (arguments l.names (args_view l.args)) labels l.initial.buffer

abbrev pub invariant-push_pairs-loop-pair : goal.invariant-push_pairs-loop-pair
invariant-push_pairs-loop-pair l = (labels : Labels) → with_piece (pairs l.names (pairs_view (drop l.pair-index l.pairs))) labels l.buffer ≡ with_piece (pairs l.names (pairs_view l.pairs)) labels l.initial.buffer

-- Each measure goes by the deepest of the parts, and a function that hands its parts on stands above those that it calls.

abbrev pub decreases-push_value : goal.decreases-push_value
decreases-push_value l = 3 * the_size l.expr.now

abbrev pub decreases-push_one : goal.decreases-push_one
decreases-push_one l = 3 * the_size l.operand.now + 1

abbrev pub decreases-push_two : goal.decreases-push_two
decreases-push_two l = 3 * max (the_size l.left.now) (the_size l.right.now) + 1

abbrev pub decreases-push_short : goal.decreases-push_short
decreases-push_short l = 3 * max (the_size l.left.now) (the_size l.right.now) + 1

abbrev pub decreases-push_choice : goal.decreases-push_choice
decreases-push_choice l = 3 * max (the_size l.test.now) (max (the_size l.then.now) (the_size l.other.now)) + 1

abbrev pub decreases-push_bound : goal.decreases-push_bound
decreases-push_bound l = 3 * goal.size-push_bound l + 1

abbrev pub decreases-push_arguments : goal.decreases-push_arguments
decreases-push_arguments l = 3 * goal.size-push_arguments l + 1

abbrev pub decreases-push_values : goal.decreases-push_values
decreases-push_values l = 3 * goal.size-push_values l + 1

abbrev pub decreases-push_series : goal.decreases-push_series
decreases-push_series l = 3 * goal.size-push_series l + 2

abbrev pub decreases-push_pairs : goal.decreases-push_pairs
decreases-push_pairs l = 3 * goal.size-push_pairs l + 1

abbrev pub decreases-push_dict : goal.decreases-push_dict
decreases-push_dict l = 3 * goal.size-push_dict l + 2

abbrev pub decreases-push_call : goal.decreases-push_call
decreases-push_call l = 3 * max (the_size l.fun.now) (most (λ x. arg_size x) l.args.now) + 2

abbrev pub decreases-push_slice : goal.decreases-push_slice
decreases-push_slice l = 3 * max (the_size l.sliced.now) (max (in_bound.weight _ the_size l.from.now) (max (in_bound.weight _ the_size l.to.now) (in_bound.weight _ the_size l.step.now))) + 2
