use Rattle.std.proofs.Common.{◌≡◌, ◌++◌, drop}
use Rattle.py_tree.specs.View.{exprs_view, args_view, pairs_view}
use Rattle.scope_rules.specs.Mentions.{mentions_of_all, mentions_of_args, mentions_of_pairs}
use Rattle.py_scope.proofs.expressions.+mention.Given as goal

abbrev pub invariant-mention_all-loop-expr : goal.invariant-mention_all-loop-expr
invariant-mention_all-loop-expr l = l.out ++ mentions_of_all (exprs_view (drop l.expr-index l.exprs)) ≡ l.initial.out ++ mentions_of_all (exprs_view l.exprs)

abbrev pub invariant-mention_args-loop-arg : goal.invariant-mention_args-loop-arg
invariant-mention_args-loop-arg l = l.out ++ mentions_of_args (args_view (drop l.arg-index l.args)) ≡ l.initial.out ++ mentions_of_args (args_view l.args)

abbrev pub invariant-mention_pairs-loop-pair : goal.invariant-mention_pairs-loop-pair
invariant-mention_pairs-loop-pair l = l.out ++ mentions_of_pairs (pairs_view (drop l.pair-index l.pairs)) ≡ l.initial.out ++ mentions_of_pairs (pairs_view l.pairs)
