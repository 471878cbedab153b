use Rattle.std.proofs.Common.{◌≡◌, ◌++◌, drop}
use Rattle.py_tree.specs.View.{exprs_view}
use Rattle.scope_rules.specs.Mentions.{targets_of_all}
use Rattle.py_scope.proofs.targets.+target.Given as goal

abbrev pub invariant-target_all-loop-expr : goal.invariant-target_all-loop-expr
invariant-target_all-loop-expr l = l.out ++ targets_of_all l.attribute l.line (exprs_view (drop l.expr-index l.exprs)) ≡ l.initial.out ++ targets_of_all l.attribute l.line (exprs_view l.exprs)
