use Rattle.std.proofs.Common.{◌≡◌, ◌++◌, drop}
use Rattle.py_tree.specs.View.{args_view}
use Rattle.tree_code.specs.Expressions.{keywords}
use Rattle.expr_compile.proofs.values.keywords_of.Given as goal

abbrev pub invariant-loop-arg : goal.invariant-loop-arg
invariant-loop-arg l = l.keywords ++ keywords (args_view (drop l.arg-index l.args)) ≡ keywords (args_view l.args)
