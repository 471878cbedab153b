use Rattle.std.proofs.Common.{◌≡◌, ◌++◌, drop}
use Rattle.py_tree.specs.View.{stmts_view}
use Rattle.scope_rules.specs.Tables.{locals}
use Rattle.py_scope.proofs.tables.locals.Given as goal

abbrev pub invariant-loop-stmt : goal.invariant-loop-stmt
invariant-loop-stmt l = l.out.items ++ locals (stmts_view (drop l.stmt-index l.stmts)) ≡ l.initial.out.items ++ locals (stmts_view l.stmts)
