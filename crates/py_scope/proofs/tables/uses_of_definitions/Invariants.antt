use Rattle.std.proofs.Common.{◌≡◌, ◌++◌, drop}
use Rattle.py_tree.specs.View.{stmts_view}
use Rattle.scope_rules.specs.Tables.{definition_uses}
use Rattle.py_scope.proofs.tables.uses_of_definitions.Given as goal

abbrev pub invariant-loop-stmt : goal.invariant-loop-stmt
invariant-loop-stmt l = l.out ++ definition_uses (stmts_view (drop l.stmt-index l.stmts)) ≡ l.initial.out ++ definition_uses (stmts_view l.stmts)
