use Rattle.std.proofs.Common.{◌≡◌, ◌++◌, drop}
use Rattle.py_tree.specs.View.{members_view}
use Rattle.scope_rules.specs.Tables.{method_rows}
use Rattle.py_scope.proofs.tables.put_methods.Given as goal

abbrev pub invariant-loop-member : goal.invariant-loop-member
invariant-loop-member l = l.rows ++ method_rows (members_view (drop l.member-index l.members)) ≡ l.initial.rows ++ method_rows (members_view l.members)
