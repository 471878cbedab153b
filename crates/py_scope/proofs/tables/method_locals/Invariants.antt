use Rattle.std.proofs.Common.{◌≡◌, ◌++◌, drop}
use Rattle.py_tree.specs.View.{members_view}
use Rattle.scope_rules.specs.Tables.{method_locals}
use Rattle.py_scope.proofs.tables.method_locals.Given as goal

abbrev pub invariant-loop-member : goal.invariant-loop-member
invariant-loop-member l = l.out.items ++ method_locals (members_view (drop l.member-index l.members)) ≡ l.initial.out.items ++ method_locals (members_view l.members)
