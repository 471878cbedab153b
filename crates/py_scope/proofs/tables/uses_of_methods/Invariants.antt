use Rattle.std.proofs.Common.{◌≡◌, ◌++◌, drop}
use Rattle.py_tree.specs.View.{members_view}
use Rattle.scope_rules.specs.Tables.{method_uses}
use Rattle.py_scope.proofs.tables.uses_of_methods.Given as goal

abbrev pub invariant-loop-member : goal.invariant-loop-member
invariant-loop-member l = l.out ++ method_uses (members_view (drop l.member-index l.members)) ≡ l.initial.out ++ method_uses (members_view l.members)
