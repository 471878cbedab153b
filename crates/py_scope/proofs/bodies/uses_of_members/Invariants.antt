use Rattle.std.proofs.Common.{◌≡◌, ◌++◌, drop}
use Rattle.py_tree.specs.View.{members_view}
use Rattle.scope_rules.specs.Uses.{uses_of_members}
use Rattle.py_scope.proofs.bodies.uses_of_members.Given as goal

abbrev pub invariant-loop-member : goal.invariant-loop-member
invariant-loop-member l = l.out ++ uses_of_members (members_view (drop l.member-index l.members)) ≡ l.initial.out ++ uses_of_members (members_view l.members)
