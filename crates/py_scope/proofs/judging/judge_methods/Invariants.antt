use Rattle.std.proofs.Common.{◌≡◌, ◌++◌, drop}
use Rattle.py_tree.specs.View.{members_view}
use Rattle.scope_rules.specs.Faults.{method_faults}
use Rattle.py_scope.proofs.judging.judge_methods.Given as goal

abbrev pub invariant-loop-member : goal.invariant-loop-member
invariant-loop-member l = l.out ++ method_faults l.names (members_view (drop l.member-index l.members)) ≡ l.initial.out ++ method_faults l.names (members_view l.members)
