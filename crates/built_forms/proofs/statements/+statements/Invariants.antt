-- What is put so far, and the lines of what is left.
use Rattle.std.proofs.Common.{◌≡◌, ◌++◌, drop}
use Rattle.py_tree.specs.View.{stmts_view, arms_view, handlers_view, members_view}
use Rattle.built_forms.specs.Unbuilt.{in_stmts, in_arms, in_handlers, in_members}
use Rattle.built_forms.proofs.statements.+statements.Given as goal

abbrev pub invariant-block-loop-stmt : goal.invariant-block-loop-stmt
invariant-block-loop-stmt l = l.out ++ in_stmts l.known (stmts_view (drop l.stmt-index l.stmts)) ≡ l.initial.out ++ in_stmts l.known (stmts_view l.stmts)

abbrev pub invariant-arms-loop-arm : goal.invariant-arms-loop-arm
invariant-arms-loop-arm l = l.out ++ in_arms l.known (arms_view (drop l.arm-index l.arms)) ≡ l.initial.out ++ in_arms l.known (arms_view l.arms)

abbrev pub invariant-handlers-loop-handler : goal.invariant-handlers-loop-handler
invariant-handlers-loop-handler l = l.out ++ in_handlers l.known (handlers_view (drop l.handler-index l.handlers)) ≡ l.initial.out ++ in_handlers l.known (handlers_view l.handlers)

abbrev pub invariant-members-loop-member : goal.invariant-members-loop-member
invariant-members-loop-member l = l.out ++ in_members l.known (members_view (drop l.member-index l.members)) ≡ l.initial.out ++ in_members l.known (members_view l.members)
