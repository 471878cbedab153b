use Rattle.std.proofs.Common.{◌≡◌, ◌++◌, drop}
use Rattle.py_tree.specs.View.{stmts_view, arms_view, handlers_view}
use Rattle.scope_rules.specs.Uses.{uses, uses_of_arms, uses_of_handlers}
use Rattle.py_scope.proofs.uses.+uses.Given as goal

abbrev pub invariant-uses-loop-stmt : goal.invariant-uses-loop-stmt
invariant-uses-loop-stmt l = l.out ++ uses (stmts_view (drop l.stmt-index l.stmts)) ≡ l.initial.out ++ uses (stmts_view l.stmts)

abbrev pub invariant-uses_of_ifs-loop-arm : goal.invariant-uses_of_ifs-loop-arm
invariant-uses_of_ifs-loop-arm l = l.out ++ uses_of_arms (arms_view (drop l.arm-index l.arms)) ≡ l.initial.out ++ uses_of_arms (arms_view l.arms)

abbrev pub invariant-uses_of_excepts-loop-handler : goal.invariant-uses_of_excepts-loop-handler
invariant-uses_of_excepts-loop-handler l = l.out ++ uses_of_handlers (handlers_view (drop l.handler-index l.handlers)) ≡ l.initial.out ++ uses_of_handlers (handlers_view l.handlers)
