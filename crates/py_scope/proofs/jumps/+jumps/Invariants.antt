use Rattle.std.proofs.Common.{◌≡◌, ◌++◌, drop}
use Rattle.py_tree.specs.View.{stmts_view, arms_view, handlers_view}
use Rattle.scope_rules.specs.Jumps.{jumps, jumps_of_arms, jumps_of_handlers}
use Rattle.py_scope.proofs.jumps.+jumps.Given as goal

abbrev pub invariant-jumps-loop-stmt : goal.invariant-jumps-loop-stmt
invariant-jumps-loop-stmt l = l.out ++ jumps l.looped (stmts_view (drop l.stmt-index l.stmts)) ≡ l.initial.out ++ jumps l.looped (stmts_view l.stmts)

abbrev pub invariant-jumps_of_ifs-loop-arm : goal.invariant-jumps_of_ifs-loop-arm
invariant-jumps_of_ifs-loop-arm l = l.out ++ jumps_of_arms l.looped (arms_view (drop l.arm-index l.arms)) ≡ l.initial.out ++ jumps_of_arms l.looped (arms_view l.arms)

abbrev pub invariant-jumps_of_excepts-loop-handler : goal.invariant-jumps_of_excepts-loop-handler
invariant-jumps_of_excepts-loop-handler l = l.out ++ jumps_of_handlers l.looped (handlers_view (drop l.handler-index l.handlers)) ≡ l.initial.out ++ jumps_of_handlers l.looped (handlers_view l.handlers)
