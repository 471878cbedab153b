use Rattle.std.proofs.Common.{◌≡◌, ◌++◌, [], drop}
use Rattle.py_tree.specs.View.{stmts_view}
use Rattle.scope_rules.specs.Faults.{definition_faults}
use Rattle.py_scope.proofs.judging.judge_definitions.Given as goal

abbrev pub invariant-loop-stmt : goal.invariant-loop-stmt
invariant-loop-stmt l = l.out ++ definition_faults l.names l.earlier (stmts_view (drop l.stmt-index l.stmts)) ≡ l.initial.out ++ definition_faults l.names [] (stmts_view l.stmts)
