use Rattle.std.proofs.Common.{take}
use Rattle.goal_solver.specs.Answers.{IsKept}
use Rattle.abstract_vm.specs.Marks.{SaysToo, AnyTells}
use Rattle.abstract_vm.specs.Telling.{asked, VarWeighs}
use Rattle.abstract_vm.proofs.tell.weigh_vars.Given as goal

abbrev pub invariant-loop-var : goal.invariant-loop-var
invariant-loop-var g l = record {
  told : SaysToo (AnyTells (VarWeighs (asked l.judging l.initial.solver.budget)) (take l.var-index l.vars)) l.initial.verdict l.verdict;
  kept : IsKept l.judging.tables.now.graph l.initial.solver l.solver;
}
