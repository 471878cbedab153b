use Rattle.std.proofs.Common.{take}
use Rattle.goal_solver.specs.Answers.{IsKept}
use Rattle.abstract_vm.specs.Marks.{SaysToo, AnyTells}
use Rattle.abstract_vm.specs.Telling.{asked, ShapeWeighs}
use Rattle.abstract_vm.proofs.tell.weigh_var.Given as goal

abbrev pub invariant-loop-shape : goal.invariant-loop-shape
invariant-loop-shape g l = record {
  told : SaysToo (AnyTells (ShapeWeighs (asked l.judging l.initial.solver.budget) l.var) (take l.shape-index l.shape-items)) l.initial.verdict l.verdict;
  kept : IsKept l.judging.tables.now.graph l.initial.solver l.solver;
}
