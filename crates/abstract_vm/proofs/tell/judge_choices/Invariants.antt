use Rattle.std.proofs.Common.{take}
use Rattle.goal_solver.specs.Answers.{IsKept}
use Rattle.abstract_vm.specs.Marks.{SaysToo, AnyTells}
use Rattle.abstract_vm.specs.Telling.{asked, IdsTell}
use Rattle.abstract_vm.proofs.tell.judge_choices.Given as goal

abbrev pub invariant-loop-choice : goal.invariant-loop-choice
invariant-loop-choice g l = record {
  told : SaysToo (AnyTells (IdsTell (asked l.judging l.initial.solver.budget) l.transfer l.vars) (take l.choice-index l.choice-items)) l.initial.verdict l.verdict;
  kept : IsKept l.judging.tables.now.graph l.initial.solver l.solver;
}
