use Rattle.std.proofs.Common.{take}
use Rattle.goal_solver.specs.Answers.{IsKept}
use Rattle.world_rules.specs.Sources.{Source}
use Rattle.abstract_vm.specs.Marks.{SaysToo, AnyTells}
use Rattle.abstract_vm.specs.Asking.{IsAsked, ReadingTells}
use Rattle.abstract_vm.proofs.judge.judge_rules.Given as goal

abbrev pub invariant-loop-reading : goal.invariant-loop-reading
invariant-loop-reading g l = record {
  told : (s : Source) → IsAsked s l.judging l.initial.solver.budget l.spot → SaysToo (AnyTells (ReadingTells s l.judging l.spot) (take l.reading-index l.reading-items)) l.initial.verdict l.verdict;
  kept : IsKept l.judging.tables.now.graph l.initial.solver l.solver;
}
