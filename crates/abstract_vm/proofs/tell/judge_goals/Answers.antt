use Rattle.typegraph.specs.Maps.{look}
use Rattle.abstract_vm.specs.Telling.{asked}
use Rattle.abstract_vm.proofs.Saying.{on_ok}
use Rattle.abstract_vm.proofs.Rowing.{goals_more}
use Rattle.abstract_vm.proofs.tell.judge_goals.Goals as goal

pub returns-clause-told : goal.returns-clause-told
returns-clause-told g c =
    on_ok c.weigh.result _ _
    (goals_more (asked c.args.judging.now c.args.solver.now.budget) (look c.args.goals.now) c.args.transfer c.args.choice.now c.judge_seen.new.solver.budget c.in_ok-judge_seen.ensures.kept.budget
    c.args.verdict.now c.judge_seen.new.verdict c.weigh.new.verdict c.in_ok-judge_seen.ensures.told) c.weigh.ensures.told
