use Rattle.std.proofs.Common.{◌↔◌, IsTrue, subst}
use Rattle.graph_walks.specs.Backs.{Seen}
use Rattle.typegraph.specs.Maps.{look}
use Rattle.goal_solver.specs.Graphs as numbers
use Rattle.abstract_vm.specs.Telling.{asked}
use Rattle.abstract_vm.proofs.Saying.{on_ok}
use Rattle.abstract_vm.proofs.Rowing.{unseen, seen}
use Rattle.abstract_vm.proofs.tell.judge_seen.Goals as goal

pub returns-then-not-seen-clause-told : goal.returns-then-not-seen-clause-told
returns-then-not-seen-clause-told g c =
    unseen (asked c.args.judging.now c.args.solver.now.budget) (look c.args.goals.now) c.args.transfer c.args.choice.now c.in_ok-seen.seen
    (subst (λ gr. IsTrue c.in_ok-seen.seen ↔ Seen (numbers.world_of gr) c.args.judging.now.point (look c.args.goals.now) c.args.solver.now.budget) c.graph-graph.ensures.graph c.in_ok-seen.ensures.seen)
    c.if-not-seen.true c.args.verdict.now

pub returns-clause-told : goal.returns-clause-told
returns-clause-told g c =
    on_ok c.judge_row.result _ _
    (seen (asked c.args.judging.now c.args.solver.now.budget) (look c.args.goals.now) c.args.transfer c.args.choice.now c.in_ok-seen.seen
    (subst (λ gr. IsTrue c.in_ok-seen.seen ↔ Seen (numbers.world_of gr) c.args.judging.now.point (look c.args.goals.now) c.args.solver.now.budget) c.graph-graph.ensures.graph c.in_ok-seen.ensures.seen)
    c.if-not-seen.false c.in_ok-row.row c.in_ok-row.ensures c.args.verdict.now c.judge_row.new.verdict) c.judge_row.ensures
