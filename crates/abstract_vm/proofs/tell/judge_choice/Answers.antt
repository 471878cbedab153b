use Rattle.std.proofs.Common.{IfSome, [], subst}
use Rattle.typegraph.specs.Maps.{IsJoined, IsRising}
use Rattle.typegraph.specs.Validity.{IsValid}
use Rattle.graph_queries.specs.Choices.{bindings}
use Rattle.abstract_vm.specs.Telling.{asked}
use Rattle.abstract_vm.proofs.Saying.{on_ok}
use Rattle.abstract_vm.proofs.Choosing.{ids_there, ids_more, ids_clash}
use Rattle.abstract_vm.proofs.tell.judge_choice.Goals as goal

pub judge_goals-requires-clause-there : goal.judge_goals-requires-clause-there
judge_goals-requires-clause-there g c =
    ids_there c.args.judging.now.tables.now.graph (subst (λ gr. IsValid gr) c.graph.ensures.graph c.flow-flow.ensures.valid) c.args.vars.now c.args.choice.now c.requires.given

pub returns-in-Some-clause-told : goal.returns-in-Some-clause-told
returns-in-Some-clause-told g c =
    on_ok c.judge_goals.result _ _
    (ids_more (asked c.args.judging.now c.args.solver.now.budget) c.args.transfer c.args.vars.now c.args.choice.now c.in-Some.goals
    (subst (IsJoined [] (bindings c.args.vars.now c.args.choice.now)) c.in-Some.is c.in_ok-goals.ensures.joined) (subst (λ o. IfSome o IsRising) c.in-Some.is c.in_ok-goals.ensures.rising)
    c.args.verdict.now c.judge_goals.new.verdict) c.judge_goals.ensures.told

pub returns-in-None-clause-told : goal.returns-in-None-clause-told
returns-in-None-clause-told g c =
    ids_clash (asked c.args.judging.now c.args.solver.now.budget) c.args.transfer c.args.vars.now c.args.choice.now
    (subst (IsJoined [] (bindings c.args.vars.now c.args.choice.now)) c.in-None.is c.in_ok-goals.ensures.joined) c.args.verdict.now
