use Rattle.std.proofs.Common.{[], ◌∷◌, subst}
use Rattle.typegraph.specs.Maps.{IsJoined}
use Rattle.graph_queries.specs.Choices.{bindings}
use Rattle.abstract_vm.specs.Telling.{asked}
use Rattle.abstract_vm.proofs.Saying.{on_ok}
use Rattle.abstract_vm.proofs.Choosing.{shape_more}
use Rattle.abstract_vm.proofs.tell.weigh_shape.Goals as goal

pub returns-in-Some-clause-told : goal.returns-in-Some-clause-told
returns-in-Some-clause-told g c =
    on_ok c.weigh.result _ _
    (shape_more (asked c.args.judging.now c.args.solver.now.budget) c.args.var c.args.shape c.in-Some.goals
    (subst (IsJoined [] (bindings (c.args.var ∷ []) (c.args.shape ∷ []))) c.in-Some.is c.in_ok-goals.ensures.joined) c.args.verdict.now c.weigh.new.verdict) c.weigh.ensures.told
