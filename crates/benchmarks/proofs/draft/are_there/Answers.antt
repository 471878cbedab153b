use Rattle.std.proofs.Common.{refl, subst, arith}
use Rattle.std.proofs.lemmas.List.Elements.{All-more}
use Rattle.typegraph.specs.Validity.{IsBindingThere}
use Rattle.typegraph.proofs.Agree.{all_taken}
use Rattle.benchmarks.proofs.draft.are_there.Goals as goal

pub loop-binding-preserved : goal.loop-binding-preserved
loop-binding-preserved c =
    All-more (IsBindingThere c.args.vars c.args.shapes) c.args.list.now c.loop-binding.binding-index c.binding-item.result (omega arith) c.loop-binding.invariant
    (subst (IsBindingThere c.args.vars c.args.shapes) c.binding-item.is (c.if-not-is_binding_there.ensures refl))

pub returns : goal.returns
returns c = λ _. all_taken (IsBindingThere c.args.vars c.args.shapes) c.args.list.now c.loop-binding.binding-index (omega arith) c.loop-binding.invariant
