use Rattle.std.proofs.Common.{◌∙◌}
use Rattle.std.specs.Cmp.Lexicographic.{pointwise}
use Rattle.typegraph.specs.Keys.{binding_eq}
use Rattle.typegraph.proofs.Agree.{same_bindings, same_shapes}
use Rattle.typegraph.proofs.goals.GoalMap.same.Goals as goal

pub returns-clause-shapes : goal.returns-clause-shapes
returns-clause-shapes c = same_shapes c.args.self.now c.args.other.now _ c.items-one.ensures.rising c.items-other.ensures.rising (c.eq.ensures ∙ (λ i. pointwise binding_eq (c.items-one.ensures.items i) (c.items-other.ensures.items i)))

pub returns-clause-bindings : goal.returns-clause-bindings
returns-clause-bindings c = same_bindings c.args.self.now c.args.other.now _ (c.eq.ensures ∙ (λ i. pointwise binding_eq (c.items-one.ensures.items i) (c.items-other.ensures.items i)))
