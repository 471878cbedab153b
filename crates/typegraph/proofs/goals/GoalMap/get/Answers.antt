use Rattle.std.proofs.Common.{◌∙◌, rules, ap, sym, subst, Some}
use Rattle.std.proofs.lemmas.List.Sorted.{answers_always}
use Rattle.typegraph.specs.Maps.{look, IsRising}
use Rattle.typegraph.proofs.Joins.{found_by_search, none_by_search}
use Rattle.typegraph.proofs.goals.GoalMap.get.Goals as goal

pub returns-in-Ok : goal.returns-in-Ok
returns-in-Ok c =
    ap (λ b. Some b.shape) (sym c.index-list-place.is)
    ∙ sym (found_by_search c.as_slice-list.result.now (subst IsRising (sym c.as_slice-list.ensures) c.self.invariant) c.number.result c.in-Ok.place c.index-list-place.result c.in-Ok.ensures.bound (c.in-Ok.ensures.position (λ b. b.var) (answers_always _ _ _ (λ f a r g called. search rules))) c.index-list-place.is)
    ∙ ap (look c.as_slice-list.result.now) c.number.ensures
    ∙ ap (λ m. look m c.args.var) (c.as_slice-list.ensures ∙ c.self.view_is)

pub returns-in-Err : goal.returns-in-Err
returns-in-Err c =
    sym (none_by_search c.as_slice-list.result.now (subst IsRising (sym c.as_slice-list.ensures) c.self.invariant) c.number.result c.in-Err.field-0 (c.in-Err.ensures.position (λ b. b.var) (answers_always _ _ _ (λ f a r g called. search rules))))
    ∙ ap (look c.as_slice-list.result.now) c.number.ensures
    ∙ ap (λ m. look m c.args.var) (c.as_slice-list.ensures ∙ c.self.view_is)
