use Rattle.std.proofs.Common.{◌≡◌, ◌∙◌, ◌++◌, ◌∷◌, [], true, ap, refl}
use Rattle.goal_solver.proofs.Meetings.{entered, added_new}
use Rattle.goal_solver.proofs.search.Search.enter.Goals as goal

pub returns-clause-extended : goal.returns-clause-extended
returns-clause-extended c =
    let f : c.in_ok-add.field-0 ≡ true = c.if-not-branch.false in
    entered _ _ _ c.requires (added_new _ _ _ _ c.in_ok-add.ensures f) c.in_ok-push.ensures.items (c.in_ok-push-2.ensures.items ∙ ap (λ n. c.args.self.now.waiting.items ++ n ∷ []) c.len-place.ensures.len) refl refl refl refl
