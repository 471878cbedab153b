use Rattle.std.proofs.Common.{sym, refl, ◌∙◌}
use Rattle.shape_sets.proofs.PlaneLemmas.{contains-members_of, holds-within}
use Rattle.shape_sets.proofs.set.ShapeSet.contains.Goals as goal

pub returns-clause-member : goal.returns-clause-member
returns-clause-member c =
    let has = contains-members_of c.self.inside.held.items c.args.shape in
    rw (← c.self.view_is) (c.holds_at.ensures ∙ rw (c.deref.ensures.value, c.number.ensures) (sym has))

pub returns-clause-below : goal.returns-clause-below
returns-clause-below c =
    rw (← c.self.view_is) (holds-within c.self.inside.held.items c.args.shape c.holds_at.result (c.holds_at.ensures ∙ rw (c.deref.ensures.value, c.number.ensures) refl))
