use Rattle.shape_sets.proofs.PlaneLemmas.{subset}
use Rattle.shape_sets.proofs.set.ShapeSet.is_subset.Goals as goal

pub returns : goal.returns
returns c = rw (← c.self.view_is, ← c.other.view_is) (subset c.self.inside.held.items c.other.inside.held.items c.has_more.result (rw (← c.deref.ensures.value, ← c.deref-2.ensures.value) c.has_more.ensures))
