use Rattle.shape_sets.proofs.PlaneLemmas.{members-replicate}
use Rattle.shape_sets.proofs.set.ShapeSet.new.Goals as goal

pub returns-clause-empty : goal.returns-clause-empty
returns-clause-empty c = members-replicate c.in_ok-held.held.items c.args.width c.in_ok-held.ensures
