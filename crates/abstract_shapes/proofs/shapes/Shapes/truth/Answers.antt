use Rattle.std.proofs.Common.{◌∙◌, ap, Some, None}
use Rattle.abstract_shapes.specs.Numbering.{structures}
use Rattle.abstract_shapes.specs.Shapes.{truth_of}
use Rattle.abstract_shapes.proofs.NumberLemmas.{truth_lent}
use Rattle.abstract_shapes.proofs.shapes.Shapes.truth.Goals as goal

pub returns-in-Some : goal.returns-in-Some
returns-in-Some c =
    let told = rw c.number.ensures at c.in-Some.ensures.key in
    rw (← c.self.view_is) (c.truth_of.ensures (structures c.self.inside.rows.keys) ∙ ap truth_of (truth_lent c.self.inside.rows.keys c.self.invariant c.args.id (Some c.in-Some.shape) told))

pub returns-in-None : goal.returns-in-None
returns-in-None c =
    let told = rw c.number.ensures at c.in-None.ensures.key in
    rw (← c.self.view_is) (ap truth_of (truth_lent c.self.inside.rows.keys c.self.invariant c.args.id None told))
