use Rattle.std.proofs.Common.{◌∙◌, ap, sym, subst, refl, not}
use Rattle.type_terms.specs.Normal.{IsNormal}
use Rattle.abstract_shapes.specs.Numbering.{is_outer}
use Rattle.row_cases.proofs.tests.shapes.given_class.Goals as goal

pub returns-clause-outer : goal.returns-clause-outer
returns-clause-outer c = let e = c.in_ok-class_named.ensures in (subst IsNormal (sym e) refl, ap is_outer e ∙ ap not c.requires)
