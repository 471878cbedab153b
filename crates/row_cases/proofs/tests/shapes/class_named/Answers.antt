use Rattle.std.proofs.Common.{◌∙◌, ap}
use Rattle.type_terms.specs.Terms.{class}
use Rattle.abstract_shapes.proofs.ViewLemmas.{view_class}
use Rattle.row_cases.proofs.tests.shapes.class_named.Goals as goal

pub returns : goal.returns
returns c = view_class c.in_ok-text.field-0 ∙ ap class c.in_ok-text.ensures
