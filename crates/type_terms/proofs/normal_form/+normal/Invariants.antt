use Rattle.std.proofs.Common.{take}
use Rattle.type_terms.specs.Normal.{AreNormalOf}
use Rattle.type_terms.specs.View.{terms_view}
use Rattle.type_terms.proofs.normal_form.+normal.Given as goal

abbrev pub invariant-normal_terms-loop-term : goal.invariant-normal_terms-loop-term
invariant-normal_terms-loop-term l = AreNormalOf (terms_view (take l.term-index l.terms)) (terms_view l.made.items)
