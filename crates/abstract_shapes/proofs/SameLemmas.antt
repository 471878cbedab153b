-- What the test of types tells the test of shapes.
use Rattle.std.proofs.Common.{◌≡◌, ◌↔◌, IsTrue, Bool, sym, ap, ◌∙◌}
use Rattle.type_terms.specs.Same.{same_term}
use Rattle.type_terms.specs.Terms.{Term}
use Rattle.type_terms.proofs.SameLemmas.{term_is, term_itself}
use Rattle.abstract_shapes.specs.SameLaws.{same_answer}

pub same_given : (r : Bool) (t u : Term) → IsTrue r ↔ (t ≡ u) → r ≡ same_term t u
same_given r t u is = same_answer r (same_term t u) (λ h. ap (same_term t) (sym (is.0 h)) ∙ term_itself t) (λ h. is.1 (term_is t u h))
