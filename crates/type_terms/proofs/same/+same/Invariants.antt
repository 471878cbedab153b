use Rattle.std.proofs.Common.{◌≡◌, drop}
use Rattle.type_terms.specs.View.{terms_view}
use Rattle.type_terms.specs.Same.{same_terms}
use Rattle.type_terms.proofs.same.+same.Given as goal

abbrev pub invariant-same_terms-loop-place : goal.invariant-same_terms-loop-place
invariant-same_terms-loop-place l = same_terms (terms_view (drop l.place l.first)) (terms_view (drop l.place l.second)) ≡ same_terms (terms_view l.first) (terms_view l.second)
