use Rattle.std.proofs.Common.{◌≡◌, ◌++◌, drop}
use Rattle.type_terms.specs.Texts.{texts, joined}
use Rattle.type_terms.specs.View.{terms_view}
use Rattle.type_terms.proofs.TextLemmas.{rest_of}
use Rattle.type_terms.proofs.text.+text.Given as goal

abbrev pub invariant-write_joined-loop-term : goal.invariant-write_joined-loop-term
invariant-write_joined-loop-term l =
    l.out ++ rest_of l.before (texts (terms_view (drop l.term-index l.terms))) ≡ l.initial.out ++ joined (texts (terms_view l.terms))
