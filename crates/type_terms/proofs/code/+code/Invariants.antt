use Rattle.std.proofs.Common.{◌≡◌, ◌++◌, drop}
use Rattle.type_terms.specs.Codes.{codes_of}
use Rattle.type_terms.specs.View.{terms_view}
use Rattle.type_terms.proofs.code.+code.Given as goal

abbrev pub invariant-write_codes-loop-term : goal.invariant-write_codes-loop-term
invariant-write_codes-loop-term l =
    l.out ++ codes_of (terms_view (drop l.term-index l.terms)) ≡ l.initial.out ++ codes_of (terms_view l.terms)
