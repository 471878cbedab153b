use Rattle.std.proofs.Common.{◌≡◌, map, take}
use Rattle.type_terms.specs.View.{term_view}
use Rattle.type_terms.proofs.copied.+copy.Given as goal

abbrev pub invariant-copy_terms-loop-term : goal.invariant-copy_terms-loop-term
invariant-copy_terms-loop-term l = map term_view l.made.items ≡ map term_view (take l.term-index l.terms)
