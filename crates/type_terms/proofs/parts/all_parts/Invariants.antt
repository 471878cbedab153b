use Rattle.std.proofs.Common.{◌≡◌, map}
use Rattle.type_terms.specs.Normal.{parts_of}
use Rattle.type_terms.specs.View.{term_view, terms_view}
use Rattle.type_terms.proofs.parts.all_parts.Given as goal

abbrev pub invariant-loop-member : goal.invariant-loop-member
invariant-loop-member l = map term_view l.all.items ≡ parts_of (terms_view l.yielded)
