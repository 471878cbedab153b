use Rattle.std.proofs.Common.{◌≡◌, drop, map}
use Rattle.type_terms.specs.Normal.{has_any}
use Rattle.type_terms.specs.View.{term_view}
use Rattle.type_terms.proofs.parts.has_any.Given as goal

abbrev pub invariant-loop-part : goal.invariant-loop-part
invariant-loop-part l = has_any (map term_view (drop l.part-index l.parts)) ≡ has_any (map term_view l.parts)
