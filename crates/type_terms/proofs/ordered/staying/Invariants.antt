use Rattle.std.proofs.Common.{◌≡◌, map}
use Rattle.type_terms.specs.Ordered.{member_terms, staying}
use Rattle.type_terms.specs.View.{term_view}
use Rattle.type_terms.proofs.ordered.staying.Given as goal

abbrev pub invariant-loop-part : goal.invariant-loop-part
invariant-loop-part l = member_terms l.members.items ≡ staying (map (λ name. name.now) l.names) (map term_view l.yielded)
