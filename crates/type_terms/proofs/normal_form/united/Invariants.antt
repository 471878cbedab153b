use Rattle.std.proofs.Common.{◌≡◌, map}
use Rattle.type_terms.specs.Ordered.{member_terms}
use Rattle.type_terms.specs.View.{term_view}
use Rattle.type_terms.proofs.normal_form.united.Given as goal

abbrev pub invariant-loop-member : goal.invariant-loop-member
invariant-loop-member l = map term_view l.terms.items ≡ member_terms l.yielded
