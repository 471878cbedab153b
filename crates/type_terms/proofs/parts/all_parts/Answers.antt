use Rattle.type_terms.proofs.PartLemmas.{added_parts}
use Rattle.type_terms.proofs.parts.all_parts.Goals as goal

pub loop-member-preserved : goal.loop-member-preserved
loop-member-preserved c = added_parts c.loop-member.all.items c.add_parts.new.all.items c.loop-member.yielded c.in-Some.member c.loop-member.invariant c.in_ok-add_parts.ensures
