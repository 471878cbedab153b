use Rattle.type_terms.proofs.TextLemmas.{two, not_two}
use Rattle.pyi_write.proofs.imports.is_optional.Goals as goal

pub returns-then-members-eq2 : goal.returns-then-members-eq2
returns-then-members-eq2 c = two c.args.members.now c.index-members-1.result c.is_none.result c.if-members-eq2.true c.index-members-1.is c.is_none.ensures

pub returns-else-members-eq2 : goal.returns-else-members-eq2
returns-else-members-eq2 c = not_two c.args.members.now c.if-members-eq2.false
