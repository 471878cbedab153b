use Rattle.std.proofs.Common.{sym}
use Rattle.type_terms.proofs.SameLemmas.{lengths_differ}
use Rattle.type_terms.proofs.same.+same.Goals as goal

pub same_terms-returns-then-first-second : goal.same_terms-returns-then-first-second
same_terms-returns-then-first-second t c = sym (lengths_differ c.args.first.now c.args.second.now c.if-first-second.true)
