use Rattle.type_terms.specs.View.{term_view}
use Rattle.type_terms.proofs.SameLemmas.{same_decides}
use Rattle.type_terms.proofs.term.TypeTerm.same.Goals as goal

pub returns : goal.returns
returns c = same_decides (term_view c.args.self.now) (term_view c.args.other.now) c.same_term.result c.same_term.ensures
