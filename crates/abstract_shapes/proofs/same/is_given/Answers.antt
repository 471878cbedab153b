use Rattle.type_terms.specs.View.{term_view}
use Rattle.abstract_shapes.proofs.SameLemmas.{same_given}
use Rattle.abstract_shapes.proofs.same.is_given.Goals as goal

pub returns-in-Given : goal.returns-in-Given
returns-in-Given c = rw c.in-Given.is (same_given c.same.result (term_view c.args.term.now) (term_view c.in-Given.other) c.same.ensures)
