use Rattle.type_terms.proofs.exceptions.exception_at.Goals as goal

pub returns : goal.returns
returns c = c.class_at.ensures
