use Rattle.type_terms.proofs.NormalLemmas.{settled}
use Rattle.type_terms.proofs.laws.normal_forms_are_normal.Goals as goal

pub returns : goal.returns
returns c = settled
