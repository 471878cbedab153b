use Rattle.type_terms.proofs.NormalLemmas.{one_form}
use Rattle.type_terms.proofs.laws.one_normal_form.Goals as goal

pub returns : goal.returns
returns c = one_form
