use Rattle.type_terms.proofs.NormalLemmas.{same_members_form}
use Rattle.type_terms.proofs.laws.same_members_same_form.Goals as goal

pub returns : goal.returns
returns c = same_members_form
