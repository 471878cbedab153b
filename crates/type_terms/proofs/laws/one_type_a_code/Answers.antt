use Rattle.type_terms.proofs.CodeLemmas.{same_code}
use Rattle.type_terms.proofs.laws.one_type_a_code.Goals as goal

pub returns : goal.returns
returns c = same_code
