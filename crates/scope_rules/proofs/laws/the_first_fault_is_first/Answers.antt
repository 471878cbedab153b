use Rattle.scope_rules.proofs.FirstLemmas.{first_is_first, none_first}
use Rattle.scope_rules.proofs.laws.the_first_fault_is_first.Goals as goal

pub returns : goal.returns
returns c = record { found = first_is_first; none = none_first }
