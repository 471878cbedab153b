use Rattle.builtin_stubs.proofs.OperatorLemmas.{of_a_row}
use Rattle.builtin_stubs.proofs.laws.kinds_are_of_a_row.Goals as goal

pub returns : goal.returns
returns c = of_a_row
