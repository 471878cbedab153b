use Rattle.builtin_stubs.proofs.RowLemmas.{function_row, method_row}
use Rattle.builtin_stubs.proofs.laws.numbers_lead_back.Goals as goal

pub returns : goal.returns
returns c = (function_row, method_row)
