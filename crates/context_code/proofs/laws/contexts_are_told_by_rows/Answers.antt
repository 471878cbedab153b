use Rattle.context_code.proofs.Contexts.{context_is}
use Rattle.context_code.proofs.laws.contexts_are_told_by_rows.Goals as goal

pub returns : goal.returns
returns c = context_is
