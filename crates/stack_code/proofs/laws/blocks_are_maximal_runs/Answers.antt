use Rattle.stack_code.proofs.MaximalRuns.{blocks_maximal}
use Rattle.stack_code.proofs.laws.blocks_are_maximal_runs.Goals as goal

pub returns : goal.returns
returns c = λ code first past. blocks_maximal code first past
