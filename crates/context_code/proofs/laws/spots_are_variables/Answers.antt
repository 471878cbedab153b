use Rattle.context_code.proofs.SeatVariables.{all_stand}
use Rattle.context_code.proofs.laws.spots_are_variables.Goals as goal

pub returns : goal.returns
returns c = all_stand
