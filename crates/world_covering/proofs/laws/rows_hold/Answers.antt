-- By the tables that the rules and the meaning share.
use Rattle.world_covering.proofs.RowsHold.{rows_hold}
use Rattle.world_covering.proofs.laws.rows_hold.Goals as goal

pub returns : goal.returns
returns c = rows_hold
