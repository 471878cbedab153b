-- Rule by rule, and by carrying out the run.
use Rattle.world_covering.proofs.OneLine.{its_world_is_closed, its_runs_are_covered, its_name_is_held}
use Rattle.world_covering.proofs.laws.a_world_is_closed.Goals as goal

pub returns-clause-closed : goal.returns-clause-closed
returns-clause-closed c = its_world_is_closed

pub returns-clause-covered : goal.returns-clause-covered
returns-clause-covered c = its_runs_are_covered

pub returns-clause-told : goal.returns-clause-told
returns-clause-told c = its_name_is_held
