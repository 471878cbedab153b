-- The depths of the code's places go along with the run.
use Rattle.tree_covering.proofs.Following.{run_ends, run_leaves}
use Rattle.tree_covering.proofs.laws.runs_follow_their_code.Goals as goal

pub returns-clause-ends : goal.returns-clause-ends
returns-clause-ends c = λ error m stubs n choices calls none e. run_ends error m stubs none n choices calls e

pub returns-clause-leaves : goal.returns-clause-leaves
returns-clause-leaves c = λ error m stubs n choices calls v none e. run_leaves error m stubs none n choices calls v e
