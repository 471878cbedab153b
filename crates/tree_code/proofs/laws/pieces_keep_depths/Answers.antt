-- By induction on the tree, with one lemma for each way to put pieces together.
use Rattle.tree_code.proofs.ValueFlows.{value_flows, put_flows}
use Rattle.tree_code.proofs.StatementFlows.{kind_flows, body_flows}
use Rattle.tree_code.proofs.laws.pieces_keep_depths.Goals as goal

pub returns-clause-values : goal.returns-clause-values
returns-clause-values c = λ again out locals e depth. value_flows again out locals e depth

pub returns-clause-targets : goal.returns-clause-targets
returns-clause-targets c = λ again out locals e depth. put_flows again out locals e depth

pub returns-clause-statements : goal.returns-clause-statements
returns-clause-statements c = λ at fine line kind. kind_flows at fine line kind

pub returns-clause-bodies : goal.returns-clause-bodies
returns-clause-bodies c = λ at fine body. body_flows at fine body
