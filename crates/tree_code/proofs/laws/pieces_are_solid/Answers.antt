-- By induction on the tree, with one lemma for each way to put pieces together.
use Rattle.tree_code.proofs.SolidTrees.{value_solid, put_solid, kind_solid, body_solid, handlers_solid}
use Rattle.tree_code.proofs.laws.pieces_are_solid.Goals as goal

pub returns-clause-values : goal.returns-clause-values
returns-clause-values c = λ locals e. value_solid locals e

pub returns-clause-targets : goal.returns-clause-targets
returns-clause-targets c = λ locals e. put_solid locals e

pub returns-clause-statements : goal.returns-clause-statements
returns-clause-statements c = λ at line kind. kind_solid at line kind

pub returns-clause-bodies : goal.returns-clause-bodies
returns-clause-bodies c = λ at body. body_solid at body

pub returns-clause-clauses : goal.returns-clause-clauses
returns-clause-clauses c = λ at line handlers. handlers_solid at line handlers
