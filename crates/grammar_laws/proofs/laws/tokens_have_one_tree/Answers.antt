use Rattle.grammar_laws.proofs.OneTree.{one_tree}
use Rattle.grammar_laws.proofs.laws.tokens_have_one_tree.Goals as goal

pub returns : goal.returns
returns c = one_tree c.descent_is_complete.ensures
