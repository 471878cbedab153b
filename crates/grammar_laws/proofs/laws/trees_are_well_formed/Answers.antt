use Rattle.grammar_laws.proofs.Formed
use Rattle.grammar_laws.proofs.laws.trees_are_well_formed.Goals as goal

pub returns : goal.returns
returns c = Formed.trees_are_well_formed c.names_are_numbered.ensures
