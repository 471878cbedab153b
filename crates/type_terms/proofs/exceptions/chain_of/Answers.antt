use Rattle.std.proofs.Common.{refl, ◌∙◌}
use Rattle.type_terms.proofs.ChainLemmas.{all_chains, chain_found}
use Rattle.type_terms.proofs.exceptions.chain_of.Goals as goal

pub returns : goal.returns
returns c = c.find_chain.ensures ∙ chain_found all_chains c.args.name.now refl refl
