use Rattle.std.proofs.Common.{◌≡◌, drop, map}
use Rattle.type_terms.specs.Exceptions.{first_chain}
use Rattle.type_terms.proofs.exceptions.find_chain.Given as goal

abbrev pub invariant-loop-chain : goal.invariant-loop-chain
invariant-loop-chain l =
    first_chain l.name (map (λ chain. map (λ class. class.now) chain.now) (drop l.chain-index l.chains))
    ≡ first_chain l.name (map (λ chain. map (λ class. class.now) chain.now) l.chains)
