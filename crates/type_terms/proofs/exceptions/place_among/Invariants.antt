use Rattle.std.proofs.Common.{◌≡◌, ◌+◌, drop, map}
use Rattle.std.specs.List.{position_or_len}
use Rattle.type_terms.specs.Exceptions.{heads}
use Rattle.type_terms.proofs.exceptions.place_among.Given as goal

abbrev pub invariant-loop-place : goal.invariant-loop-place
invariant-loop-place l =
    l.place + position_or_len (heads l.name) (map (λ chain. map (λ class. class.now) chain.now) (drop l.place l.chains))
    ≡ position_or_len (heads l.name) (map (λ chain. map (λ class. class.now) chain.now) l.chains)
