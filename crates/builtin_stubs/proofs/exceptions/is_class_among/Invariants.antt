use Rattle.std.proofs.Common.{◌≡◌, drop, map}
use Rattle.std.specs.List.{list_any}
use Rattle.std.specs.Str.{bytes_eq}
use Rattle.builtin_stubs.specs.Exceptions.{class_of}
use Rattle.builtin_stubs.proofs.exceptions.is_class_among.Given as goal

abbrev pub invariant-loop-chain : goal.invariant-loop-chain
invariant-loop-chain l =
    list_any (bytes_eq l.name) (map (λ chain. class_of (map (λ class. class.now) chain.now)) (drop l.chain-index l.chains)) ≡ list_any (bytes_eq l.name) (map (λ chain. class_of (map (λ class. class.now) chain.now)) l.chains)
