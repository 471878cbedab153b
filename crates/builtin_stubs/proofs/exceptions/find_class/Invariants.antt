use Rattle.std.proofs.Common.{◌≡◌, ◌+◌, drop, map}
use Rattle.builtin_stubs.specs.Exceptions.{class_of}
use Rattle.builtin_stubs.specs.Natives.{exception_native, number_in}
use Rattle.builtin_stubs.proofs.exceptions.find_class.Given as goal

abbrev pub invariant-loop-chain : goal.invariant-loop-chain
invariant-loop-chain l = record {
  counts : l.number ≡ l.before + l.chain-index;
  same : number_in l.number (map (λ chain. exception_native (class_of (map (λ class. class.now) chain.now))) (drop l.chain-index l.chains)) l.name ≡ number_in l.before (map (λ chain. exception_native (class_of (map (λ class. class.now) chain.now))) l.chains) l.name;
}
