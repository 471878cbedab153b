use Rattle.std.proofs.Common.{◌≡◌, ◌++◌, [], drop, take}
use Rattle.scope_rules.specs.declared.fault.Rule.TheVariants as rule
use Rattle.scope_rules.specs.Named.{named}
use Rattle.scope_rules.specs.Roles.{binds, is_definition}
use Rattle.scope_rules.specs.Rules.{faults_after, rebinds, rebound}
use Rattle.py_scope.proofs.rules.rebound.Given as goal

abbrev pub invariant-loop-m : goal.invariant-loop-m
invariant-loop-m l = record {
  faults : l.out ++ faults_after rule.Rebound rebinds (take l.m-index l.mentions) (drop l.m-index l.mentions) ≡ l.initial.out ++ rebound l.mentions;
  bound : l.bound ≡ named binds [] (take l.m-index l.mentions);
  defined : l.defined ≡ named is_definition [] (take l.m-index l.mentions);
}
