use Rattle.std.proofs.Common.{◌≡◌, ◌++◌, [], drop, take}
use Rattle.scope_rules.specs.declared.fault.Rule.TheVariants as rule
use Rattle.scope_rules.specs.Named.{named}
use Rattle.scope_rules.specs.Roles.{binds}
use Rattle.scope_rules.specs.Rules.{faults_after, member_twice, binds_again}
use Rattle.py_scope.proofs.class_rules.member_twice.Given as goal

abbrev pub invariant-loop-m : goal.invariant-loop-m
invariant-loop-m l = record {
  faults : l.out ++ faults_after rule.MethodRule binds_again (take l.m-index l.mentions) (drop l.m-index l.mentions) ≡ l.initial.out ++ member_twice l.mentions;
  seen : l.seen ≡ named binds [] (take l.m-index l.mentions);
}
