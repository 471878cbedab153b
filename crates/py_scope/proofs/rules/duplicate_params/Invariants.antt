use Rattle.std.proofs.Common.{◌≡◌, ◌++◌, [], drop, take}
use Rattle.scope_rules.specs.declared.fault.Rule.TheVariants as rule
use Rattle.scope_rules.specs.Named.{named}
use Rattle.scope_rules.specs.Roles.{is_parameter}
use Rattle.scope_rules.specs.Rules.{faults_after, duplicate_params, repeats_parameter}
use Rattle.py_scope.proofs.rules.duplicate_params.Given as goal

abbrev pub invariant-loop-m : goal.invariant-loop-m
invariant-loop-m l = record {
  faults : l.out ++ faults_after rule.DuplicateParam repeats_parameter (take l.m-index l.mentions) (drop l.m-index l.mentions) ≡ l.initial.out ++ duplicate_params l.mentions;
  seen : l.seen ≡ named is_parameter [] (take l.m-index l.mentions);
}
