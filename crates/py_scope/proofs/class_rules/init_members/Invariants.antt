use Rattle.std.proofs.Common.{◌≡◌, ◌++◌, drop}
use Rattle.scope_rules.specs.declared.fault.Rule.TheVariants as rule
use Rattle.scope_rules.specs.Rules.{faults_at, init_members, is_init_member}
use Rattle.py_scope.proofs.class_rules.init_members.Given as goal

abbrev pub invariant-loop-m : goal.invariant-loop-m
invariant-loop-m l = l.out ++ faults_at rule.MethodRule (is_init_member l.names) (drop l.m-index l.mentions) ≡ l.initial.out ++ init_members l.names l.mentions
