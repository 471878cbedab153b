use Rattle.std.proofs.Common.{◌≡◌, ◌++◌, drop}
use Rattle.scope_rules.specs.declared.fault.Rule.TheVariants as rule
use Rattle.scope_rules.specs.Rules.{faults_at, init_targets, is_init_target}
use Rattle.py_scope.proofs.rules.init_targets.Given as goal

abbrev pub invariant-loop-m : goal.invariant-loop-m
invariant-loop-m l = l.out ++ faults_at rule.MethodRule (is_init_target l.names) (drop l.m-index l.mentions) ≡ l.initial.out ++ init_targets l.names l.mentions
