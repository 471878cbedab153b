use Rattle.std.proofs.Common.{◌≡◌, ◌++◌, drop}
use Rattle.scope_rules.specs.declared.fault.Rule.TheVariants as rule
use Rattle.scope_rules.specs.Rules.{faults_at, builtin_bound, takes_builtin}
use Rattle.py_scope.proofs.rules.builtin_bound.Given as goal

abbrev pub invariant-loop-m : goal.invariant-loop-m
invariant-loop-m l = l.out ++ faults_at rule.BuiltinBound (takes_builtin l.names) (drop l.m-index l.mentions) ≡ l.initial.out ++ builtin_bound l.names l.mentions
