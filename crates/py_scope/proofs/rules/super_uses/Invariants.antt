use Rattle.std.proofs.Common.{◌≡◌, ◌++◌, drop}
use Rattle.scope_rules.specs.declared.fault.Rule.TheVariants as rule
use Rattle.scope_rules.specs.Rules.{faults_at, super_uses, is_wrong_super}
use Rattle.py_scope.proofs.rules.super_uses.Given as goal

abbrev pub invariant-loop-m : goal.invariant-loop-m
invariant-loop-m l = l.out ++ faults_at rule.SuperUse (is_wrong_super l.wrong) (drop l.m-index l.mentions) ≡ l.initial.out ++ super_uses l.wrong l.mentions
