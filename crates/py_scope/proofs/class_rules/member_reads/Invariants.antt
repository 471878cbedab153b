use Rattle.std.proofs.Common.{◌≡◌, ◌++◌, drop}
use Rattle.scope_rules.specs.declared.fault.Rule.TheVariants as rule
use Rattle.scope_rules.specs.Rules.{faults_at, reads_member}
use Rattle.py_scope.proofs.class_rules.member_reads.Given as goal

abbrev pub invariant-loop-m : goal.invariant-loop-m
invariant-loop-m l =
    l.out ++ faults_at rule.MethodRule (reads_member l.mentions) (drop l.m-index l.mentions) ≡ l.initial.out ++ faults_at rule.MethodRule (reads_member l.mentions) l.mentions
