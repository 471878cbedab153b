use Rattle.std.proofs.Common.{◌≡◌, ◌++◌, drop}
use Rattle.scope_rules.specs.declared.fault.Rule.TheVariants as rule
use Rattle.scope_rules.specs.Rules.{jump_faults, returns_outside}
use Rattle.py_scope.proofs.jump_rules.returns_outside.Given as goal
use Rattle.scope_rules.specs.Jumps.{is_return}

abbrev pub invariant-loop-j : goal.invariant-loop-j
invariant-loop-j l = l.out ++ jump_faults rule.ReturnOutside (is_return) (drop l.j-index l.jumps) ≡ l.initial.out ++ returns_outside l.jumps
