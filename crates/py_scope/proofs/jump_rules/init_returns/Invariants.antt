use Rattle.std.proofs.Common.{◌≡◌, ◌++◌, drop}
use Rattle.scope_rules.specs.declared.fault.Rule.TheVariants as rule
use Rattle.scope_rules.specs.Rules.{jump_faults, init_returns, returns_value}
use Rattle.py_scope.proofs.jump_rules.init_returns.Given as goal

abbrev pub invariant-loop-j : goal.invariant-loop-j
invariant-loop-j l = l.out ++ jump_faults rule.InitReturns (returns_value l.init) (drop l.j-index l.jumps) ≡ l.initial.out ++ init_returns l.init l.jumps
