use Rattle.std.proofs.Common.{◌≡◌, drop}
use Rattle.scope_rules.specs.Named.{mentioned}
use Rattle.scope_rules.specs.Roles.{assigns}
use Rattle.py_scope.proofs.rules.is_assigned.Given as goal

abbrev pub invariant-loop-m : goal.invariant-loop-m
invariant-loop-m l = mentioned assigns l.name (drop l.m-index l.mentions) ≡ mentioned assigns l.name l.mentions
