use Rattle.std.proofs.Common.{◌≡◌, [], drop}
use Rattle.scope_rules.specs.Named.{named}
use Rattle.scope_rules.specs.Roles.{binds}
use Rattle.py_scope.proofs.names_of.bound.Given as goal

abbrev pub invariant-loop-m : goal.invariant-loop-m
invariant-loop-m l = named binds l.names (drop l.m-index l.mentions) ≡ named binds [] l.mentions
