use Rattle.std.proofs.Common.{◌≡◌, [], drop}
use Rattle.scope_rules.specs.Named.{named}
use Rattle.scope_rules.specs.Roles.{is_value}
use Rattle.py_scope.proofs.names_of.values.Given as goal

abbrev pub invariant-loop-m : goal.invariant-loop-m
invariant-loop-m l = named is_value l.names (drop l.m-index l.mentions) ≡ named is_value [] l.mentions
