use Rattle.std.proofs.Common.{◌≡◌, [], drop}
use Rattle.scope_rules.specs.Named.{named}
use Rattle.scope_rules.specs.Roles.{is_store}
use Rattle.py_scope.proofs.names_of.stores.Given as goal

abbrev pub invariant-loop-m : goal.invariant-loop-m
invariant-loop-m l = named is_store l.names (drop l.m-index l.mentions) ≡ named is_store [] l.mentions
