use Rattle.std.proofs.Common.{◌≡◌, drop, map}
use Rattle.type_terms.specs.BuiltinNames.{has_name}
use Rattle.py_scope.proofs.builtins.is_among.Given as goal

abbrev pub invariant-loop-name : goal.invariant-loop-name
invariant-loop-name l = has_name (map (λ name. name.now) (drop l.name-index l.names)) l.text ≡ has_name (map (λ name. name.now) l.names) l.text
