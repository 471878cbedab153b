use Rattle.std.proofs.Common.{◌≡◌, ◌++◌, drop, map}
use Rattle.py_tree.specs.View.{param_view}
use Rattle.scope_rules.specs.Uses.{parameters}
use Rattle.py_scope.proofs.bodies.parameters.Given as goal

abbrev pub invariant-loop-param : goal.invariant-loop-param
invariant-loop-param l = l.out ++ parameters (map param_view (drop l.param-index l.params)) l.line ≡ l.initial.out ++ parameters (map param_view l.params) l.line
