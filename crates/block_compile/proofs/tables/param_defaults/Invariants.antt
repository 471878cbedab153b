use Rattle.std.proofs.Common.{◌≡◌, ◌++◌, drop, map}
use Rattle.py_tree.specs.View.{param_view}
use Rattle.block_compile.proofs.tables.param_defaults.Given as goal

abbrev pub invariant-loop-param : goal.invariant-loop-param
invariant-loop-param l = l.defaults ++ map (λ p. p.default) (map param_view (drop l.param-index l.params)) ≡ map (λ p. p.default) (map param_view l.params)
