use Rattle.std.proofs.Common.{◌≡◌, ◌++◌, drop, map}
use Rattle.py_tree.specs.View.{import_view}
use Rattle.scope_rules.specs.Uses.{imports}
use Rattle.py_scope.proofs.uses.uses_of_imports.Given as goal

abbrev pub invariant-loop-part : goal.invariant-loop-part
invariant-loop-part l = l.out ++ imports (map import_view (drop l.part-index l.parts)) l.line ≡ l.initial.out ++ imports (map import_view l.parts) l.line
