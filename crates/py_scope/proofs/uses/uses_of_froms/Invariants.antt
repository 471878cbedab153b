use Rattle.std.proofs.Common.{◌≡◌, ◌++◌, drop, map}
use Rattle.py_tree.specs.View.{from_view}
use Rattle.scope_rules.specs.Uses.{froms}
use Rattle.py_scope.proofs.uses.uses_of_froms.Given as goal

abbrev pub invariant-loop-part : goal.invariant-loop-part
invariant-loop-part l = l.out ++ froms (map from_view (drop l.part-index l.parts)) l.line ≡ l.initial.out ++ froms (map from_view l.parts) l.line
