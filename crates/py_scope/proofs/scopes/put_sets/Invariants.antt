use Rattle.std.proofs.Common.{◌≡◌, ◌++◌, drop}
use Rattle.py_scope.proofs.scopes.put_sets.Given as goal

abbrev pub invariant-loop-set : goal.invariant-loop-set
invariant-loop-set l = l.copies.items ++ drop l.set-index l.sets ≡ l.initial.copies.items ++ l.sets
