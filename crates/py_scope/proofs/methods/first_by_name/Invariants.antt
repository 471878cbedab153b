use Rattle.std.proofs.Common.{◌≡◌, ℕ, nat_eq, take}
use Rattle.indexmap.specs.IndexMap.{get}
use Rattle.scope_rules.specs.Tables.{method_named}
use Rattle.py_scope.proofs.methods.first_by_name.Given as goal

abbrev pub invariant-loop-row : goal.invariant-loop-row
invariant-loop-row l = (name : ℕ) → get nat_eq l.first name ≡ method_named (take l.row-index l.rows) name
