-- The shapes so far, and those of the kinds that are left.
use Rattle.std.proofs.Common.{◌≡◌, ◌++◌, drop}
use Rattle.std.specs.List.{flat_map}
use Rattle.world_rules.specs.Operators.{of_kind}
use Rattle.instruction_rows.proofs.operators.of_kinds.Given as goal

abbrev pub invariant-loop-kind : goal.invariant-loop-kind
invariant-loop-kind l = l.results ++ flat_map of_kind (drop l.kind-index l.kinds) ≡ flat_map of_kind l.kinds
