-- What the entries so far have added.
use Rattle.std.proofs.Common.{take, Ok}
use Rattle.std.specs.declared.alloc.AllocError.{AllocError}
use Rattle.world_rules.specs.Places.{Point}
use Rattle.abstract_vm.specs.Steps.{IsFiring, IsGivenEntry, IsStep, IsOneOf}
use Rattle.abstract_vm.proofs.world.World.enter_row.Given as goal

abbrev pub invariant-loop-entry : goal.invariant-loop-entry
invariant-loop-entry l =
    (p : Point) → IsStep {E = AllocError} (λ s. IsFiring s l.initial.self p l.choice l.row) p (λ s. IsOneOf (IsGivenEntry s l.initial.self l.choice) (take l.entry-index l.row.entries)) (Ok l.grown) l.initial.self l.self
