-- What the shapes so far have added.
use Rattle.std.proofs.Common.{◌≡◌, ℕ, take, Ok}
use Rattle.std.specs.List.{Contains}
use Rattle.std.specs.declared.alloc.AllocError.{AllocError}
use Rattle.world_rules.specs.Places.{Point}
use Rattle.world_rules.specs.Rules.{GivesAt}
use Rattle.abstract_vm.specs.Worlds.{items_in}
use Rattle.abstract_vm.specs.Steps.{entry_in, IsStep, IsOneOf}
use Rattle.abstract_vm.proofs.world.World.add_entries.Given as goal

abbrev pub invariant-loop-shape : goal.invariant-loop-shape
invariant-loop-shape l =
    (p : Point) → IsStep {E = AllocError} (λ s. (id : ℕ) → Contains l.shapes id → GivesAt s (items_in l.initial.self) p (entry_in l.initial.self l.place id)) p
    (λ s. IsOneOf (λ id i. i ≡ entry_in l.initial.self l.place id) (take l.shape-index l.shapes)) (Ok l.grown) l.initial.self l.self
