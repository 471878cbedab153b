-- What the shapes so far have added.
use Rattle.std.proofs.Common.{◌≡◌, ℕ, take, Ok}
use Rattle.std.specs.List.{Contains}
use Rattle.std.specs.declared.alloc.AllocError.{AllocError}
use Rattle.world_rules.specs.Rules.{GivesAt}
use Rattle.abstract_vm.specs.Worlds.{items_in, point_in}
use Rattle.abstract_vm.specs.Steps.{fact_in, IsStep, IsOneOf}
use Rattle.abstract_vm.proofs.world.World.add_facts.Given as goal

abbrev pub invariant-loop-shape : goal.invariant-loop-shape
invariant-loop-shape l =
    IsStep {E = AllocError} (λ s. (id : ℕ) → Contains l.shapes id → GivesAt s (items_in l.initial.self) (point_in l.initial.self l.point) (fact_in l.initial.self l.point id l.goals)) (point_in l.initial.self l.point)
    (λ s. IsOneOf (λ id i. i ≡ fact_in l.initial.self l.point id l.goals) (take l.shape-index l.shapes)) (Ok l.grown) l.initial.self l.self
