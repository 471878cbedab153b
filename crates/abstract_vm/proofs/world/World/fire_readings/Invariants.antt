-- What the readings so far have added.
use Rattle.std.proofs.Common.{take, Ok}
use Rattle.std.specs.List.{Contains}
use Rattle.std.specs.declared.alloc.AllocError.{AllocError}
use Rattle.world_rules.specs.declared.transfer.SeatReading.{SeatReading}
use Rattle.abstract_vm.specs.Worlds.{items_in, point_in}
use Rattle.abstract_vm.specs.Readings.{IsReadAt}
use Rattle.abstract_vm.specs.Steps.{GivesBy, IsStep, IsOneOf}
use Rattle.abstract_vm.proofs.world.World.fire_readings.Given as goal

abbrev pub invariant-loop-reading : goal.invariant-loop-reading
invariant-loop-reading g l =
    IsStep {E = AllocError} (λ s. (r : SeatReading) → Contains l.readings r → IsReadAt s l.initial.self l.point l.at r) (point_in l.initial.self l.point)
    (λ s. IsOneOf (λ r. GivesBy s (items_in l.initial.self) r (point_in l.initial.self l.point)) (take l.reading-index l.readings)) (Ok l.grown) l.initial.self l.self
