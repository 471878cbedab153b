-- What the choices so far have added.
use Rattle.std.proofs.Common.{take, Ok}
use Rattle.std.specs.declared.alloc.AllocError.{AllocError}
use Rattle.abstract_vm.specs.Worlds.{items_in, point_in}
use Rattle.abstract_vm.specs.Readings.{IsReadingOf}
use Rattle.abstract_vm.specs.Steps.{GivesFor, IsStep, IsOneOf, shapes_in}
use Rattle.abstract_vm.proofs.world.World.fire_each.Given as goal

abbrev pub invariant-loop-choice : goal.invariant-loop-choice
invariant-loop-choice g l =
    IsStep {E = AllocError} (λ s. IsReadingOf s l.initial.self l.point l.reading l.vars) (point_in l.initial.self l.point)
    (λ s. IsOneOf (λ ids. GivesFor s (items_in l.initial.self) l.reading (shapes_in l.initial.self ids) (point_in l.initial.self l.point)) (take l.choice-index l.chosen)) (Ok l.grown) l.initial.self l.self
