-- What the results so far have added.
use Rattle.std.proofs.Common.{take, Ok}
use Rattle.std.specs.declared.alloc.AllocError.{AllocError}
use Rattle.abstract_vm.specs.Worlds.{point_in}
use Rattle.abstract_vm.specs.Steps.{IsFiringUnder, IsGivenFact, IsStep, IsOneOf}
use Rattle.abstract_vm.proofs.world.World.add_results.Given as goal

abbrev pub invariant-loop-result : goal.invariant-loop-result
invariant-loop-result l =
    IsStep {E = AllocError} (λ s. IsFiringUnder s l.initial.self (point_in l.initial.self l.point) l.choice l.goals l.row) (point_in l.initial.self l.point)
    (λ s. IsOneOf (IsGivenFact s l.initial.self l.point l.choice l.goals) (take l.result-index l.row.results)) (Ok l.grown) l.initial.self l.self
