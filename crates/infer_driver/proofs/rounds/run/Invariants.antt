-- A round that isn't the last one adds an item, and there are never too many.
use Rattle.std.proofs.Common.{◌-◌, ◌+◌, length}
use Rattle.type_terms.specs.StubSets.{given}
use Rattle.abstract_vm.specs.Worlds.{items_in, source, most_items}
use Rattle.infer_driver.proofs.Growing.{IsRunning}
use Rattle.infer_driver.proofs.rounds.run.Given as goal

abbrev pub invariant-rounds : goal.invariant-rounds
invariant-rounds g l = IsRunning (source l.program (given l.stubs) l.depth l.initial.world) l.initial.world l.world

abbrev pub decreases-rounds : goal.decreases-rounds
decreases-rounds g l = most_items - length (items_in l.world)
