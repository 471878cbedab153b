-- What the points so far tell.
use Rattle.type_terms.specs.StubSets.{given}
use Rattle.abstract_vm.specs.Worlds.{source}
use Rattle.world_stub.specs.Solved.{OnlySolved}
use Rattle.infer_driver.specs.Told.{AreTold}
use Rattle.infer_driver.proofs.tell.tell.Given as goal

abbrev pub invariant-loop-number : goal.invariant-loop-number
invariant-loop-number g l = AreTold (source l.program (given l.stubs) l.depth l.initial.world) l.initial.world l.number l.told × OnlySolved l.initial.world l.world
