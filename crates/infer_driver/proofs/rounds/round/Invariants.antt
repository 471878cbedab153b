-- What was fired in this round so far.
use Rattle.type_terms.specs.StubSets.{given}
use Rattle.abstract_vm.specs.Worlds.{source}
use Rattle.infer_driver.proofs.Growing.{IsRound}
use Rattle.infer_driver.proofs.rounds.round.Given as goal

abbrev pub invariant-loop-number : goal.invariant-loop-number
invariant-loop-number g l = IsRound (source l.program (given l.stubs) l.depth l.initial.world) l.initial.world l.number l.world l.more
