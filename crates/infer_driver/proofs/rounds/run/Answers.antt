use Rattle.std.proofs.Common.{◌≡◌, rules, false, Ok, subst, ap, ◌∙◌}
use Rattle.type_terms.specs.StubSets.{given}
use Rattle.abstract_vm.specs.Worlds.{source}
use Rattle.infer_driver.specs.Rounds.{IsQuiet}
use Rattle.infer_driver.proofs.Growing.{still_first, grown_on, least_at}
use Rattle.infer_driver.proofs.rounds.run.Goals as goal

pub returns-then-not-branch-clause-least : goal.returns-then-not-branch-clause-least
returns-then-not-branch-clause-least g c =
    let s = source c.args.program.now (given c.args.stubs.now) c.args.depth c.args.world.now in
    let none : c.in_ok-round.field-0 ≡ false = search rules in
    let quiet : IsQuiet s c.round.new.world =
    subst (λ t. IsQuiet t c.round.new.world) (still_first c.args.program.now (given c.args.stubs.now) c.args.depth c.args.world.now c.rounds.world c.round.new.world c.rounds.invariant)
    (c.round.ensures.quiet (c.in_ok-round.was ∙ ap Ok none)) in
    least_at s c.args.world.now c.round.new.world
    (grown_on c.args.program.now (given c.args.stubs.now) c.args.depth c.args.world.now c.rounds.world c.round.new.world c.rounds.invariant c.round.ensures.grown) c.requires.main quiet
    (c.a_quiet_world_is_least.ensures.least s _)
