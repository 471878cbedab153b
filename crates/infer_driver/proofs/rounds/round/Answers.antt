use Rattle.std.proofs.Common.{◌≡◌, ◌+◌, ◌<◌, ◌≤◌, ℕ, true, false, Ok, length, subst, sym, ap, ◌∙◌, arith}
use Rattle.type_terms.specs.StubSets.{given}
use Rattle.world_rules.specs.Rules.{IsContained}
use Rattle.abstract_vm.specs.Worlds.{items_in, source}
use Rattle.infer_driver.proofs.Growing.{IsRound, step_new, step_nothing, quiet}
use Rattle.infer_driver.proofs.rounds.round.Goals as goal
use Rattle.infer_driver.proofs.rounds.round.Goals.{then-branch, else-branch}

pub loop-number-preserved : goal.loop-number-preserved
loop-number-preserved g c =
    elim c.if-branch.branch [
      | then-branch w ↦
          let l : length (items_in c.loop-number.world) < length (items_in c.fire_one.new.world) = c.fire_one.ensures.more (c.in_ok-fire_one.was ∙ ap Ok w.if-branch.true) in
          subst (λ b. IsRound (source c.args.program.now (given c.args.stubs.now) c.args.depth c.args.world.now) c.args.world.now (c.loop-number.number + 1) c.fire_one.new.world b) (sym w.more-is)
          (step_new c.args.program.now (given c.args.stubs.now) c.args.depth c.args.world.now c.loop-number.world c.fire_one.new.world c.loop-number.number c.new.result c.new.ensures c.loop-number.more c.loop-number.invariant (c.rules_go_on.ensures.points (source c.args.program.now (given c.args.stubs.now) c.args.depth c.args.world.now))
          c.fire_one.ensures.grown c.in_ok-fire_one.ensures.given c.fire_one.ensures.longer c.in_ok-fire_one.ensures.few l)
      | else-branch w ↦
          let back : IsContained (items_in c.fire_one.new.world) (items_in c.loop-number.world) = c.fire_one.ensures.same (c.in_ok-fire_one.was ∙ ap Ok w.if-branch.false) in
          subst (λ b. IsRound (source c.args.program.now (given c.args.stubs.now) c.args.depth c.args.world.now) c.args.world.now (c.loop-number.number + 1) c.fire_one.new.world b) (sym w.more-is)
          (step_nothing c.args.program.now (given c.args.stubs.now) c.args.depth c.args.world.now c.loop-number.world c.fire_one.new.world c.loop-number.number c.new.result c.new.ensures c.loop-number.more c.loop-number.invariant (c.rules_go_on.ensures.points (source c.args.program.now (given c.args.stubs.now) c.args.depth c.args.world.now))
          c.fire_one.ensures.grown c.in_ok-fire_one.ensures.given c.fire_one.ensures.longer c.in_ok-fire_one.ensures.few back)
    ]

pub returns-clause-quiet : goal.returns-clause-quiet
returns-clause-quiet g c = λ e.
    let s = source c.args.program.now (given c.args.stubs.now) c.args.depth c.args.world.now in
    let none : c.loop-number.more ≡ false = cc in
    let all : c.loop-number.number ≡ length c.args.world.now.rows.points = omega arith in
    quiet s (c.rules_go_on.ensures.points s) c.args.world.now c.loop-number.world
    (subst (λ n. IsRound s c.args.world.now n c.loop-number.world false) all (subst (λ b. IsRound s c.args.world.now c.loop-number.number c.loop-number.world b) none c.loop-number.invariant))
