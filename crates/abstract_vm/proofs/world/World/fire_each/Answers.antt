-- Each choice adds what it gives.
use Rattle.std.proofs.Common.{◌≡◌, ℕ, Ok, Err, List, get_or, ap, sym, subst, ◌∙◌}
use Rattle.graph_queries.specs.Choices.{AreGiven}
use Rattle.abstract_vm.specs.Worlds.{items_in, point_in}
use Rattle.abstract_vm.specs.Steps.{GivesFor, shapes_in}
use Rattle.abstract_vm.proofs.Known.{given_on}
use Rattle.abstract_vm.proofs.Lifting.{each_more}
use Rattle.abstract_vm.proofs.Steps.{step_error, step_whole}
use Rattle.abstract_vm.proofs.world.World.fire_each.Goals as goal

-- the choice at an index, as the slice that the call gets
same_item : (chosen : List (List ℕ)) (k : ℕ) (slice item : List ℕ) → slice ≡ item → item ≡ get_or chosen k item → slice ≡ get_or chosen k slice
same_item chosen k slice item e is = e ∙ (is ∙ ap (get_or chosen k) (sym e))

pub fire_choice-requires-clause-given : goal.fire_choice-requires-clause-given
fire_choice-requires-clause-given g c =
    given_on c.args.self.now c.loop-choice.self c.loop-choice.invariant.stay c.args.vars.now c.as_slice.result.now
    (subst (AreGiven c.args.self.now.rows.graph c.args.vars.now) (sym (same_item c.args.chosen.now c.loop-choice.choice-index c.as_slice.result.now c.choice-item.result c.as_slice.ensures c.choice-item.is))
    (c.requires.given c.loop-choice.choice-index c.as_slice.result.now c.loop-choice-test.true))

pub returns-in_err-more : goal.returns-in_err-more
returns-in_err-more g c =
    step_error c.from_residual.result c.from_residual.ensures.0
    (each_more c.args.self.now c.loop-choice.self c.fire_choice.new.self c.args.point c.args.reading.now c.args.vars.now c.args.chosen.now c.requires.given c.loop-choice.choice-index c.as_slice.result.now c.loop-choice-test.true
    (same_item c.args.chosen.now c.loop-choice.choice-index c.as_slice.result.now c.choice-item.result c.as_slice.ensures c.choice-item.is) c.loop-choice.grown (Err c.in_err-more.field-0.0) c.loop-choice.invariant c.in_err-more.ensures)

pub loop-choice-preserved : goal.loop-choice-preserved
loop-choice-preserved g c =
    each_more c.args.self.now c.loop-choice.self c.fire_choice.new.self c.args.point c.args.reading.now c.args.vars.now c.args.chosen.now c.requires.given c.loop-choice.choice-index c.as_slice.result.now c.loop-choice-test.true
    (same_item c.args.chosen.now c.loop-choice.choice-index c.as_slice.result.now c.choice-item.result c.as_slice.ensures c.choice-item.is) c.loop-choice.grown (Ok c.in_ok-more.more) c.loop-choice.invariant c.in_ok-more.ensures

pub returns : goal.returns
returns g c =
    step_whole (λ s ids. GivesFor s (items_in c.args.self.now) c.args.reading.now (shapes_in c.args.self.now ids) (point_in c.args.self.now c.args.point)) c.args.chosen.now c.loop-choice.choice-index
    c.loop-choice.auto.choice-index-end c.loop-choice-test.false c.loop-choice.invariant
