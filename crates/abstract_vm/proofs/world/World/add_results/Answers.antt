-- Each result adds its facts.
use Rattle.std.proofs.Common.{◌≡◌, ◌<◌, ◌≤◌, Ok, Err, List, get_or, length, ap, subst, ◌∙◌}
use Rattle.world_rules.specs.declared.row.Yield.{Yield}
use Rattle.abstract_vm.specs.Steps.{IsGivenFact}
use Rattle.abstract_vm.proofs.Loops.{results_more}
use Rattle.abstract_vm.proofs.Steps.{step_error, step_whole}
use Rattle.abstract_vm.proofs.world.World.add_results.Goals as goal

pub returns-in_err-more : goal.returns-in_err-more
returns-in_err-more c =
    let below : c.loop-result.result-index < length c.args.row.now.results = subst (λ (ys : List Yield). c.loop-result.result-index < length ys) c.as_slice-result-items.ensures c.loop-result-test.true in
    let at : c.result-item.result ≡ get_or c.args.row.now.results c.loop-result.result-index c.result-item.result = c.result-item.is ∙ ap (λ (ys : List Yield). get_or ys c.loop-result.result-index c.result-item.result) c.as_slice-result-items.ensures in
    step_error c.from_residual.result c.from_residual.ensures.0
    (results_more c.args.self.now c.loop-result.self c.add_result.new.self c.args.choice.now c.requires.choice c.args.row.now c.loop-result.grown (Err c.in_err-more.field-0.0) c.args.point c.args.goals.now c.requires.goals
    c.loop-result.result-index c.result-item.result below at c.loop-result.invariant c.in_err-more.ensures)

pub loop-result-preserved : goal.loop-result-preserved
loop-result-preserved c =
    let below : c.loop-result.result-index < length c.args.row.now.results = subst (λ (ys : List Yield). c.loop-result.result-index < length ys) c.as_slice-result-items.ensures c.loop-result-test.true in
    let at : c.result-item.result ≡ get_or c.args.row.now.results c.loop-result.result-index c.result-item.result = c.result-item.is ∙ ap (λ (ys : List Yield). get_or ys c.loop-result.result-index c.result-item.result) c.as_slice-result-items.ensures in
    results_more c.args.self.now c.loop-result.self c.add_result.new.self c.args.choice.now c.requires.choice c.args.row.now c.loop-result.grown (Ok c.in_ok-more.more) c.args.point c.args.goals.now c.requires.goals
    c.loop-result.result-index c.result-item.result below at c.loop-result.invariant c.in_ok-more.ensures

pub returns : goal.returns
returns c =
    let up : c.loop-result.result-index ≤ length c.args.row.now.results = subst (λ (ys : List Yield). c.loop-result.result-index ≤ length ys) c.as_slice-result-items.ensures c.loop-result.auto.result-index-end in
    let down : length c.args.row.now.results ≤ c.loop-result.result-index = subst (λ (ys : List Yield). length ys ≤ c.loop-result.result-index) c.as_slice-result-items.ensures c.loop-result-test.false in
    step_whole (λ s. IsGivenFact s c.args.self.now c.args.point c.args.choice.now c.args.goals.now) c.args.row.now.results c.loop-result.result-index up down c.loop-result.invariant
