-- Each entry adds its own.
use Rattle.std.proofs.Common.{◌≡◌, ◌<◌, ◌≤◌, Ok, Err, List, get_or, length, ap, subst, ◌∙◌}
use Rattle.world_rules.specs.declared.row.TableEntry.{TableEntry}
use Rattle.world_rules.specs.Places.{main, at as at_place}
use Rattle.abstract_vm.specs.Steps.{IsGivenEntry}
use Rattle.abstract_vm.proofs.Loops.{enters_more}
use Rattle.abstract_vm.proofs.Stay.{choice_there}
use Rattle.abstract_vm.proofs.Steps.{step_error, step_whole}
use Rattle.abstract_vm.proofs.world.World.enter_row.Goals as goal

pub enter-requires : goal.enter-requires
enter-requires c = choice_there c.args.self.now c.loop-entry.self (c.loop-entry.invariant (at_place main 0 0)).stay c.args.choice.now c.requires

pub returns-in_err-more : goal.returns-in_err-more
returns-in_err-more c =
    let below : c.loop-entry.entry-index < length c.args.row.now.entries = subst (λ (ys : List TableEntry). c.loop-entry.entry-index < length ys) c.as_slice-entry-items.ensures c.loop-entry-test.true in
    let at : c.entry-item.result ≡ get_or c.args.row.now.entries c.loop-entry.entry-index c.entry-item.result = c.entry-item.is ∙ ap (λ (ys : List TableEntry). get_or ys c.loop-entry.entry-index c.entry-item.result) c.as_slice-entry-items.ensures in
    λ p. step_error c.from_residual.result c.from_residual.ensures.0
    (enters_more c.args.self.now c.loop-entry.self c.enter.new.self c.args.choice.now c.requires c.args.row.now c.loop-entry.grown (Err c.in_err-more.field-0.0) p
    c.loop-entry.entry-index c.entry-item.result below at (c.loop-entry.invariant p) (c.in_err-more.ensures p))

pub loop-entry-preserved : goal.loop-entry-preserved
loop-entry-preserved c =
    let below : c.loop-entry.entry-index < length c.args.row.now.entries = subst (λ (ys : List TableEntry). c.loop-entry.entry-index < length ys) c.as_slice-entry-items.ensures c.loop-entry-test.true in
    let at : c.entry-item.result ≡ get_or c.args.row.now.entries c.loop-entry.entry-index c.entry-item.result = c.entry-item.is ∙ ap (λ (ys : List TableEntry). get_or ys c.loop-entry.entry-index c.entry-item.result) c.as_slice-entry-items.ensures in
    λ p. enters_more c.args.self.now c.loop-entry.self c.enter.new.self c.args.choice.now c.requires c.args.row.now c.loop-entry.grown (Ok c.in_ok-more.more) p
    c.loop-entry.entry-index c.entry-item.result below at (c.loop-entry.invariant p) (c.in_ok-more.ensures p)

pub returns : goal.returns
returns c =
    let up : c.loop-entry.entry-index ≤ length c.args.row.now.entries = subst (λ (ys : List TableEntry). c.loop-entry.entry-index ≤ length ys) c.as_slice-entry-items.ensures c.loop-entry.auto.entry-index-end in
    let down : length c.args.row.now.entries ≤ c.loop-entry.entry-index = subst (λ (ys : List TableEntry). length ys ≤ c.loop-entry.entry-index) c.as_slice-entry-items.ensures c.loop-entry-test.false in
    λ p. step_whole (λ s. IsGivenEntry s c.args.self.now c.args.choice.now) c.args.row.now.entries c.loop-entry.entry-index up down (c.loop-entry.invariant p)
