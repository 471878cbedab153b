-- A choice that is seen fires, and its row is what is added.
use Rattle.std.proofs.Common.{◌≡◌, ◌⊎◌, subst}
use Rattle.world_rules.specs.Rows.{row_of}
use Rattle.abstract_vm.specs.Worlds.{WorldState, items_in, point_in}
use Rattle.abstract_vm.specs.Readings.{IsSeenQuery}
use Rattle.abstract_vm.specs.Steps.{GivesFor, IsFiringUnder, IsGivenEntry, IsGivenFact, IsOneOf, shapes_in}
use Rattle.abstract_vm.proofs.Lifting.{seen_under, seen_wanted}
use Rattle.abstract_vm.proofs.Steps.{step_as}
use Rattle.abstract_vm.proofs.world.World.fire_seen.Goals as goal

pub returns : goal.returns
returns c =
    let w : WorldState = c.args.self.now in
    let row_is : c.in_ok-row.row ≡ row_of c.args.reading.now.transfer (shapes_in w c.args.choice.now) =
    subst (λ (v : WorldState). c.in_ok-row.row ≡ row_of c.args.reading.now.transfer (shapes_in v c.args.choice.now)) c.self.view_is c.in_ok-row.ensures in
    step_as (λ s. IsFiringUnder s w (point_in w c.args.point) c.args.choice.now c.args.goals.now c.in_ok-row.row) (λ s. IsSeenQuery s w c.args.point c.args.reading.now c.args.choice.now c.args.goals.now) (point_in w c.args.point)
    (λ s i. IsOneOf (IsGivenFact s w c.args.point c.args.choice.now c.args.goals.now) c.in_ok-row.row.results i ⊎ IsOneOf (IsGivenEntry s w c.args.choice.now) c.in_ok-row.row.entries i)
    (λ s. GivesFor s (items_in w) c.args.reading.now (shapes_in w c.args.choice.now) (point_in w c.args.point))
    c.add_row.result w c.add_row.new.self
    (λ s h g. seen_under s w h c.args.point c.args.reading.now c.args.choice.now c.args.goals.now c.in_ok-row.row row_is g)
    (λ s h g i k. seen_wanted s w h c.args.point c.args.reading.now c.args.choice.now c.args.goals.now c.in_ok-row.row row_is g i k)
    c.add_row.ensures
