-- A reading whose variables have numbers is one by numbers, and any other gives nothing.
use Rattle.std.proofs.Common.{◌≡◌, ℕ, Ok, Some, None, Option, List, map, slice_get, ap, sym, subst, refl}
use Rattle.std.specs.Prelude.{IfSome}
use Rattle.world_rules.specs.declared.seat.OwnedSeat.{OwnedSeat}
use Rattle.world_tables.specs.Rows.{IsKept}
use Rattle.context_code.specs.Seats.{owned_spots, IsOneMissing}
use Rattle.abstract_vm.specs.Worlds.{WorldState, items_in, point_in}
use Rattle.abstract_vm.specs.Readings.{IsReadAt, IsReadingOf}
use Rattle.abstract_vm.specs.Steps.{GivesBy}
use Rattle.abstract_vm.proofs.AtPoint.{reading_of, missing_gives}
use Rattle.abstract_vm.proofs.Steps.{step_as, step_none}
use Rattle.abstract_vm.proofs.world.World.fire_reading.Goals as goal

pub returns-in-Some : goal.returns-in-Some
returns-in-Some g c =
    let w : WorldState = c.args.self.now in
    let found : map (slice_get c.self.inside.tables.variables) c.in-Some.vars ≡ map Some (owned_spots c.args.at.now.context c.as_slice.result.now) =
    subst (λ (o : Option (List ℕ)). IfSome o (λ vars. map (slice_get c.self.inside.tables.variables) vars ≡ map Some (owned_spots c.args.at.now.context c.as_slice.result.now))) c.in-Some.is c.in_ok-vars.ensures.found in
    let by_seats : map (slice_get c.self.inside.tables.variables) c.in-Some.vars ≡ map Some (owned_spots c.args.at.now.context c.args.reading.now.seats) =
    subst (λ (ss : List OwnedSeat). map (slice_get c.self.inside.tables.variables) c.in-Some.vars ≡ map Some (owned_spots c.args.at.now.context ss)) c.as_slice.ensures found in
    let by_world : map (slice_get w.rows.variables) c.in-Some.vars ≡ map Some (owned_spots c.args.at.now.context c.args.reading.now.seats) =
    subst (λ (v : WorldState). map (slice_get v.rows.variables) c.in-Some.vars ≡ map Some (owned_spots c.args.at.now.context c.args.reading.now.seats)) c.self.view_is by_seats in
    let numbers : map (slice_get w.rows.variables) c.as_slice-in-Some.result.now ≡ map Some (owned_spots c.args.at.now.context c.args.reading.now.seats) =
    subst (λ (vs : List ℕ). map (slice_get w.rows.variables) vs ≡ map Some (owned_spots c.args.at.now.context c.args.reading.now.seats)) (sym c.as_slice-in-Some.ensures) by_world in
    step_as (λ s. IsReadingOf s w c.args.point c.args.reading.now c.as_slice-in-Some.result.now) (λ s. IsReadAt s w c.args.point c.args.at.now c.args.reading.now) (point_in w c.args.point)
    (λ s. GivesBy s (items_in w) c.args.reading.now (point_in w c.args.point)) (λ s. GivesBy s (items_in w) c.args.reading.now (point_in w c.args.point))
    c.fire_choices.result w c.fire_choices.new.self
    (λ s h a. reading_of s w c.args.point c.args.at.now c.args.reading.now a c.as_slice-in-Some.result.now numbers) (λ s h a i k. k) c.fire_choices.ensures

pub returns-in-None : goal.returns-in-None
returns-in-None g c =
    let w : WorldState = c.args.self.now in
    let missing : IsOneMissing c.self.inside.tables.variables (owned_spots c.args.at.now.context c.as_slice.result.now) = c.in_ok-vars.ensures.missing (ap Ok c.in-None.is) in
    let by_seats : IsOneMissing c.self.inside.tables.variables (owned_spots c.args.at.now.context c.args.reading.now.seats) =
    subst (λ (ss : List OwnedSeat). IsOneMissing c.self.inside.tables.variables (owned_spots c.args.at.now.context ss)) c.as_slice.ensures missing in
    let by_world : IsOneMissing w.rows.variables (owned_spots c.args.at.now.context c.args.reading.now.seats) =
    subst (λ (v : WorldState). IsOneMissing v.rows.variables (owned_spots c.args.at.now.context c.args.reading.now.seats)) c.self.view_is by_seats in
    let kept : IsKept w.rows = subst (λ (v : WorldState). IsKept v.rows) c.self.view_is c.graph-graph.ensures.kept in
    step_none (λ s. IsReadAt s w c.args.point c.args.at.now c.args.reading.now) (point_in w c.args.point) (λ s. GivesBy s (items_in w) c.args.reading.now (point_in w c.args.point)) w w refl
    (λ s h a i k. absurd (missing_gives s w c.args.point c.args.at.now c.args.reading.now a kept h by_world i k))
