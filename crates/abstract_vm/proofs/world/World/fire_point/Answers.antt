-- The readings of the instruction at the point are those of the source, and one that writes nothing has none.
use Rattle.std.proofs.Common.{◌≡◌, false, Some, None, Option, is_some, List, slice_get, ap, sym, subst, refl, ◌∙◌}
use Rattle.std.specs.List.{Contains}
use Rattle.flow_graph.specs.Flows.{target_of}
use Rattle.world_rules.specs.declared.transfer.SeatReading.{SeatReading}
use Rattle.world_rules.specs.Rules.{GivesAt}
use Rattle.world_tables.specs.declared.spot.PointSpot.{PointSpot}
use Rattle.world_tables.specs.Rows.{contexts_of}
use Rattle.context_code.specs.Readings.{readings_of}
use Rattle.abstract_vm.specs.Worlds.{WorldState, items_in, point_in}
use Rattle.abstract_vm.specs.Readings.{IsReadAt, IsSourceIn}
use Rattle.abstract_vm.specs.Steps.{GivesBy, IsOneOf}
use Rattle.abstract_vm.proofs.AtPoint.{reads, by_one, nothing_written}
use Rattle.abstract_vm.proofs.Steps.{step_as, step_none}
use Rattle.abstract_vm.proofs.world.World.fire_point.Goals as goal

none_of : {X : Type 0} (o : Option X) → is_some o ≡ false → o ≡ None
none_of None e = refl
none_of (Some x) e = cc

pub returns-then-is_none : goal.returns-then-is_none
returns-then-is_none g c =
    let w : WorldState = c.args.self.now in
    let is : slice_get w.rows.points c.args.point ≡ Some c.in-Some.at = subst (λ (v : WorldState). slice_get v.rows.points c.args.point ≡ Some c.in-Some.at) c.self.view_is (sym c.point_spot.ensures ∙ c.in-Some.is) in
    let told : c.target.result ≡ target_of (slice_get c.self.inside.tables.graph.flow.points c.args.point) =
    c.target.ensures.told ∙ (ap (λ f. target_of (slice_get f.points c.args.point)) c.flow.ensures.flow ∙ ap (λ t. target_of (slice_get t.flow.points c.args.point)) c.graph.ensures.graph) in
    let none : target_of (slice_get w.rows.graph.flow.points c.args.point) ≡ None =
    subst (λ (v : WorldState). target_of (slice_get v.rows.graph.flow.points c.args.point) ≡ None) c.self.view_is (sym told ∙ none_of c.target.result c.if-is_none.ensures) in
    step_none (λ s. IsSourceIn s c.args.program.now w) (point_in w c.args.point) (λ s. GivesAt s (items_in w) (point_in w c.args.point)) w w refl
    (λ s h source i k. absurd (nothing_written s w h c.args.program.now source c.args.point c.in-Some.at is none i k))

pub returns : goal.returns
returns g c =
    let w : WorldState = c.args.self.now in
    let is : slice_get w.rows.points c.args.point ≡ Some c.in-Some.at = subst (λ (v : WorldState). slice_get v.rows.points c.args.point ≡ Some c.in-Some.at) c.self.view_is (sym c.point_spot.ensures ∙ c.in-Some.is) in
    let of_world : c.in_ok-readings.readings ≡ readings_of c.args.program.now (contexts_of w.rows) c.in-Some.at =
    subst (λ (v : WorldState). c.in_ok-readings.readings ≡ readings_of c.args.program.now (contexts_of v.rows) c.in-Some.at) c.self.view_is c.in_ok-readings.ensures in
    let are : c.as_slice.result.now ≡ readings_of c.args.program.now (contexts_of w.rows) c.in-Some.at = c.as_slice.ensures ∙ of_world in
    step_as (λ s. (r : SeatReading) → Contains c.as_slice.result.now r → IsReadAt s w c.args.point c.in-Some.at r) (λ s. IsSourceIn s c.args.program.now w) (point_in w c.args.point)
    (λ s. IsOneOf (λ r. GivesBy s (items_in w) r (point_in w c.args.point)) c.as_slice.result.now) (λ s. GivesAt s (items_in w) (point_in w c.args.point))
    c.fire_readings.result w c.fire_readings.new.self
    (λ s h source r k. reads s w h c.args.program.now source c.args.point c.in-Some.at is r (subst (λ (rs : List SeatReading). Contains rs r) are k))
    (λ s h source i k. subst (λ (rs : List SeatReading). IsOneOf (λ r. GivesBy s (items_in w) r (point_in w c.args.point)) rs i) (sym are) (by_one s w h c.args.program.now source c.args.point c.in-Some.at is i k))
    c.fire_readings.ensures
