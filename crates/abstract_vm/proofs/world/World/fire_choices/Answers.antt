-- All that fires for the reading fires for one of the choices.
use Rattle.std.proofs.Common.{◌≡◌, ◌↔◌, ℕ, List, sym, subst, ◌∙◌}
use Rattle.std.specs.List.{Contains}
use Rattle.typegraph.specs.Graphs.{GraphTables}
use Rattle.graph_queries.specs.Choices.{AreGiven}
use Rattle.abstract_vm.specs.Worlds.{WorldState, items_in, point_in}
use Rattle.abstract_vm.specs.Readings.{IsReadingOf}
use Rattle.abstract_vm.specs.Steps.{GivesBy, GivesFor, IsOneOf, shapes_in}
use Rattle.abstract_vm.proofs.Lifting.{by_choice}
use Rattle.abstract_vm.proofs.Steps.{step_as}
use Rattle.abstract_vm.proofs.world.World.fire_choices.Goals as goal

pub returns : goal.returns
returns g c =
    let w : WorldState = c.args.self.now in
    let of_graph : (ids : List ℕ) → Contains c.in_ok-chosen.chosen ids ↔ AreGiven c.graph.result.now c.args.vars.now ids = c.in_ok-chosen.ensures in
    let of_tables : (ids : List ℕ) → Contains c.in_ok-chosen.chosen ids ↔ AreGiven c.self.inside.tables.graph c.args.vars.now ids =
    subst (λ (t : GraphTables). (ids : List ℕ) → Contains c.in_ok-chosen.chosen ids ↔ AreGiven t c.args.vars.now ids) c.graph.ensures.graph of_graph in
    let of_world : (ids : List ℕ) → Contains c.in_ok-chosen.chosen ids ↔ AreGiven w.rows.graph c.args.vars.now ids =
    subst (λ (v : WorldState). (ids : List ℕ) → Contains c.in_ok-chosen.chosen ids ↔ AreGiven v.rows.graph c.args.vars.now ids) c.self.view_is of_tables in
    let are : (ids : List ℕ) → Contains c.as_slice.result.now ids ↔ AreGiven w.rows.graph c.args.vars.now ids =
    subst (λ (xs : List (List ℕ)). (ids : List ℕ) → Contains xs ids ↔ AreGiven w.rows.graph c.args.vars.now ids) (sym c.as_slice.ensures) of_world in
    step_as (λ s. IsReadingOf s w c.args.point c.args.reading.now c.args.vars.now) (λ s. IsReadingOf s w c.args.point c.args.reading.now c.args.vars.now) (point_in w c.args.point)
    (λ s. IsOneOf (λ ids. GivesFor s (items_in w) c.args.reading.now (shapes_in w ids) (point_in w c.args.point)) c.as_slice.result.now) (λ s. GivesBy s (items_in w) c.args.reading.now (point_in w c.args.point))
    c.fire_each.result w c.fire_each.new.self (λ s h q. q)
    (λ s h q i k. by_choice s w h c.args.point c.args.reading.now c.args.vars.now q i k c.as_slice.result.now are) c.fire_each.ensures
