-- A choice that is a map is a query, and one that is none gives nothing.
use Rattle.std.proofs.Common.{◌≡◌, ◌<◌, ◌∙◌, Some, None, Option, List, [], length, ap, sym, subst, refl}
use Rattle.std.specs.List.{All}
use Rattle.std.specs.Prelude.{IfSome}
use Rattle.flow_graph.specs.Flows.{FlowTables}
use Rattle.flow_graph.specs.Validity as flow_validity
use Rattle.typegraph.specs.declared.goals.Binding.{Binding}
use Rattle.typegraph.specs.Graphs.{GraphTables}
use Rattle.typegraph.specs.Maps.{IsJoined, IsRising}
use Rattle.typegraph.specs.Validity.{IsBindingThere, IsValid}
use Rattle.graph_queries.specs.Choices.{AreGiven, bindings}
use Rattle.abstract_vm.specs.Worlds.{WorldState, items_in, point_in}
use Rattle.abstract_vm.specs.Readings.{IsReadingOf, IsQueryOf}
use Rattle.abstract_vm.specs.Steps.{GivesFor, shapes_in}
use Rattle.abstract_vm.proofs.Known.{given_there, goals_known}
use Rattle.abstract_vm.proofs.Lifting.{no_map_gives}
use Rattle.abstract_vm.proofs.Steps.{step_as, step_none}
use Rattle.abstract_vm.proofs.world.World.fire_choice.Goals as goal

pub fire_goals-requires-clause-choice : goal.fire_goals-requires-clause-choice
fire_goals-requires-clause-choice g c =
    let valid : IsValid c.self.inside.tables.graph = subst (λ (t : GraphTables). IsValid t) c.graph.ensures.graph c.flow.ensures.valid in
    let flow_valid : flow_validity.IsValid c.self.inside.tables.graph.flow = subst (λ (f : FlowTables). flow_validity.IsValid f) (c.flow.ensures.flow ∙ ap (λ (t : GraphTables). t.flow) c.graph.ensures.graph) c.target-target.ensures.valid in
    let given : AreGiven c.self.inside.tables.graph c.args.vars.now c.args.choice.now = subst (λ (w : WorldState). AreGiven w.rows.graph c.args.vars.now c.args.choice.now) (sym c.self.view_is) c.requires.given in
    subst (λ (w : WorldState). All (λ id. id < length w.rows.graph.truths) c.args.choice.now) c.self.view_is (given_there c.self.inside.tables.graph flow_valid valid c.args.vars.now c.args.choice.now given)

pub fire_goals-requires-clause-goals : goal.fire_goals-requires-clause-goals
fire_goals-requires-clause-goals g c =
    let valid : IsValid c.self.inside.tables.graph = subst (λ (t : GraphTables). IsValid t) c.graph.ensures.graph c.flow.ensures.valid in
    let flow_valid : flow_validity.IsValid c.self.inside.tables.graph.flow = subst (λ (f : FlowTables). flow_validity.IsValid f) (c.flow.ensures.flow ∙ ap (λ (t : GraphTables). t.flow) c.graph.ensures.graph) c.target-target.ensures.valid in
    let given : AreGiven c.self.inside.tables.graph c.args.vars.now c.args.choice.now = subst (λ (w : WorldState). AreGiven w.rows.graph c.args.vars.now c.args.choice.now) (sym c.self.view_is) c.requires.given in
    let joined : IsJoined [] (bindings c.args.vars.now c.args.choice.now) (Some c.in-Some.goals) = subst (λ (o : Option (List Binding)). IsJoined [] (bindings c.args.vars.now c.args.choice.now) o) c.in-Some.is c.in_ok-goals.ensures.joined in
    let rising : IsRising c.in-Some.goals = subst (λ (o : Option (List Binding)). IfSome o IsRising) c.in-Some.is c.in_ok-goals.ensures.rising in
    subst (λ (w : WorldState). All (IsBindingThere w.rows.graph.flow.vars (length w.rows.graph.truths)) c.in-Some.goals) c.self.view_is
    (goals_known c.self.inside.tables.graph flow_valid valid c.args.vars.now c.args.choice.now c.in-Some.goals given rising joined)

pub returns-in-Some : goal.returns-in-Some
returns-in-Some g c =
    let w : WorldState = c.args.self.now in
    let joined : IsJoined [] (bindings c.args.vars.now c.args.choice.now) (Some c.in-Some.goals) = subst (λ (o : Option (List Binding)). IsJoined [] (bindings c.args.vars.now c.args.choice.now) o) c.in-Some.is c.in_ok-goals.ensures.joined in
    let rising : IsRising c.in-Some.goals = subst (λ (o : Option (List Binding)). IfSome o IsRising) c.in-Some.is c.in_ok-goals.ensures.rising in
    step_as (λ s. IsQueryOf s w c.args.point c.args.reading.now c.args.choice.now c.in-Some.goals) (λ s. IsReadingOf s w c.args.point c.args.reading.now c.args.vars.now) (point_in w c.args.point)
    (λ s. GivesFor s (items_in w) c.args.reading.now (shapes_in w c.args.choice.now) (point_in w c.args.point)) (λ s. GivesFor s (items_in w) c.args.reading.now (shapes_in w c.args.choice.now) (point_in w c.args.point))
    c.fire_goals.result w c.fire_goals.new.self
    (λ s h q. record { vars = c.args.vars.now; reading = q; is_choice = record { given = c.requires.given; joined = joined; rising = rising } })
    (λ s h q i k. k) c.fire_goals.ensures

pub returns-in-None : goal.returns-in-None
returns-in-None g c =
    let w : WorldState = c.args.self.now in
    let none : IsJoined [] (bindings c.args.vars.now c.args.choice.now) None = subst (λ (o : Option (List Binding)). IsJoined [] (bindings c.args.vars.now c.args.choice.now) o) c.in-None.is c.in_ok-goals.ensures.joined in
    step_none (λ s. IsReadingOf s w c.args.point c.args.reading.now c.args.vars.now) (point_in w c.args.point) (λ s. GivesFor s (items_in w) c.args.reading.now (shapes_in w c.args.choice.now) (point_in w c.args.point)) w w refl
    (λ s h q i k. absurd (no_map_gives s w h c.args.point c.args.reading.now c.args.vars.now q c.args.choice.now c.requires.given none i k))
