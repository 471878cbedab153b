-- A new fact is the item that was given, and any other answer leaves the tables.
use Rattle.std.proofs.Common.{◌≡◌, true, false, Ok, ap, sym, subst, ◌∙◌, refl}
use Rattle.std.specs.Prelude.{OnErr, Err}
use Rattle.graph_walks.specs.Growth.{IsWithin}
use Rattle.typegraph.specs.Graphs.{IsWithFact, GraphTables}
use Rattle.goal_solver.specs.Graphs.{world_of}
use Rattle.goal_solver.specs.Memos.{IsSound, SolverState, grown}
use Rattle.world_rules.specs.Rules.{GivesAt}
use Rattle.world_tables.specs.Rows.{WorldRows}
use Rattle.abstract_vm.specs.Worlds.{WorldState, items_in, point_in}
use Rattle.abstract_vm.specs.Steps.{fact_in, IsStep}
use Rattle.abstract_vm.proofs.FactStep.{added_now, known_now, fact_entries}
use Rattle.abstract_vm.proofs.Steps.{step_refused}
use Rattle.abstract_vm.proofs.world.World.add_fact.Goals as goal

pub invariant_of-self : goal.invariant_of-self
invariant_of-self c =
    let is : c.add_fact.result ≡ Ok true = c.in-Ok-true.is ∙ ap Ok c.in-Ok-true.field-0-test in
    let w : IsWithFact c.self.inside.tables.graph c.args.point c.args.shape c.items.result.now c.add_fact.new.self.graph = (c.add_fact.ensures.fresh is).1 in
    let within : IsWithin (world_of c.self.inside.tables.graph) (world_of c.add_fact.new.self.graph) =
    subst (λ (g : GraphTables). IsWithin (world_of c.self.inside.tables.graph) (world_of g)) (sym w.is) (c.additions_grow.ensures.fact c.self.inside.tables.graph c.args.point (record { shape = c.args.shape; source = w.map })) in
    let sound : IsSound (grown c.self.inside.solver) c.add_fact.new.self.graph = c.sound_after_growth.ensures c.self.inside.solver c.self.inside.tables.graph c.add_fact.new.self.graph within c.self.invariant.0 in (
      subst (λ (s : SolverState). IsSound s c.add_fact.new.self.graph) (sym c.grown.ensures) sound,
      fact_entries c.self.inside.tables c.add_fact.new.self c.args.point c.args.shape c.items.result.now w (c.add_fact.ensures.fresh is).2 c.self.invariant.1,
    )

pub returns-in-Ok-true : goal.returns-in-Ok-true
returns-in-Ok-true c =
    let is : c.add_fact.result ≡ Ok true = c.in-Ok-true.is ∙ ap Ok c.in-Ok-true.field-0-test in
    let old : WorldState = record { rows = c.self.inside.tables; solver = c.self.inside.solver; library = c.self.inside.library } in
    let new : WorldState = record { rows = c.add_fact.new.self; solver = c.grown.new.self; library = c.self.inside.library } in
    added_now old c.args.self.now c.self.view_is c.args.point c.args.shape c.items.result.now c.args.goals.now c.items.ensures.items new c.requires.point c.requires.goals
    (c.add_fact.ensures.fresh is).1 (c.add_fact.ensures.fresh is).2 (ap (λ (s : SolverState). s.budget) c.grown.ensures) refl c.add_fact.ensures.keeps

pub returns-in-Ok-false : goal.returns-in-Ok-false
returns-in-Ok-false c =
    let is : c.add_fact.result ≡ Ok false = c.in-Ok-false.is ∙ ap Ok c.in-Ok-false.field-0-test in
    let old : WorldState = record { rows = c.self.inside.tables; solver = c.self.inside.solver; library = c.self.inside.library } in
    let new : WorldState = record { rows = c.add_fact.new.self; solver = c.self.inside.solver; library = c.self.inside.library } in
    known_now old c.args.self.now c.self.view_is c.args.point c.args.shape c.items.result.now c.args.goals.now c.items.ensures.items new c.requires.goals
    (ap (λ (r : WorldRows). record { rows = r; solver = c.self.inside.solver; library = c.self.inside.library }) (c.add_fact.ensures.known is).1) (c.add_fact.ensures.known is).0

pub returns-in-Err : goal.returns-in-Err
returns-in-Err c =
    let new : WorldState = record { rows = c.add_fact.new.self; solver = c.self.inside.solver; library = c.self.inside.library } in
    let stays : c.add_fact.new.self ≡ c.self.inside.tables = subst (λ r. OnErr r (c.add_fact.new.self ≡ c.self.inside.tables)) c.in-Err.is c.add_fact.ensures.refused in
    step_refused (λ s. GivesAt s (items_in c.args.self.now) (point_in c.args.self.now c.args.point) (fact_in c.args.self.now c.args.point c.args.shape c.args.goals.now)) (point_in c.args.self.now c.args.point)
    (λ s i. i ≡ fact_in c.args.self.now c.args.point c.args.shape c.args.goals.now) c.args.self.now new (record {})
    (ap (λ (r : WorldRows). record { rows = r; solver = c.self.inside.solver; library = c.self.inside.library }) stays ∙ c.self.view_is)
