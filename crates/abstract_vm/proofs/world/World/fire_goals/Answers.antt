-- What is seen fires, and what isn't seen gives nothing.
use Rattle.std.proofs.Common.{◌≡◌, true, false, Ok, Err, ap, sym, subst, ◌∙◌}
use Rattle.std.specs.Prelude.{IsTrue, OnErr}
use Rattle.std.specs.declared.alloc.AllocError.{AllocError}
use Rattle.graph_walks.specs.Backs.{Seen}
use Rattle.typegraph.specs.Graphs.{GraphTables}
use Rattle.typegraph.specs.Maps.{look}
use Rattle.goal_solver.specs.Graphs as numbers
use Rattle.goal_solver.specs.Memos.{SolverState}
use Rattle.abstract_vm.specs.Worlds.{WorldState, items_in, point_in}
use Rattle.abstract_vm.specs.Readings.{IsQueryOf, IsSeenQuery}
use Rattle.abstract_vm.specs.Steps.{GivesFor, IsStep, shapes_in}
use Rattle.abstract_vm.proofs.Lifting.{seen_step, unseen_step}
use Rattle.abstract_vm.proofs.Steps.{step_error, step_refused}
use Rattle.abstract_vm.proofs.world.World.fire_goals.Goals as goal

pub returns-in_err-is_seen : goal.returns-in_err-is_seen
returns-in_err-is_seen g c =
    let w : WorldState = c.args.self.now in
    let stays : c.is_seen.new.solver ≡ c.self.inside.solver = c.in_err-is_seen.ensures.refused in
    step_error {E = AllocError} c.from_residual.result c.from_residual.ensures.0
    (step_refused (λ s. IsQueryOf s w c.args.point c.args.reading.now c.args.choice.now c.args.goals.now) (point_in w c.args.point) (λ s. GivesFor s (items_in w) c.args.reading.now (shapes_in w c.args.choice.now) (point_in w c.args.point))
    w (record { rows = c.self.inside.tables; solver = c.is_seen.new.solver; library = c.self.inside.library }) (record {})
    (ap (λ (s : SolverState). record { rows = c.self.inside.tables; solver = s; library = c.self.inside.library }) stays ∙ c.self.view_is))

pub returns-then-branch : goal.returns-then-branch
returns-then-branch g c =
    let seen : Seen (numbers.world_of c.graph.result.now) c.args.point (look c.args.goals.now) c.self.inside.solver.budget = c.in_ok-is_seen.ensures.seen.0 c.if-branch.true in
    let here : Seen (numbers.world_of c.self.inside.tables.graph) c.args.point (look c.args.goals.now) c.self.inside.solver.budget =
    subst (λ (t : GraphTables). Seen (numbers.world_of t) c.args.point (look c.args.goals.now) c.self.inside.solver.budget) c.graph.ensures.graph seen in
    subst (λ (w : WorldState). IsStep {E = AllocError} (λ s. IsQueryOf s w c.args.point c.args.reading.now c.args.choice.now c.args.goals.now) (point_in w c.args.point)
    (λ s. GivesFor s (items_in w) c.args.reading.now (shapes_in w c.args.choice.now) (point_in w c.args.point)) c.fire_seen.result w c.fire_seen.new.self) c.self.view_is
    (seen_step (record { rows = c.self.inside.tables; solver = c.self.inside.solver; library = c.self.inside.library }) c.is_seen.new.solver c.in_ok-is_seen.ensures.budget
    c.args.point c.args.reading.now c.args.choice.now c.args.goals.now here c.fire_seen.result c.fire_seen.new.self c.fire_seen.ensures)

pub returns-else-branch : goal.returns-else-branch
returns-else-branch g c =
    subst (λ (w : WorldState). IsStep {E = AllocError} (λ s. IsQueryOf s w c.args.point c.args.reading.now c.args.choice.now c.args.goals.now) (point_in w c.args.point)
    (λ s. GivesFor s (items_in w) c.args.reading.now (shapes_in w c.args.choice.now) (point_in w c.args.point)) (Ok false) w
    (record { rows = c.self.inside.tables; solver = c.is_seen.new.solver; library = c.self.inside.library })) c.self.view_is
    (unseen_step (record { rows = c.self.inside.tables; solver = c.self.inside.solver; library = c.self.inside.library }) c.is_seen.new.solver c.in_ok-is_seen.ensures.budget
    c.args.point c.args.reading.now c.args.choice.now c.args.goals.now
    (λ seen. unseen (c.in_ok-is_seen.ensures.seen.1 (subst (λ (t : GraphTables). Seen (numbers.world_of t) c.args.point (look c.args.goals.now) c.self.inside.solver.budget) (sym c.graph.ensures.graph) seen))))
  where
    unseen : IsTrue c.in_ok-is_seen.field-0 → ⊥
    unseen h = let e : true ≡ false = sym h ∙ c.if-branch.false in cc
