use Rattle.std.proofs.Common.{◌≡◌, ◌∙◌, Ok, length, take, arith, refl, sym, ap, subst, slice_get}
use Rattle.std.specs.List.{Contains}
use Rattle.std.proofs.Math.Seq.{take-length}
use Rattle.graph_walks.proofs.Lists.{empty}
use Rattle.flow_graph.specs.Flows.{into_of}
use Rattle.flow_graph.specs.Validity.{IsValid}
use Rattle.goal_solver.specs.Backs.{FromSome, IsOverEdge}
use Rattle.goal_solver.specs.Searches.{IsExtended, AreKnown}
use Rattle.goal_solver.proofs.Tables.{edge_world}
use Rattle.goal_solver.proofs.Over.{backs_sound, backs_known}
use Rattle.goal_solver.proofs.Meetings.{extended_same, extended_as, extended_on, known_on, some_more}
use Rattle.goal_solver.proofs.back.meet_backs.Goals as goal

pub loop-edge-init : goal.loop-edge-init
loop-edge-init g c = record { steps = refl; extended = extended_same _ _ _; met = λ y f. empty f.item f.is; even = c.requires }

pub meet_over_edge-requires-clause-edge : goal.meet_over_edge-requires-clause-edge
meet_over_edge-requires-clause-edge g c =
    let edges : c.into-edge-items.result.now ≡ into_of (slice_get c.args.graph.now.flow.points c.args.state.now.point) = c.into-edge-items.ensures.edges ∙ ap (λ f. into_of (slice_get f.points c.args.state.now.point)) c.flow.ensures.flow in
    edge_world c.args.graph.now c.args.state.now.point c.edge-item.result (subst (λ es. Contains es c.edge-item.result) edges (c.loop-edge.edge-index, omega arith, sym c.edge-item.is))

pub loop-edge-preserved : goal.loop-edge-preserved
loop-edge-preserved g c =
    let ext : IsExtended c.args.light.now (FromSome c.into-edge-items.result.now (IsOverEdge c.args.graph.now c.args.state.now.goals)) c.loop-edge.search c.meet_over_edge.new.search =
    extended_as c.args.light.now (IsOverEdge c.args.graph.now c.args.state.now.goals c.edge-item.result) (FromSome c.into-edge-items.result.now (IsOverEdge c.args.graph.now c.args.state.now.goals)) c.loop-edge.search c.meet_over_edge.new.search
    (λ y b. record { item = c.edge-item.result; is = (c.loop-edge.edge-index, omega arith, sym c.edge-item.is); at = b })
    c.in_ok-meet_over_edge.ensures.extended in
    record {
      steps = refl;
      extended = extended_on _ _ _ _ _ c.loop-edge.invariant.extended ext;
      met = some_more c.args.light.now (IsOverEdge c.args.graph.now c.args.state.now.goals) c.into-edge-items.result.now c.loop-edge.edge-index c.edge-item.result c.loop-edge.search c.meet_over_edge.new.search (omega arith) (sym c.edge-item.is) c.loop-edge.invariant.met
          (λ z k. known_on _ _ _ _ ext z k) (c.in_ok-meet_over_edge.ensures.met (ap (λ b. Ok b) c.if-not-branch.false));
      even = ext.even c.loop-edge.invariant.even;
    }

pub returns-then-not-branch-clause-extended : goal.returns-then-not-branch-clause-extended
returns-then-not-branch-clause-extended g c =
    let edges : c.into-edge-items.result.now ≡ into_of (slice_get c.args.graph.now.flow.points c.args.state.now.point) = c.into-edge-items.ensures.edges ∙ ap (λ f. into_of (slice_get f.points c.args.state.now.point)) c.flow.ensures.flow in
    let ext : IsExtended c.args.light.now (FromSome c.into-edge-items.result.now (IsOverEdge c.args.graph.now c.args.state.now.goals)) c.loop-edge.search c.meet_over_edge.new.search =
    extended_as c.args.light.now (IsOverEdge c.args.graph.now c.args.state.now.goals c.edge-item.result) (FromSome c.into-edge-items.result.now (IsOverEdge c.args.graph.now c.args.state.now.goals)) c.loop-edge.search c.meet_over_edge.new.search
    (λ y b. record { item = c.edge-item.result; is = (c.loop-edge.edge-index, omega arith, sym c.edge-item.is); at = b })
    c.in_ok-meet_over_edge.ensures.extended in
    extended_as _ _ _ _ _ (λ y f. backs_sound c.args.graph.now c.flow.ensures.valid (subst (λ f. IsValid f) c.flow.ensures.flow c.into-edge-items.ensures.valid) c.args.state.now y (subst (λ es. FromSome es (IsOverEdge c.args.graph.now c.args.state.now.goals) y) edges f)) (extended_on _ _ _ _ _ c.loop-edge.invariant.extended ext)

pub returns-clause-extended : goal.returns-clause-extended
returns-clause-extended g c =
    let edges : c.into-edge-items.result.now ≡ into_of (slice_get c.args.graph.now.flow.points c.args.state.now.point) = c.into-edge-items.ensures.edges ∙ ap (λ f. into_of (slice_get f.points c.args.state.now.point)) c.flow.ensures.flow in
    extended_as _ _ _ _ _ (λ y f. backs_sound c.args.graph.now c.flow.ensures.valid (subst (λ f. IsValid f) c.flow.ensures.flow c.into-edge-items.ensures.valid) c.args.state.now y (subst (λ es. FromSome es (IsOverEdge c.args.graph.now c.args.state.now.goals) y) edges f)) c.loop-edge.invariant.extended

pub returns-clause-met : goal.returns-clause-met
returns-clause-met g c = λ r.
    let edges : c.into-edge-items.result.now ≡ into_of (slice_get c.args.graph.now.flow.points c.args.state.now.point) = c.into-edge-items.ensures.edges ∙ ap (λ f. into_of (slice_get f.points c.args.state.now.point)) c.flow.ensures.flow in
    let last : c.loop-edge.edge-index ≡ length c.into-edge-items.result.now = omega arith in
    backs_known c.args.graph.now c.flow.ensures.valid (subst (λ f. IsValid f) c.flow.ensures.flow c.into-edge-items.ensures.valid) c.args.state.now c.items-goals.ensures.once c.loop-edge.search
    (subst (λ es. AreKnown (FromSome es (IsOverEdge c.args.graph.now c.args.state.now.goals)) c.loop-edge.search) (ap (λ n. take n c.into-edge-items.result.now) last ∙ take-length c.into-edge-items.result.now ∙ edges) c.loop-edge.invariant.met)
