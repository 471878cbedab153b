-- What adding one edge leaves, and the edges of one instruction.
use Rattle.std.proofs.Common.{◌≡◌, ℕ, suc, zero, ◌+◌, ◌<◌, Bool, true, false, Result, Ok, Err, Option, Some, None, List, [], ◌∷◌, length, slice_get, option_map, refl, sym, ap, subst, ◌∙◌, arith}
use Rattle.std.specs.Option.{option_and_then}
use Rattle.std.specs.List.{Contains}
use Rattle.std.specs.Result.{OnOk, OnErr}
use Rattle.graph_walks.specs.Worlds as worlds
use Rattle.flow_graph.specs.declared.edge.Edge.{Edge}
use Rattle.flow_graph.specs.declared.edge.Test.{Test}
use Rattle.flow_graph.specs.Flows.{with_edge, HasEdge}
use Rattle.typegraph.specs.Graphs.{with_flow}
use Rattle.stack_code.specs.declared.code.Code.{Code}
use Rattle.stack_code.specs.declared.op.Op.{Op}
use Rattle.stack_code.specs.Depths.{HasDepth}
use Rattle.stack_code.specs.Effects.{falls, goal_of, depth_at_goal}
use Rattle.stack_code.specs.Validity.{IsValid}
use Rattle.abstract_shapes.specs.Shapes.{Shape}
use Rattle.world_rules.specs.Places.{Context, Variable, Point, at, code_of}
use Rattle.world_rules.specs.Sources.{Source}
use Rattle.world_rules.specs.Branches.{Branch, branch, fall_test, is_call}
use Rattle.world_rules.specs.Items.{an_edge}
use Rattle.world_rules.specs.Rules as rules
use Rattle.world_rules.specs.Rules.{IsContained, IsPoint, Stands, Leads, on, off, fall_edge, jump_edge}
use Rattle.world_rules.proofs.Counted.{goals_are, goal_is}
use Rattle.world_rules.proofs.Extending.{some_same}
use Rattle.world_tables.specs.declared.spot.PointSpot.{PointSpot}
use Rattle.world_tables.specs.Tables.{the_point, test_at, edge_at, items_of, AreTables}
use Rattle.world_tables.specs.Rows.{WorldRows, contexts_of, the_context, tables_of, with_graph, IsKept}
use Rattle.world_tables.proofs.Answered.{by_answer}
use Rattle.world_tables.proofs.Items.{has_known}
use Rattle.context_graph.specs.Edges.{edge_from}
use Rattle.context_graph.specs.Growth.{IsGrown, IsEdgeOf, edge_of, IsWithEdges, IsPart}
use Rattle.context_graph.specs.Places.{IsSpotAt, IsOpOf, IsPointAt, HavePoints, HasFall, HasJump, HasEdges}
use Rattle.context_graph.proofs.EdgeSteps.{spot_of_point, edges_added, edge_added, edge_known, depth_within, fall_point, jump_point, fall_is, jump_is}
use Rattle.context_graph.proofs.Parts.{edges_same, part_on, point_stays}
use Rattle.context_graph.proofs.VariableSteps.{context_known}

pub on_ok : {T E P Q : Type 0} (r : Result T E) → (P → Q) → OnOk r P → OnOk r Q
on_ok (Ok x) f p = f p
on_ok (Err e) f p = tt

-- ---- one edge

-- the edge is there after an answer
pub edge_there : {A E : Type 0} (r : Result Bool E) (added : Bool) (rows new : WorldRows) (edge : Edge) → r ≡ Ok added → edge.to < length rows.graph.flow.points →
    (r ≡ Ok true → A × (new ≡ with_graph (with_flow (with_edge edge rows.graph.flow) rows.graph) rows)) → (r ≡ Ok false → HasEdge rows.graph.flow edge × (new ≡ rows)) →
    Contains (items_of (tables_of new)) (an_edge (edge_at (tables_of rows) edge))
edge_there r true rows new edge e l fresh known =
    subst (λ w. Contains (items_of (tables_of w)) (an_edge (edge_at (tables_of rows) edge))) (sym (fresh e).1) (edge_added (tables_of rows) edge l)
edge_there r false rows new edge e l fresh known =
    subst (λ w. Contains (items_of (tables_of w)) (an_edge (edge_at (tables_of rows) edge))) (sym (known e).1) (edge_known (tables_of rows) edge (known e).0)

-- the rules give the edge
pub edge_gives : (s : Source) (old rows : WorldRows) (spot : PointSpot) (o : Op) (to : ℕ) (assigns : Bool) (test : Option Test) (edge : Edge) → IsGrown old rows → spot.context < length old.graph.flow.contexts →
    edge_at (tables_of rows) edge ≡ edge_from old spot to assigns test →
    Stands s (the_context (contexts_of old) spot.context) spot.place spot.depth o → Leads (the_context (contexts_of old) spot.context) spot.place spot.depth o (edge_from old spot to assigns test) →
    IsPoint s (the_point (tables_of old) to) → rules.Gives s (items_of (tables_of rows)) (an_edge (edge_at (tables_of rows) edge))
edge_gives s old rows spot o to assigns test edge grown h is stands leads point =
    let known : Contains (contexts_of rows) (the_context (contexts_of old) spot.context) = subst (λ cs. Contains cs (the_context (contexts_of old) spot.context)) (sym grown.contexts) (context_known old spot.context h) in
    subst (λ e. rules.Gives s (items_of (tables_of rows)) (an_edge e)) (sym is) (rules.leads (has_known (tables_of rows) (the_context (contexts_of old) spot.context) known) stands leads point)

-- a part that adds the edge or finds it there
pub edge_part : {A E : Type 0} (s : Source) (old rows new : WorldRows) (spot : PointSpot) (o : Op) (to : ℕ) (assigns : Bool) (test : Option Test) (edge : Edge) (r : Result Bool E) → IsGrown old rows → IsPart s spot.context old rows →
    edge_at (tables_of rows) edge ≡ edge_from old spot to assigns test →
    Stands s (the_context (contexts_of old) spot.context) spot.place spot.depth o → Leads (the_context (contexts_of old) spot.context) spot.place spot.depth o (edge_from old spot to assigns test) →
    IsPoint s (the_point (tables_of old) to) →
    (r ≡ Ok true → A × (new ≡ with_graph (with_flow (with_edge edge rows.graph.flow) rows.graph) rows)) → (r ≡ Ok false → HasEdge rows.graph.flow edge × (new ≡ rows)) → OnErr r (new ≡ rows) →
    AreTables s (tables_of new) → IsPart s spot.context old new
edge_part s old rows new spot o to assigns test edge r grown p is stands leads point fresh known refused a =
    let c : Context = the_context (contexts_of rows) spot.context in
    let same : the_context (contexts_of rows) spot.context ≡ the_context (contexts_of old) spot.context = ap (λ cs. the_context cs spot.context) grown.contexts in
    let e : IsEdgeOf s (the_context (contexts_of rows) spot.context) (an_edge (edge_at (tables_of rows) edge)) =
    subst (λ x. IsEdgeOf s x (an_edge (edge_at (tables_of rows) edge))) (sym same) (subst (λ x. IsEdgeOf s (the_context (contexts_of old) spot.context) (an_edge x)) (sym is) (edge_of stands leads point)) in
    part_on s spot.context old rows new grown p (record {
      tables = a;
      items = by_answer r rows (with_graph (with_flow (with_edge edge rows.graph.flow) rows.graph) rows) new fresh known refused (IsWithEdges s (the_context (contexts_of rows) spot.context) (items_of (tables_of rows)) (items_of (tables_of new)))
          (λ _ i. subst (λ w. IsWithEdges s (the_context (contexts_of rows) spot.context) (items_of (tables_of rows)) (items_of (tables_of w))) (sym i) (edges_added s (the_context (contexts_of rows) spot.context) (tables_of rows) edge e))
          (λ i. subst (λ w. IsWithEdges s (the_context (contexts_of rows) spot.context) (items_of (tables_of rows)) (items_of (tables_of w))) (sym i) (edges_same s (the_context (contexts_of rows) spot.context) (items_of (tables_of rows))));
    })

-- ---- where no point was found

module _ (s : Source) (rows : WorldRows) (code : Code) (spot : PointSpot) (o : Op) (kept : IsKept rows) (a : AreTables s (tables_of rows)) (there : spot.context < length rows.graph.flow.contexts)
    (of : code_of s.program (the_context (contexts_of rows) spot.context) ≡ Some code)
    (have : HavePoints s (tables_of rows) (the_context (contexts_of rows) spot.context) (length code.ops)) where
  pub point_missing : {A : Type 0} (place depth : ℕ) → ((other : PointSpot) → IsSpotAt code spot.context place other → Contains rows.points other → ⊥) → IsPoint s (at (the_context (contexts_of rows) spot.context) place depth) → A
  point_missing place depth none p =
      let h : HasDepth code place depth = subst (λ k. HasDepth k place depth) (some_same (sym p.of ∙ of)) p.has_depth in
      let other : PointSpot = record { context = spot.context; place = place; depth = depth } in
      absurd (none (record { context = spot.context; place = place; depth = depth }) (record { context_is = refl; place_is = refl; has_depth = h })
      (spot_of_point s rows kept a (record { context = spot.context; place = place; depth = depth }) there (have.each place depth (depth_within code place depth h) p)))

-- ---- both edges of an instruction

pub both_edges : (s : Source) (rows new : WorldRows) (code : Code) (spot : PointSpot) (o : Op) → IsValid code → IsOpOf s rows code spot o →
    HasFall s (tables_of new) (the_context (contexts_of rows) spot.context) spot.place spot.depth o → HasJump s (tables_of new) (the_context (contexts_of rows) spot.context) spot.place spot.depth o →
    HasEdges s (tables_of new) (the_context (contexts_of rows) spot.context) spot.place
both_edges s rows new code spot o valid is fall jump = record { each = λ depth p e st leads to. go depth p e (same_depth depth p st) (same_op depth p st) leads to }
  where
    known : (k : Code) → code_of s.program (the_context (contexts_of rows) spot.context) ≡ Some k → k ≡ code
    known k e = some_same (sym e ∙ is.of)

    same_depth : (depth : ℕ) (p : Op) → Stands s (the_context (contexts_of rows) spot.context) spot.place depth p → depth ≡ spot.depth
    same_depth depth p st = valid.depths spot.place depth spot.depth (subst (λ k. HasDepth k spot.place depth) (known st.code st.of) st.has_depth) is.has_depth

    same_op : (depth : ℕ) (p : Op) → Stands s (the_context (contexts_of rows) spot.context) spot.place depth p → p ≡ o
    same_op depth p st = some_same (sym (subst (λ k. slice_get k.ops spot.place ≡ Some p) (known st.code st.of) st.op) ∙ is.op)

    by_way : (e : worlds.Edge Point Variable Shape) → Leads (the_context (contexts_of rows) spot.context) spot.place spot.depth o e → IsPoint s e.to → Contains (items_of (tables_of new)) (an_edge e)
    by_way _ (on f n) to = fall f n to
    by_way _ (off {b} is) to = jump b is to

    go : (depth : ℕ) (p : Op) (e : worlds.Edge Point Variable Shape) → depth ≡ spot.depth → p ≡ o → Leads (the_context (contexts_of rows) spot.context) spot.place depth p e → IsPoint s e.to →
        Contains (items_of (tables_of new)) (an_edge e)
    go depth p e d i leads to = by_way e (subst (λ x. Leads (the_context (contexts_of rows) spot.context) spot.place x o e) d (subst (λ x. Leads (the_context (contexts_of rows) spot.context) spot.place depth x e) i leads)) to

-- a place of the code that is no instruction has no edges
pub no_edges : (s : Source) (rows new : WorldRows) (code : Code) (context place : ℕ) → code_of s.program (the_context (contexts_of rows) context) ≡ Some code → ((depth : ℕ) → HasDepth code place depth → ⊥) →
    HasEdges s (tables_of new) (the_context (contexts_of rows) context) place
no_edges s rows new code context place of none =
    record { each = λ depth p e st leads to. absurd (none depth (subst (λ k. HasDepth k place depth) (some_same (sym st.of ∙ of)) st.has_depth)) }

pub fall_stays : (s : Source) (old new : WorldRows) (c : Context) (place depth : ℕ) (o : Op) → IsContained (items_of (tables_of old)) (items_of (tables_of new)) → HasFall s (tables_of old) c place depth o → HasFall s (tables_of new) c place depth o
fall_stays s old new c place depth o w has = λ f n to. w.at (an_edge (fall_edge c place depth o)) (has f n to)

pub edges_stay : (s : Source) (old new : WorldRows) (c : Context) (place : ℕ) → IsContained (items_of (tables_of old)) (items_of (tables_of new)) → HasEdges s (tables_of old) c place → HasEdges s (tables_of new) c place
edges_stay s old new c place w has = record { each = λ depth o e st leads to. w.at (an_edge e) (has.each depth o e st leads to) }

pub points_on : (s : Source) (old new : WorldRows) (c : Context) (place : ℕ) → IsGrown old new → HavePoints s (tables_of old) c place → HavePoints s (tables_of new) c place
points_on s old new c place grown have = record { each = λ earlier depth l p. point_stays old new grown (at c earlier depth) (have.each earlier depth l p) }

pub op_on : (s : Source) (old new : WorldRows) (code : Code) (spot : PointSpot) (o : Op) → IsGrown old new → IsOpOf s old code spot o → IsOpOf s new code spot o
op_on s old new code spot o grown is = record { of = ap (λ cs. code_of s.program (the_context cs spot.context)) grown.contexts ∙ is.of; op = is.op; has_depth = is.has_depth }

pub ok_always : {T E Q : Type 0} (r : Result T E) → Q → OnOk r Q
ok_always (Ok x) q = q
ok_always (Err e) q = tt

-- ---- the edges that are added are those of the rules

-- what add_edge wants of an edge
pub record IsLed (s : Source) (rows : WorldRows) (spot : PointSpot) (o : Op) (to : ℕ) (assigns : Bool) (test : Option Test) : Type 0 where
  pub leads : Leads (the_context (contexts_of rows) spot.context) spot.place spot.depth o (edge_from rows spot to assigns test)
  pub point : IsPoint s (the_point (tables_of rows) to)

module _ (s : Source) (rows : WorldRows) (code : Code) (spot : PointSpot) (o : Op) (is : IsOpOf s rows code spot o) (valid : IsValid code) (to : ℕ) (test : Option Test) where
  module _ (f : falls o ≡ true) (n : is_call o ≡ false) (p : IsPointAt code rows spot.context (spot.place + 1) to) (t : option_map (test_at (tables_of rows)) test ≡ fall_test o) where
    pub fall_same : edge_from rows spot to true test ≡ fall_edge (the_context (contexts_of rows) spot.context) spot.place spot.depth o
    fall_same = fall_is rows spot o to test (fall_point s rows code spot o is valid f to p).0 t

    pub fall_led : IsLed s rows spot o to true test
    fall_led =
        record {
          leads = subst (λ e. Leads (the_context (contexts_of rows) spot.context) spot.place spot.depth o e) (sym fall_same) (on f n);
          point = subst (λ q. IsPoint s q) (sym (fall_point s rows code spot o is valid f to p).0) (fall_point s rows code spot o is valid f to p).1;
        }

  module _ (b : Branch) (is_branch : branch o ≡ Some b) (goal : ℕ) (g : goal_of o ≡ Some goal) (p : IsPointAt code rows spot.context goal to)
      (t : option_map (test_at (tables_of rows)) test ≡ option_and_then (λ (x : Branch). x.on_jump) (branch o)) where
    goal_same : goal ≡ b.goal
    goal_same = some_same (sym g ∙ goal_is o b is_branch)

    at_goal : (the_point (tables_of rows) to ≡ at (the_context (contexts_of rows) spot.context) b.goal (depth_at_goal o spot.depth)) × IsPoint s (at (the_context (contexts_of rows) spot.context) b.goal (depth_at_goal o spot.depth))
    at_goal = jump_point s rows code spot o is valid b.goal (goal_is o b is_branch) to (subst (λ n. IsPointAt code rows spot.context n to) goal_same p)

    pub jump_same : edge_from rows spot to false test ≡ jump_edge (the_context (contexts_of rows) spot.context) spot.place spot.depth o b
    jump_same = jump_is rows spot o b to test at_goal.0 (t ∙ ap (option_and_then (λ (x : Branch). x.on_jump)) is_branch)

    pub jump_led : IsLed s rows spot o to false test
    jump_led =
        record {
          leads = subst (λ e. Leads (the_context (contexts_of rows) spot.context) spot.place spot.depth o e) (sym jump_same) (off is_branch);
          point = subst (λ q. IsPoint s q) (sym at_goal.0) at_goal.1;
        }

-- the branch of an instruction that jumps
pub record HasBranch (o : Op) : Type 0 where
  pub branch_is : Branch
  pub is : branch o ≡ Some branch_is

pub branch_there : (o : Op) (goal : ℕ) → goal_of o ≡ Some goal → HasBranch o
branch_there o goal g = go (branch o) refl (goals_are o ∙ g)
  where
    go : (x : Option Branch) → branch o ≡ x → option_map (λ (b : Branch). b.goal) (branch o) ≡ Some goal → HasBranch o
    go None e h = let i : None ≡ Some goal = sym (ap (option_map (λ (b : Branch). b.goal)) e) ∙ h in cc
    go (Some b) e h = record { branch_is = b; is = e }

pub no_goal : {A : Type 0} (o : Op) (b : Branch) → branch o ≡ Some b → None ≡ goal_of o → A
no_goal o b is e = let i : None ≡ Some b.goal = e ∙ goal_is o b is in cc

pub jump_here : (s : Source) (rows new : WorldRows) (code : Code) (spot : PointSpot) (o : Op) (is : IsOpOf s rows code spot o) (valid : IsValid code) (to goal : ℕ) (test : Option Test) → goal_of o ≡ Some goal → IsPointAt code rows spot.context goal to →
    option_map (test_at (tables_of rows)) test ≡ option_and_then (λ (x : Branch). x.on_jump) (branch o) → Contains (items_of (tables_of new)) (an_edge (edge_from rows spot to false test)) →
    HasJump s (tables_of new) (the_context (contexts_of rows) spot.context) spot.place spot.depth o
jump_here s rows new code spot o is valid to goal test g p t has = λ b is_branch point.
    subst (λ e. Contains (items_of (tables_of new)) (an_edge e)) (jump_same s rows code spot o is valid to test b is_branch goal g p t) has

-- a jump whose goal is no point has no edge
pub jump_missing : (s : Source) (rows : WorldRows) (code : Code) (spot : PointSpot) (o : Op) (goal : ℕ) → IsKept rows → AreTables s (tables_of rows) → spot.context < length rows.graph.flow.contexts → IsOpOf s rows code spot o →
    HavePoints s (tables_of rows) (the_context (contexts_of rows) spot.context) (length code.ops) → goal_of o ≡ Some goal → ((other : PointSpot) → IsSpotAt code spot.context goal other → Contains rows.points other → ⊥) →
    HasJump s (tables_of rows) (the_context (contexts_of rows) spot.context) spot.place spot.depth o
jump_missing s rows code spot o goal kept a there is have g none = λ b is_branch point.
    let same : b.goal ≡ goal = some_same (sym (goal_is o b is_branch) ∙ g) in
    point_missing s rows code spot o kept a there is.of have goal (depth_at_goal o spot.depth) none (subst (λ n. IsPoint s (at (the_context (contexts_of rows) spot.context) n (depth_at_goal o spot.depth))) same point)

-- ---- spots of a code's places

pub on_both : {T E P Q R : Type 0} (r : Result T E) → (P → Q → R) → OnOk r P → OnOk r Q → OnOk r R
on_both (Ok x) f p q = f p q
on_both (Err e) f p q = tt

-- an instruction stands at each place with a depth
below_none : {X : Type 0} (xs : List X) (k : ℕ) → k < length xs → None ≡ slice_get xs k → ⊥
below_none [] k l i = omega (arith, l)
below_none (x ∷ xs) zero l i = cc
below_none (x ∷ xs) (suc k) l i = below_none xs k (omega (arith, l)) i

pub op_there : {A : Type 0} (code : Code) (place depth : ℕ) → HasDepth code place depth → None ≡ slice_get code.ops place → A
op_there code place depth h e = absurd (below_none code.ops place (depth_within code place depth h) e)

none_some : {X : Type 0} (x : X) → None ≡ Some x → ⊥
none_some x e = cc

-- a place without a spot has no depth
pub spot_there : {A : Type 0} (code : Code) (context place : ℕ) → ((spot : PointSpot) → IsSpotAt code context place spot → None ≡ Some spot) → (depth : ℕ) → HasDepth code place depth → A
spot_there code context place none depth h =
    absurd (none_some (record { context = context; place = place; depth = depth }) (none (record { context = context; place = place; depth = depth }) (record { context_is = refl; place_is = refl; has_depth = h })))

pub code_at_spot : (s : Source) (rows : WorldRows) (code : Code) (context place : ℕ) (spot : PointSpot) → IsSpotAt code context place spot → code_of s.program (the_context (contexts_of rows) context) ≡ Some code →
    code_of s.program (the_context (contexts_of rows) spot.context) ≡ Some code
code_at_spot s rows code context place spot is of = ap (λ k. code_of s.program (the_context (contexts_of rows) k)) is.context_is ∙ of
