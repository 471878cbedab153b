-- Edges from spots, and what one edge more does.
use Rattle.std.proofs.Common.{◌≡◌, ℕ, suc, ◌+◌, ◌<◌, Bool, true, false, Option, Some, length, map, slice_get, option_map, ◌⊎◌, inl, inr, sym, ap, subst, ◌∙◌, add-one}
use Rattle.std.specs.Option.{unwrap_or}
use Rattle.std.specs.List.{Contains, flat_map}
use Rattle.graph_walks.proofs.Lists.{map_from, Origin}
use Rattle.flow_graph.specs.declared.edge.Ask.{Ask}
use Rattle.flow_graph.specs.declared.edge.Edge.{Edge}
use Rattle.flow_graph.specs.declared.edge.Test.{Test}
use Rattle.flow_graph.specs.Flows.{PointRow, with_edge, HasEdge}
use Rattle.typegraph.specs.Graphs.{with_flow}
use Rattle.stack_code.specs.declared.code.Code.{Code}
use Rattle.stack_code.specs.declared.op.Op.{Op}
use Rattle.stack_code.specs.Depths.{goes_on, jumps, HasDepth, begins, given, handles}
use Rattle.stack_code.specs.Effects.{falls, goal_of, depth_after, depth_at_goal}
use Rattle.stack_code.specs.Validity.{IsValid}
use Rattle.world_rules.specs.Places.{Context, main, at}
use Rattle.world_rules.specs.Sources.{Source}
use Rattle.world_rules.specs.Branches.{Branch, fall_test, ask_top}
use Rattle.world_rules.specs.Items.{Item, an_edge}
use Rattle.world_rules.specs.Rules.{IsPoint, Stands, fall_edge, jump_edge}
use Rattle.world_rules.proofs.Extending.{some_same}
use Rattle.world_tables.specs.declared.spot.PointSpot.{PointSpot}
use Rattle.world_tables.specs.Tables.{Tables, the_point, ask_at, test_at, edge_at, items_of, AreTables}
use Rattle.world_tables.specs.Rows.{WorldRows, contexts_of, the_context, point_of, tables_of, IsKept}
use Rattle.world_tables.proofs.Items.{In, in_contexts, in_edges, in_facts, in_entries, items_in, has_known, has_edge, has_fact, has_entry}
use Rattle.world_tables.proofs.Keeping.{context_there}
use Rattle.world_tables.proofs.Kept.{same_point}
use Rattle.context_graph.specs.Edges.{edge_from}
use Rattle.context_graph.specs.Growth.{IsEdgeOf, IsWithEdges}
use Rattle.context_graph.specs.Places.{IsOpOf, IsPointAt}
use Rattle.context_graph.proofs.Lists.{mapped_at, in_row, old_or_new, edge_still, new_in_row}

-- ---- points by number

pub point_at : (rows : WorldRows) (id : ℕ) (spot : PointSpot) → slice_get rows.points id ≡ Some spot → the_point (tables_of rows) id ≡ point_of (contexts_of rows) spot
point_at rows id spot e = ap (λ o. unwrap_or o (at main 0 0)) (mapped_at (point_of (contexts_of rows)) rows.points spot id e)

-- a spot whose point is there is there
pub spot_of_point : (s : Source) (rows : WorldRows) → IsKept rows → AreTables s (tables_of rows) → (spot : PointSpot) → spot.context < length rows.graph.flow.contexts →
    Contains (tables_of rows).points (point_of (contexts_of rows) spot) → Contains rows.points spot
spot_of_point s rows kept a spot h c =
    let o : Origin (point_of (contexts_of rows)) rows.points (point_of (contexts_of rows) spot) = map_from (point_of (contexts_of rows)) rows.points (point_of (contexts_of rows) spot) c in
    subst (λ x. Contains rows.points x)
    (same_point (contexts_of rows) a.contexts_once o.item spot (context_there rows kept o.item.context (kept.points_there o.item o.is)) (context_there rows kept spot.context h) o.same)
    o.is

-- ---- one edge more

module _ (s : Source) (c : Context) (t : Tables) (edge : Edge) where
  abbrev u : Tables
  u = record t { graph = with_flow (with_edge edge t.graph.flow) t.graph }

  still_in : (i : Item) → In t i → Contains (items_of u) i
  still_in _ (in_contexts b l) = has_known u b l
  still_in _ (in_edges e l) = has_edge u e (edge_still edge t.graph.flow.points edge.to e l)
  still_in _ (in_facts p f l) = has_fact u p f l
  still_in _ (in_entries e l) = has_entry u e l

  module _ (is : IsEdgeOf s c (an_edge (edge_at t edge))) where
    new_in : (i : Item) → In u i → Contains (items_of t) i ⊎ IsEdgeOf s c i
    new_in _ (in_contexts b l) = inl (has_known t b l)
    new_in _ (in_edges e l) = go (old_or_new edge t.graph.flow.points edge.to e l)
      where
        go : Contains (flat_map (λ (p : PointRow). p.into) t.graph.flow.points) e ⊎ (e ≡ edge) → Contains (items_of t) (an_edge (edge_at t e)) ⊎ IsEdgeOf s c (an_edge (edge_at t e))
        go (inl k) = inl (has_edge t e k)
        go (inr same) = inr (subst (λ z. IsEdgeOf s c (an_edge (edge_at t z))) (sym same) is)
    new_in _ (in_facts p f l) = inl (has_fact t p f l)
    new_in _ (in_entries e l) = inl (has_entry t e l)

    pub edges_added : IsWithEdges s c (items_of t) (items_of (record t { graph = with_flow (with_edge edge t.graph.flow) t.graph }))
    edges_added = record { contained = record { at = λ i k. still_in i (items_in t i k) }; more = λ i k. new_in i (items_in u i k) }

-- the edge is there after it was added, or was there
pub edge_added : (t : Tables) (edge : Edge) → edge.to < length t.graph.flow.points → Contains (items_of (record t { graph = with_flow (with_edge edge t.graph.flow) t.graph })) (an_edge (edge_at t edge))
edge_added t edge l =
    has_edge (record t { graph = with_flow (with_edge edge t.graph.flow) t.graph }) edge
    (in_row (with_edge edge t.graph.flow).points edge.to edge (new_in_row edge t.graph.flow.points edge.to l))

pub edge_known : (t : Tables) (edge : Edge) → HasEdge t.graph.flow edge → Contains (items_of t) (an_edge (edge_at t edge))
edge_known t edge h = has_edge t edge (in_row t.graph.flow.points edge.to edge h)

-- ---- the edge by structure

module _ (old rows : WorldRows) (contexts : contexts_of rows ≡ contexts_of old) (points : rows.points ≡ old.points) where
  pub point_same : (id : ℕ) → the_point (tables_of rows) id ≡ the_point (tables_of old) id
  point_same id = λ i. unwrap_or (slice_get (map (point_of (contexts i)) (points i)) id) (at main 0 0)

  pub edge_is : (spot : PointSpot) (from to : ℕ) (assigns : Bool) (asks : Option Ask) (test : Option Test) → slice_get old.points from ≡ Some spot →
      ask_at (tables_of rows) asks ≡ ask_top (the_context (contexts_of old) spot.context) spot.depth (option_map (test_at (tables_of old)) test) →
      edge_at (tables_of rows) (record { from = from; to = to; assigns = assigns; asks = asks }) ≡ edge_from old spot to assigns test
  edge_is spot from to assigns asks test e h =
      let f : the_point (tables_of rows) from ≡ point_of (contexts_of old) spot = point_same from ∙ point_at old from spot e in
      let g : the_point (tables_of rows) to ≡ the_point (tables_of old) to = point_same to in
      λ i. record { from = f i; to = g i; assigns = assigns; asks = h i }

-- ---- where an instruction leads

-- a place with a depth is one of the code's
pub depth_within : (code : Code) (place depth : ℕ) → HasDepth code place depth → place < length code.ops
depth_within code _ _ (begins l) = l
depth_within code _ _ (given h op g l) = l
depth_within code _ _ (handles h r k l) = l

module _ (s : Source) (rows : WorldRows) (code : Code) (spot : PointSpot) (o : Op) (is : IsOpOf s rows code spot o) where
  abbrev c : Context
  c = the_context (contexts_of rows) spot.context

  pub stands_of : Stands s (the_context (contexts_of rows) spot.context) spot.place spot.depth o
  stands_of = record { code = code; of = is.of; op = is.op; has_depth = is.has_depth }

  -- the code of a point of the context is this code
  pub depth_of : (place depth : ℕ) → IsPoint s (at (the_context (contexts_of rows) spot.context) place depth) → HasDepth code place depth
  depth_of place depth p = subst (λ k. HasDepth k place depth) (some_same (sym p.of ∙ is.of)) p.has_depth

  module _ (valid : IsValid code) where
    fall_depth : falls o ≡ true → suc spot.place < length code.ops → HasDepth code (suc spot.place) (depth_after o spot.depth)
    fall_depth f l = given is.has_depth is.op (goes_on (valid.slots spot.place spot.depth o is.op is.has_depth) f) l

    jump_depth : (goal : ℕ) → goal_of o ≡ Some goal → goal < length code.ops → HasDepth code goal (depth_at_goal o spot.depth)
    jump_depth goal g l = given is.has_depth is.op (jumps (valid.slots spot.place spot.depth o is.op is.has_depth) g) l

    -- a point behind the instruction is the one that its edge leads to
    behind : (place depth id : ℕ) → IsPointAt code rows spot.context place id → HasDepth code place depth →
        (the_point (tables_of rows) id ≡ at (the_context (contexts_of rows) spot.context) place depth) × IsPoint s (at (the_context (contexts_of rows) spot.context) place depth)
    behind place depth id p h =
        let d : p.spot.depth ≡ depth = valid.depths place p.spot.depth depth p.is_spot.has_depth h in
        let k : p.spot.context ≡ spot.context = p.is_spot.context_is in
        let l : p.spot.place ≡ place = p.is_spot.place_is in
        (point_at rows id p.spot p.number ∙ (λ i. at (the_context (contexts_of rows) (k i)) (l i) (d i)), record { code = code; of = is.of; has_depth = h })

    pub fall_point : falls o ≡ true → (id : ℕ) → IsPointAt code rows spot.context (spot.place + 1) id →
        (the_point (tables_of rows) id ≡ at (the_context (contexts_of rows) spot.context) (suc spot.place) (depth_after o spot.depth)) × IsPoint s (at (the_context (contexts_of rows) spot.context) (suc spot.place) (depth_after o spot.depth))
    fall_point f id p =
        let q : IsPointAt code rows spot.context (suc spot.place) id = subst (λ n. IsPointAt code rows spot.context n id) (add-one spot.place) p in
        behind (suc spot.place) (depth_after o spot.depth) id q (fall_depth f (depth_within code (suc spot.place) q.spot.depth q.is_spot.has_depth))

    pub jump_point : (goal : ℕ) → goal_of o ≡ Some goal → (id : ℕ) → IsPointAt code rows spot.context goal id →
        (the_point (tables_of rows) id ≡ at (the_context (contexts_of rows) spot.context) goal (depth_at_goal o spot.depth)) × IsPoint s (at (the_context (contexts_of rows) spot.context) goal (depth_at_goal o spot.depth))
    jump_point goal g id p = behind goal (depth_at_goal o spot.depth) id p (jump_depth goal g (depth_within code goal p.spot.depth p.is_spot.has_depth))

-- the edges of the rules
pub fall_is : (rows : WorldRows) (spot : PointSpot) (o : Op) (to : ℕ) (test : Option Test) → the_point (tables_of rows) to ≡ at (the_context (contexts_of rows) spot.context) (suc spot.place) (depth_after o spot.depth) →
    option_map (test_at (tables_of rows)) test ≡ fall_test o → edge_from rows spot to true test ≡ fall_edge (the_context (contexts_of rows) spot.context) spot.place spot.depth o
fall_is rows spot o to test p t =
    λ i. record { from = point_of (contexts_of rows) spot; to = p i; assigns = true; asks = ask_top (the_context (contexts_of rows) spot.context) spot.depth (t i) }

pub jump_is : (rows : WorldRows) (spot : PointSpot) (o : Op) (b : Branch) (to : ℕ) (test : Option Test) → the_point (tables_of rows) to ≡ at (the_context (contexts_of rows) spot.context) b.goal (depth_at_goal o spot.depth) →
    option_map (test_at (tables_of rows)) test ≡ b.on_jump → edge_from rows spot to false test ≡ jump_edge (the_context (contexts_of rows) spot.context) spot.place spot.depth o b
jump_is rows spot o b to test p t =
    λ i. record { from = point_of (contexts_of rows) spot; to = p i; assigns = false; asks = ask_top (the_context (contexts_of rows) spot.context) spot.depth (t i) }
