-- The world of tables' items is the graph's own world under the numbers of its points, variables and shapes.
use Rattle.std.proofs.Common.{◌≡◌, ℕ, ◌<◌, Bool, false, Option, Some, None, IsTrue, List, length, slice_get, option_map, option_and_then, refl, sym, ap, subst, ◌∙◌}
use Rattle.std.specs.List.{Contains, flat_map}
use Rattle.graph_walks.specs.Worlds.{World, Edge as EdgeBetween, Fact as FactBetween}
use Rattle.graph_walks.specs.Renamings.{renamed, HasNames, SameTest, same_true, same_false, same_is, SameAsk, same_none, same_some, SameEdge, SameFact, AreAlike}
use Rattle.graph_walks.proofs.Lists.{map_has, Origin, map_from}
use Rattle.graph_walks.proofs.RootLaw.{some_same}
use Rattle.flow_graph.specs.declared.edge.Truth.{Truth}
use Rattle.flow_graph.specs.declared.edge.Truth.TheVariants.{Yes, No, Both}
use Rattle.flow_graph.specs.declared.edge.Test.{Test}
use Rattle.flow_graph.specs.declared.edge.Test.TheVariants.{MayBeTrue, MayBeFalse, Is}
use Rattle.flow_graph.specs.declared.edge.Ask.{Ask}
use Rattle.flow_graph.specs.declared.edge.Edge.{Edge}
use Rattle.flow_graph.specs.Flows as flows
use Rattle.flow_graph.specs.Flows.{PointRow}
use Rattle.flow_graph.specs.Validity as flow_validity
use Rattle.typegraph.specs.declared.fact.Fact.{Fact}
use Rattle.typegraph.specs.declared.goals.Binding.{Binding}
use Rattle.typegraph.specs.Maps.{look}
use Rattle.typegraph.specs.Graphs.{row_of}
use Rattle.typegraph.specs.Validity as graph_validity
use Rattle.typegraph.proofs.Looks.{look_finds}
use Rattle.goal_solver.specs.Graphs as numbers
use Rattle.goal_solver.proofs.Tables.{FactHere, fact_here, fact_world}
use Rattle.abstract_shapes.specs.Shapes.{Shape, truth_of}
use Rattle.world_rules.specs.Places.{Variable, global, Point, target_of}
use Rattle.world_rules.specs.Sources.{Source}
use Rattle.world_rules.specs.Items.{an_edge, a_fact, edges_of, facts_of, is_root, truth_as}
use Rattle.world_rules.proofs.Members.{edge_item, item_edge, fact_item, item_fact}
use Rattle.world_tables.specs.Tables.{Tables, the_point, the_variable, the_shape, test_at, ask_at, edge_at, memory_at, fact_at, items_of, AreBindings, IsNumbering}
use Rattle.world_tables.proofs.Items.{there, below, In, in_edges, in_facts, items_in, has_edge, has_fact}
use Rattle.world_tables.proofs.There.{Right, count_points, count_vars, count_shapes, edge_right, row_point, fact_bindings}
use Rattle.world_tables.proofs.Memories.{of_number, Known, known, unknown, find}
use Rattle.world_tables.proofs.Numbers.{points, variables, shapes, point_of_name, variable_at, shape_of_name, the_point_name, the_variable_name, the_shape_name}

truths_agree : (o : Truth) → numbers.truth_as (Some o) ≡ Some (truth_as o)
truths_agree Yes = refl
truths_agree No = refl
truths_agree Both = refl

module _ (s : Source) (t : Tables) (n : IsNumbering s t) where
  -- ---- maps

  shape_found : (bs : List Binding) → AreBindings t bs → (v k : ℕ) → look bs v ≡ Some k → k < length t.shapes
  shape_found bs h v k e = (h _ (look_finds bs v k e)).shape

  variable_found : (bs : List Binding) → AreBindings t bs → (v k : ℕ) → look bs v ≡ Some k → v < length t.variables
  variable_found bs h v k e = (h _ (look_finds bs v k e)).var

  shape_named : (bs : List Binding) → AreBindings t bs → (v : ℕ) (y : Shape) (o : Option ℕ) → look bs v ≡ o → option_map (the_shape t) o ≡ Some y → (k : ℕ) × ((shapes s t n).name y ≡ Some k)
  shape_named bs h v y None e i = cc
  shape_named bs h v y (Some k) e i = (k, subst (λ z. (shapes s t n).name z ≡ Some k) (some_same i) (the_shape_name s t n k (shape_found bs h v k e)))

  pub map_named : (bs : List Binding) → AreBindings t bs → HasNames (variables s t n) (shapes s t n) (memory_at t bs)
  map_named bs h = record { at = λ x y e. by x y e (find t n.variables_once bs x) }
    where
      by : (x : Variable) (y : Shape) → memory_at t bs x ≡ Some y → Known t n.variables_once bs x → ((v : ℕ) × ((variables s t n).name x ≡ Some v)) × ((k : ℕ) × ((shapes s t n).name y ≡ Some k))
      by x y e (unknown none) = let i : None ≡ Some y = sym none ∙ e in cc
      by x y e (known b c is) =
          let l : b.var < length t.variables = (h b c).var in (
            (b.var, subst (λ z. (variables s t n).name z ≡ Some b.var) is (the_variable_name s t n b.var l)),
            shape_named bs h b.var y (look bs b.var) refl (sym (of_number t n.variables_once bs h b.var l) ∙ (ap (memory_at t bs) is ∙ e)),
          )

  named_back : (bs : List Binding) → AreBindings t bs → (v : ℕ) (o : Option ℕ) → look bs v ≡ o → option_and_then (shapes s t n).name (option_map (the_shape t) o) ≡ o
  named_back bs h v None e = refl
  named_back bs h v (Some k) e = the_shape_name s t n k (shape_found bs h v k e)

  nothing_beyond : (bs : List Binding) → AreBindings t bs → (v : ℕ) → slice_get t.variables v ≡ None → (o : Option ℕ) → look bs v ≡ o → None ≡ o
  nothing_beyond bs h v e None i = refl
  nothing_beyond bs h v e (Some k) i = let j : None ≡ Some (the_variable t v) = sym e ∙ there t.variables v (global 0) (variable_found bs h v k i) in cc

  pub map_renamed : (bs : List Binding) → AreBindings t bs → renamed (variables s t n) (shapes s t n) (memory_at t bs) ≡ look bs
  map_renamed bs h = λ i v. each v i
    where
      by : (v : ℕ) (o : Option Variable) → slice_get t.variables v ≡ o → option_and_then (λ x. option_and_then (shapes s t n).name (memory_at t bs x)) o ≡ look bs v
      by v None e = nothing_beyond bs h v e (look bs v) refl
      by v (Some x) e =
          let l : v < length t.variables = below t.variables v x e in
          let is : x ≡ the_variable t v = some_same (sym e ∙ there t.variables v (global 0) l) in
          ap (λ z. option_and_then (shapes s t n).name (memory_at t bs z)) is
          ∙ (ap (option_and_then (shapes s t n).name) (of_number t n.variables_once bs h v l) ∙ named_back bs h v (look bs v) refl)

      each : (v : ℕ) → renamed (variables s t n) (shapes s t n) (memory_at t bs) v ≡ look bs v
      each v = ap (option_and_then (λ x. option_and_then (shapes s t n).name (memory_at t bs x))) (variable_at s t n v) ∙ by v (slice_get t.variables v) refl

  -- ---- edges and facts

  test_same : (b : Test) → graph_validity.IsTestThere b (length t.graph.truths) → SameTest (points s t n) (variables s t n) (shapes s t n) (test_at t b) (numbers.test_as b)
  test_same MayBeTrue h = same_true
  test_same MayBeFalse h = same_false
  test_same (Is k) h = same_is (the_shape_name s t n k (count_shapes s t n k h))

  ask_same : (a : Option Ask) → flow_validity.IsAskThere a t.graph.flow.vars → graph_validity.IsShapeAskThere a (length t.graph.truths) → SameAsk (points s t n) (variables s t n) (shapes s t n) (ask_at t a) (numbers.ask_as a)
  ask_same None h k = same_none
  ask_same (Some a) h k = same_some (the_variable_name s t n a.var (count_vars s t n a.var h)) (test_same a.test k)

  edge_same : (e : Edge) → Contains (flat_map (λ (p : PointRow). p.into) t.graph.flow.points) e → SameEdge (points s t n) (variables s t n) (shapes s t n) (edge_at t e) (numbers.edge_as e)
  edge_same e c =
      let r : Right t e = edge_right s t n e c in
      record { from = the_point_name s t n e.from r.from; to = the_point_name s t n e.to r.to; assigns = refl; asks = ask_same e.asks r.var r.shape }

  fact_same : (p : ℕ) (f : Fact) → Contains (row_of (slice_get t.graph.facts p)) f → SameFact (points s t n) (variables s t n) (shapes s t n) (fact_at t p f) (numbers.fact_as p f)
  fact_same p f c =
      record {
        point = the_point_name s t n p (row_point s t n p f c);
        shape = the_shape_name s t n f.shape (count_shapes s t n f.shape (n.graph_valid.facts p f c).shape);
        source = map_named f.source (fact_bindings s t n p f c);
        renamed = map_renamed f.source (fact_bindings s t n p f c);
      }

  -- the graph's edge or fact of an item, and the item of the graph's

  edge_to : (e : EdgeBetween Point Variable Shape) → In t (an_edge e) → (f : EdgeBetween ℕ ℕ ℕ) × SameEdge (points s t n) (variables s t n) (shapes s t n) e f × Contains (numbers.world_of t.graph).edges f
  edge_to _ (in_edges e c) = (numbers.edge_as e, edge_same e c, map_has numbers.edge_as _ e c)

  -- so an edge leaves a point with a number
  pub edge_starts : (e : EdgeBetween Point Variable Shape) → Contains (edges_of (items_of t)) e → (k : ℕ) × ((points s t n).name e.from ≡ Some k)
  edge_starts e c = by (edge_to e (items_in t (an_edge e) (edge_item (items_of t) e c)))
    where
      by : (f : EdgeBetween ℕ ℕ ℕ) × SameEdge (points s t n) (variables s t n) (shapes s t n) e f × Contains (numbers.world_of t.graph).edges f → (k : ℕ) × ((points s t n).name e.from ≡ Some k)
      by f = (f.0.from, f.1.from)

  edge_from : (f : EdgeBetween ℕ ℕ ℕ) → Origin numbers.edge_as (flat_map (λ (p : PointRow). p.into) t.graph.flow.points) f →
      (e : EdgeBetween Point Variable Shape) × SameEdge (points s t n) (variables s t n) (shapes s t n) e f × Contains (edges_of (items_of t)) e
  edge_from f o =
      (edge_at t o.item, subst (SameEdge (points s t n) (variables s t n) (shapes s t n) (edge_at t o.item)) o.same (edge_same o.item o.is), item_edge (items_of t) (edge_at t o.item) (has_edge t o.item o.is))

  pub fact_to : (f : FactBetween Point Variable Shape) → In t (a_fact f) → (g : FactBetween ℕ ℕ ℕ) × SameFact (points s t n) (variables s t n) (shapes s t n) f g × Contains (numbers.world_of t.graph).facts g
  fact_to _ (in_facts p f c) = (numbers.fact_as p f, fact_same p f c, fact_world t.graph p f c)

  fact_from : (g : FactBetween ℕ ℕ ℕ) → FactHere t.graph g.point g.shape g.source → (f : FactBetween Point Variable Shape) × SameFact (points s t n) (variables s t n) (shapes s t n) f g × Contains (facts_of (items_of t)) f
  fact_from g h =
      let is : numbers.fact_as g.point h.fact ≡ g = λ i. record { point = g.point; shape = h.shape i; source = h.source_is i } in (
        fact_at t g.point h.fact,
        subst (SameFact (points s t n) (variables s t n) (shapes s t n) (fact_at t g.point h.fact)) is (fact_same g.point h.fact h.is),
        item_fact (items_of t) (fact_at t g.point h.fact) (has_fact t g.point h.fact h.is),
      )

  -- ---- targets

  target_there : (k v : ℕ) (o : Option PointRow) → slice_get t.graph.flow.points k ≡ o → flows.target_of o ≡ Some v → v < length t.variables
  target_there k v None e h = cc
  target_there k v (Some row) e h = count_vars s t n v (subst (λ o. flow_validity.IsThere o t.graph.flow.vars) h (n.flow_valid.points k row e).target)

  pub target_to : (p : Point) (k : ℕ) (x : Variable) → slice_get t.points k ≡ Some p → target_of s.program p ≡ Some x → (v : ℕ) × ((variables s t n).name x ≡ Some v) × (flows.target_of (slice_get t.graph.flow.points k) ≡ Some v)
  target_to p k x h e = by (flows.target_of (slice_get t.graph.flow.points k)) refl
    where
      by : (o : Option ℕ) → flows.target_of (slice_get t.graph.flow.points k) ≡ o → (v : ℕ) × ((variables s t n).name x ≡ Some v) × (flows.target_of (slice_get t.graph.flow.points k) ≡ Some v)
      by None i = let j : None ≡ Some x = sym (ap (option_map (the_variable t)) i) ∙ (n.targets k p h ∙ e) in cc
      by (Some v) i =
          let j : Some (the_variable t v) ≡ Some x = sym (ap (option_map (the_variable t)) i) ∙ (n.targets k p h ∙ e) in
          (v, subst (λ z. (variables s t n).name z ≡ Some v) (some_same j) (the_variable_name s t n v (target_there k v (slice_get t.graph.flow.points k) refl i)), i)

  pub target_is : (p : Point) (k v : ℕ) → slice_get t.points k ≡ Some p → flows.target_of (slice_get t.graph.flow.points k) ≡ Some v → target_of s.program p ≡ Some (the_variable t v)
  target_is p k v h i = sym (n.targets k p h) ∙ ap (option_map (the_variable t)) i

  target_from : (p : Point) (k v : ℕ) → slice_get t.points k ≡ Some p → flows.target_of (slice_get t.graph.flow.points k) ≡ Some v → (x : Variable) × ((variables s t n).name x ≡ Some v) × (target_of s.program p ≡ Some x)
  target_from p k v h i = (the_variable t v, the_variable_name s t n v (target_there k v (slice_get t.graph.flow.points k) refl i), target_is p k v h i)

  -- ---- roots: those that have a number, which the roots of contexts that aren't finished may not have

  abbrev root_named : Option ℕ → Bool
  root_named None = false
  root_named (Some k) = flows.root_of (slice_get t.graph.flow.points k)

  abbrev pub has_root : Point → Bool
  has_root p = root_named ((points s t n).name p)

  root_to : (p : Point) (o : Option ℕ) → (points s t n).name p ≡ o → IsTrue (root_named o) → (k : ℕ) × ((points s t n).name p ≡ Some k) × IsTrue (flows.root_of (slice_get t.graph.flow.points k))
  root_to p None e r = cc
  root_to p (Some k) e r = (k, e, r)

  root_there : (k : ℕ) (o : Option PointRow) → slice_get t.graph.flow.points k ≡ o → IsTrue (flows.root_of o) → k < length t.points
  root_there k None e r = cc
  root_there k (Some row) e r = count_points s t n k (below t.graph.flow.points k row e)

  root_from : (k : ℕ) → IsTrue (flows.root_of (slice_get t.graph.flow.points k)) → (p : Point) × ((points s t n).name p ≡ Some k) × IsTrue (has_root p)
  root_from k r =
      let e : (points s t n).name (the_point t k) ≡ Some k = the_point_name s t n k (root_there k (slice_get t.graph.flow.points k) refl r) in
      (the_point t k, e, ap root_named e ∙ r)

  -- a point with a number is a root of both worlds or of none

  pub root_in : (p : Point) (k : ℕ) → (points s t n).name p ≡ Some k → IsTrue (is_root s.program (items_of t) p) → IsTrue (has_root p)
  root_in p k e r = ap root_named e ∙ (n.roots k p (point_of_name s t n k p e) ∙ r)

  pub root_out : (p : Point) (o : Option ℕ) → (points s t n).name p ≡ o → IsTrue (root_named o) → IsTrue (is_root s.program (items_of t) p)
  root_out p None e r = cc
  root_out p (Some k) e r = sym (n.roots k p (point_of_name s t n k p e)) ∙ r

  -- ---- the two worlds

  abbrev pub numbered_world : World Point Variable Shape
  numbered_world = record { edges = edges_of (items_of t); facts = facts_of (items_of t); target = target_of s.program; root = has_root; truth = λ x. Some (truth_as (truth_of x)) }

  truth_is : (x : Shape) (k : ℕ) → (shapes s t n).name x ≡ Some k → numbers.truth_as (slice_get t.graph.truths k) ≡ Some (truth_as (truth_of x))
  truth_is x k h = ap numbers.truth_as (n.truths k x (shape_of_name s t n k x h)) ∙ truths_agree (truth_of x)

  pub alike : AreAlike (points s t n) (variables s t n) (shapes s t n) numbered_world (numbers.world_of t.graph)
  alike =
      record {
        edges_to = λ e c. edge_to e (items_in t (an_edge e) (edge_item (items_of t) e c));
        edges_from = λ f c. edge_from f (map_from numbers.edge_as _ f c);
        facts_to = λ f c. fact_to f (items_in t (a_fact f) (fact_item (items_of t) f c));
        facts_from = λ g c. fact_from g (fact_here t.graph g.point g.shape g.source c);
        roots_to = λ p r. root_to p ((points s t n).name p) refl r;
        roots_from = λ k r. root_from k r;
        truths = λ x k u h. (λ e. truth_is x k h ∙ e, λ e. sym (truth_is x k h) ∙ e);
        targets_to = λ p k x h e. target_to p k x (point_of_name s t n k p h) e;
        targets_from = λ p k v h e. target_from p k v (point_of_name s t n k p h) e;
      }
