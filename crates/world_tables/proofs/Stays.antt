-- Where tables grow by what has a new number, the old numbers stand for the same items.
use Rattle.std.proofs.Common.{◌≡◌, ℕ, suc, zero, ◌+◌, ◌<◌, List, [], ◌∷◌, ◌++◌, map, length, slice_get, Option, Some, None, refl, ap, subst, ◌∙◌, arith}
use Rattle.std.specs.List.{Contains, flat_map}
use Rattle.graph_walks.specs.Worlds as worlds
use Rattle.graph_walks.proofs.Lists.{first, later}
use Rattle.flow_graph.specs.declared.edge.Test.{Test}
use Rattle.flow_graph.specs.declared.edge.Test.TheVariants.{MayBeTrue, MayBeFalse, Is}
use Rattle.flow_graph.specs.declared.edge.Ask.{Ask}
use Rattle.flow_graph.specs.declared.edge.Edge.{Edge}
use Rattle.flow_graph.specs.Flows.{PointRow}
use Rattle.flow_graph.specs.Validity as flow_validity
use Rattle.typegraph.specs.declared.fact.Fact.{Fact}
use Rattle.typegraph.specs.declared.goals.Binding.{Binding}
use Rattle.typegraph.specs.Graphs.{row_of}
use Rattle.typegraph.specs.Validity as graph_validity
use Rattle.abstract_shapes.specs.declared.place.Place.{Place}
use Rattle.world_rules.specs.Sources.{Source}
use Rattle.world_rules.specs.Items.{a_context, an_edge, a_fact, an_entry, map_of}
use Rattle.world_tables.specs.Tables.{Tables, the_point, the_variable, the_shape, test_at, ask_at, edge_at, memory_at, fact_at, facts_from, items_of, AreBindings, IsNumbering, AreTables}
use Rattle.world_tables.proofs.There.{Right, edge_right, row_point, fact_bindings, count_vars, count_shapes}

pub same_map : {X Y : Type 0} (f g : X → Y) (xs : List X) → ((x : X) → Contains xs x → f x ≡ g x) → map f xs ≡ map g xs
same_map f g [] h = refl
same_map f g (x ∷ xs) h = let e : f x ≡ g x = h x (first x xs) in let i : map f xs ≡ map g xs = same_map f g xs (λ y c. h y (later x y xs c)) in λ k. e k ∷ i k

-- each number of the old tables stands for the same in the new ones
pub record Extends (t u : Tables) : Type 0 where
  pub points : (k : ℕ) → k < length t.points → the_point u k ≡ the_point t k
  pub variables : (k : ℕ) → k < length t.variables → the_variable u k ≡ the_variable t k
  pub shapes : (k : ℕ) → k < length t.shapes → the_shape u k ≡ the_shape t k

module _ (s : Source) (t : Tables) (n : IsNumbering s t) (u : Tables) (x : Extends t u) where
  test_stays : (b : Test) → graph_validity.IsTestThere b (length t.graph.truths) → test_at u b ≡ test_at t b
  test_stays MayBeTrue h = refl
  test_stays MayBeFalse h = refl
  test_stays (Is k) h = ap worlds.Is (x.shapes k (count_shapes s t n k h))

  ask_stays : (b : Option Ask) → flow_validity.IsAskThere b t.graph.flow.vars → graph_validity.IsShapeAskThere b (length t.graph.truths) → ask_at u b ≡ ask_at t b
  ask_stays None h k = refl
  ask_stays (Some b) h k =
      let e : test_at u b.test ≡ test_at t b.test = test_stays b.test k in
      let f : the_variable u b.var ≡ the_variable t b.var = x.variables b.var (count_vars s t n b.var h) in
      λ i. Some (record { var = f i; test = e i })

  pub edge_stays : (e : Edge) → Right t e → edge_at u e ≡ edge_at t e
  edge_stays e r =
      let h : ask_at u e.asks ≡ ask_at t e.asks = ask_stays e.asks r.var r.shape in
      let f : the_point u e.from ≡ the_point t e.from = x.points e.from r.from in
      let g : the_point u e.to ≡ the_point t e.to = x.points e.to r.to in
      λ i. record { from = f i; to = g i; assigns = e.assigns; asks = h i }

  memory_stays : (bs : List Binding) → AreBindings t bs → memory_at u bs ≡ memory_at t bs
  memory_stays bs h =
      let e : map (λ b. the_variable u b.var) bs ≡ map (λ b. the_variable t b.var) bs = same_map (λ b. the_variable u b.var) (λ b. the_variable t b.var) bs (λ b c. x.variables b.var (h b c).var) in
      let f : map (λ b. the_shape u b.shape) bs ≡ map (λ b. the_shape t b.shape) bs = same_map (λ b. the_shape u b.shape) (λ b. the_shape t b.shape) bs (λ b c. x.shapes b.shape (h b c).shape) in
      λ i. map_of (e i) (f i)

  pub fact_stays : (p : ℕ) (f : Fact) → Contains (row_of (slice_get t.graph.facts p)) f → fact_at u p f ≡ fact_at t p f
  fact_stays p f c =
      let v : graph_validity.IsFactAt t.graph p f = n.graph_valid.facts p f c in
      let d : the_point u p ≡ the_point t p = x.points p (row_point s t n p f c) in
      let e : the_shape u f.shape ≡ the_shape t f.shape = x.shapes f.shape (count_shapes s t n f.shape v.shape) in
      let m : memory_at u f.source ≡ memory_at t f.source = memory_stays f.source (fact_bindings s t n p f c) in
      λ i. record { point = d i; shape = e i; source = m i }

  rows_stay : (k : ℕ) (rows : List (List Fact)) → ((i : ℕ) → slice_get rows i ≡ slice_get t.graph.facts (k + i)) → facts_from u k rows ≡ facts_from t k rows
  rows_stay k [] h = refl
  rows_stay k (row ∷ rows) h =
      let e : map (fact_at u k) row ≡ map (fact_at t k) row = same_map (fact_at u k) (fact_at t k) row (λ f c. fact_stays k f (subst (λ r. Contains r f) (this_row k row rows h) c)) in
      let m : facts_from u (suc k) rows ≡ facts_from t (suc k) rows = rows_stay (suc k) rows (next_row k row rows h) in
      λ i. e i ++ m i
    where
      next_row : (k : ℕ) (row : List Fact) (rows : List (List Fact)) → ((i : ℕ) → slice_get (row ∷ rows) i ≡ slice_get t.graph.facts (k + i)) → (i : ℕ) → slice_get rows i ≡ slice_get t.graph.facts (suc k + i)
      next_row k row rows h i = let e : k + suc i ≡ suc k + i = omega arith in h (suc i) ∙ ap (slice_get t.graph.facts) e

      this_row : (k : ℕ) (row : List Fact) (rows : List (List Fact)) → ((i : ℕ) → slice_get (row ∷ rows) i ≡ slice_get t.graph.facts (k + i)) → row ≡ row_of (slice_get t.graph.facts k)
      this_row k row rows h = let e : k + zero ≡ k = omega arith in ap row_of (h zero ∙ ap (slice_get t.graph.facts) e)

  pub edges_stay : map (edge_at u) (flat_map (λ (p : PointRow). p.into) t.graph.flow.points) ≡ map (edge_at t) (flat_map (λ (p : PointRow). p.into) t.graph.flow.points)
  edges_stay = same_map (edge_at u) (edge_at t) _ (λ e c. edge_stays e (edge_right s t n e c))

  pub facts_stay : facts_from u 0 t.graph.facts ≡ facts_from t 0 t.graph.facts
  facts_stay = rows_stay 0 t.graph.facts (λ i. let z : i ≡ 0 + i = omega arith in ap (slice_get t.graph.facts) z)

  pub entries_stay : (es : List (Place × ℕ)) → ((e : Place × ℕ) → Contains es e → e.1 < length t.shapes) → map (λ (e : Place × ℕ). an_entry e.0 (the_shape u e.1)) es ≡ map (λ (e : Place × ℕ). an_entry e.0 (the_shape t e.1)) es
  entries_stay es h = same_map (λ (e : Place × ℕ). an_entry e.0 (the_shape u e.1)) (λ (e : Place × ℕ). an_entry e.0 (the_shape t e.1)) es (λ e c. ap (an_entry e.0) (x.shapes e.1 (h e c)))

-- the graph's edges and facts are those of before
pub record SameGraph (t u : Tables) : Type 0 where
  pub contexts : u.contexts ≡ t.contexts
  pub entries : u.entries ≡ t.entries
  pub edges : flat_map (λ (p : PointRow). p.into) u.graph.flow.points ≡ flat_map (λ (p : PointRow). p.into) t.graph.flow.points
  pub facts : facts_from u 0 u.graph.facts ≡ facts_from u 0 t.graph.facts

pub items_stay : (s : Source) (t : Tables) → AreTables s t → (u : Tables) → Extends t u → SameGraph t u → items_of u ≡ items_of t
items_stay s t a u x same =
    let e : map (edge_at u) (flat_map (λ (p : PointRow). p.into) u.graph.flow.points) ≡ map (edge_at t) (flat_map (λ (p : PointRow). p.into) t.graph.flow.points) = ap (map (edge_at u)) same.edges ∙ edges_stay s t a.numbering u x in
    let f : facts_from u 0 u.graph.facts ≡ facts_from t 0 t.graph.facts = same.facts ∙ facts_stay s t a.numbering u x in
    let g : map (λ (e : Place × ℕ). an_entry e.0 (the_shape u e.1)) u.entries ≡ map (λ (e : Place × ℕ). an_entry e.0 (the_shape t e.1)) t.entries =
    ap (map (λ (e : Place × ℕ). an_entry e.0 (the_shape u e.1))) same.entries ∙ entries_stay s t a.numbering u x t.entries a.entries_there in
    let c : u.contexts ≡ t.contexts = same.contexts in
    λ i. map a_context (c i) ++ (map an_edge (e i) ++ (map a_fact (f i) ++ g i))
