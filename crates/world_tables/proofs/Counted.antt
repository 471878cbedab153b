-- Nothing stands twice among the items of tables, and how many they are.
use Rattle.std.proofs.Common.{◌≡◌, ◌≢◌, ℕ, suc, ◌+◌, ◌≤◌, Option, Some, None, List, [], ◌∷◌, ◌++◌, length, map, slice_get, inl, inr, refl, sym, ap, subst, ◌∙◌, arith, length-append}
use Rattle.std.specs.List.{AllPairs, Contains, flat_map}
use Rattle.std.proofs.lemmas.List.Elements.{Contains-append_cases}
use Rattle.graph_walks.specs.Worlds.{Edge as EdgeBetween, Fact as FactBetween}
use Rattle.graph_walks.specs.Renamings.{renamed}
use Rattle.graph_walks.proofs.Lists.{Origin, map_from}
use Rattle.graph_walks.proofs.RootLaw.{some_same}
use Rattle.flow_graph.specs.declared.edge.Test.{Test}
use Rattle.flow_graph.specs.declared.edge.Test.TheVariants.{MayBeTrue, MayBeFalse, Is}
use Rattle.flow_graph.specs.declared.edge.Ask.{Ask}
use Rattle.flow_graph.specs.declared.edge.Edge.{Edge}
use Rattle.flow_graph.specs.Flows.{PointRow}
use Rattle.flow_graph.specs.Validity as flow_validity
use Rattle.typegraph.specs.declared.fact.Fact.{Fact}
use Rattle.typegraph.specs.Graphs.{row_of, total, item_total}
use Rattle.typegraph.specs.Validity as graph_validity
use Rattle.abstract_shapes.specs.declared.place.Place.{Place}
use Rattle.abstract_shapes.specs.Shapes.{Shape, any}
use Rattle.world_rules.specs.Places.{Context, main, Variable, global, Point, at}
use Rattle.world_rules.specs.Sources.{Source}
use Rattle.world_rules.specs.Items.{Item, a_context, an_edge, a_fact, an_entry}
use Rattle.world_rules.specs.Rules.{IsContained}
use Rattle.world_tables.specs.Tables.{Tables, the_variable, the_shape, test_at, ask_at, edge_at, fact_at, facts_from, items_of, IsNumbering, AreTables}
use Rattle.world_tables.proofs.Distinct.{AreApart, joined_apart, nothing_else, mapped_apart, rows_from, IsRow, rows_apart}
use Rattle.world_tables.proofs.Naming.{no_two}
use Rattle.world_tables.proofs.Numbers.{points, variables, shapes, the_point_name}
use Rattle.world_tables.proofs.Renamed.{map_renamed}
use Rattle.world_tables.proofs.There.{Right, count_vars, count_shapes, edge_right, row_point, fact_bindings}

-- ---- how many

map_count : {X Y : Type 0} (f : X → Y) (xs : List X) → length (map f xs) ≡ length xs
map_count f [] = refl
map_count f (x ∷ xs) = ap suc (map_count f xs)

parts_count : {X Y : Type 0} (f : X → List Y) (xs : List X) → length (flat_map f xs) ≡ total (λ x. length (f x)) xs
parts_count f [] = refl
parts_count f (x ∷ xs) = length-append (f x) (flat_map f xs) ∙ ap (λ n. length (f x) + n) (parts_count f xs)

facts_count : (t : Tables) (n : ℕ) (rows : List (List Fact)) → length (facts_from t n rows) ≡ total length rows
facts_count t n [] = refl
facts_count t n (row ∷ rows) =
    let whole : length (facts_from t n (row ∷ rows)) ≡ length (map (fact_at t n) row) + length (facts_from t (suc n) rows) = length-append (map (fact_at t n) row) (facts_from t (suc n) rows) in
    let one : length (map (fact_at t n) row) ≡ length row = map_count (fact_at t n) row in
    let more : length (facts_from t (suc n) rows) ≡ total length rows = facts_count t (suc n) rows in
    omega (arith, whole, one, more)

four_count : {X : Type 0} (a b c d : List X) (k l m n : ℕ) → length a ≡ k → length b ≡ l → length c ≡ m → length d ≡ n → length (a ++ (b ++ (c ++ d))) ≡ ((k + l) + m) + n
four_count a b c d k l m n e f g h =
    let one : length (a ++ (b ++ (c ++ d))) ≡ length a + length (b ++ (c ++ d)) = length-append a (b ++ (c ++ d)) in
    let two : length (b ++ (c ++ d)) ≡ length b + length (c ++ d) = length-append b (c ++ d) in
    let three : length (c ++ d) ≡ length c + length d = length-append c d in
    omega (arith, one, two, three, e, f, g, h)

-- whatever the numbers stand for
pub item_count : (t : Tables) → length t.contexts ≡ length t.graph.flow.contexts → length (items_of t) ≡ item_total t.graph + length t.entries
item_count t h =
    four_count (map a_context t.contexts) (map an_edge (map (edge_at t) (flat_map (λ (p : PointRow). p.into) t.graph.flow.points))) (map a_fact (facts_from t 0 t.graph.facts)) (map (λ e. an_entry e.0 (the_shape t e.1)) t.entries)
    (length t.graph.flow.contexts) (total (λ (p : PointRow). length p.into) t.graph.flow.points) (total length t.graph.facts) (length t.entries)
    (map_count a_context t.contexts ∙ h)
    (map_count an_edge _ ∙ (map_count (edge_at t) _ ∙ parts_count (λ (p : PointRow). p.into) t.graph.flow.points))
    (map_count a_fact _ ∙ facts_count t 0 t.graph.facts)
    (map_count (λ e. an_entry e.0 (the_shape t e.1)) t.entries)

-- ---- what stands for the same is the same

module _ (s : Source) (t : Tables) (n : IsNumbering s t) where
  same_test : (a b : Test) → graph_validity.IsTestThere a (length t.graph.truths) → graph_validity.IsTestThere b (length t.graph.truths) → test_at t a ≡ test_at t b → a ≡ b
  same_test MayBeTrue MayBeTrue h k e = refl
  same_test MayBeTrue MayBeFalse h k e = cc
  same_test MayBeTrue (Is l) h k e = cc
  same_test MayBeFalse MayBeTrue h k e = cc
  same_test MayBeFalse MayBeFalse h k e = refl
  same_test MayBeFalse (Is l) h k e = cc
  same_test (Is m) MayBeTrue h k e = cc
  same_test (Is m) MayBeFalse h k e = cc
  same_test (Is m) (Is l) h k e = let is : the_shape t m ≡ the_shape t l = cc in ap Is (no_two t.shapes n.shapes_once any m l (count_shapes s t n m h) (count_shapes s t n l k) is)

  same_ask : (a b : Option Ask) → flow_validity.IsAskThere a t.graph.flow.vars → flow_validity.IsAskThere b t.graph.flow.vars → graph_validity.IsShapeAskThere a (length t.graph.truths) → graph_validity.IsShapeAskThere b (length t.graph.truths) → ask_at t a ≡ ask_at t b → a ≡ b
  same_ask None None h k i j e = refl
  same_ask None (Some b) h k i j e = cc
  same_ask (Some a) None h k i j e = cc
  same_ask (Some a) (Some b) h k i j e =
      let is : record { var = the_variable t a.var; test = test_at t a.test } ≡ record { var = the_variable t b.var; test = test_at t b.test } = some_same e in
      let v : a.var ≡ b.var = no_two t.variables n.variables_once (global 0) a.var b.var (count_vars s t n a.var h) (count_vars s t n b.var k) (ap (λ x. x.var) is) in
      let u : a.test ≡ b.test = same_test a.test b.test i j (ap (λ x. x.test) is) in
      λ x. Some (record { var = v x; test = u x })

  pub same_edge : (d e : Edge) → Contains (flat_map (λ (p : PointRow). p.into) t.graph.flow.points) d → Contains (flat_map (λ (p : PointRow). p.into) t.graph.flow.points) e → edge_at t d ≡ edge_at t e → d ≡ e
  same_edge d e h k is =
      let x : Right t d = edge_right s t n d h in
      let y : Right t e = edge_right s t n e k in
      let from : d.from ≡ e.from = no_two t.points n.points_once (at main 0 0) d.from e.from x.from y.from (ap (λ z. z.from) is) in
      let to : d.to ≡ e.to = no_two t.points n.points_once (at main 0 0) d.to e.to x.to y.to (ap (λ z. z.to) is) in
      let assigns : d.assigns ≡ e.assigns = ap (λ z. z.assigns) is in
      let asks : d.asks ≡ e.asks = same_ask d.asks e.asks x.var y.var x.shape y.shape (ap (λ z. z.asks) is) in
      λ z. record { from = from z; to = to z; assigns = assigns z; asks = asks z }

  -- facts of a point that differ, as shapes or as maps, stand for facts that differ
  pub facts_differ : (p : ℕ) (f g : Fact) → Contains (row_of (slice_get t.graph.facts p)) f → Contains (row_of (slice_get t.graph.facts p)) g → graph_validity.Differ f g → fact_at t p f ≢ fact_at t p g
  facts_differ p f g h k differ is =
      differ
      (no_two t.shapes n.shapes_once any f.shape g.shape (count_shapes s t n f.shape (n.graph_valid.facts p f h).shape) (count_shapes s t n g.shape (n.graph_valid.facts p g k).shape) (ap (λ z. z.shape) is))
      (sym (map_renamed s t n f.source (fact_bindings s t n p f h)) ∙ (ap (λ z. renamed (variables s t n) (shapes s t n) z.source) is ∙ map_renamed s t n g.source (fact_bindings s t n p g k)))

-- ---- edges and facts by their rows

edge_rows : (n : ℕ) (rows : List PointRow) → rows_from (λ k (p : PointRow). p.into) n rows ≡ flat_map (λ (p : PointRow). p.into) rows
edge_rows n [] = refl
edge_rows n (row ∷ rows) = ap (λ es. row.into ++ es) (edge_rows (suc n) rows)

fact_rows : (t : Tables) (n : ℕ) (rows : List (List Fact)) → rows_from (λ k row. map (fact_at t k) row) n rows ≡ facts_from t n rows
fact_rows t n [] = refl
fact_rows t n (row ∷ rows) = ap (λ fs. map (fact_at t n) row ++ fs) (fact_rows t (suc n) rows)

-- ---- kinds of items

abbrev kind : Item → ℕ
kind (a_context c) = 0
kind (an_edge e) = 1
kind (a_fact f) = 2
kind (an_entry p x) = 3

of_kind : {X : Type 0} (make : X → Item) (k : ℕ) → ((x : X) → kind (make x) ≡ k) → (xs : List X) (i : Item) → Contains (map make xs) i → kind i ≡ k
of_kind make k all xs i c = let o : Origin make xs i = map_from make xs i c in sym (ap kind o.same) ∙ all o.item

module _ (s : Source) (t : Tables) (a : AreTables s t) where
  abbrev contexts : List Item
  contexts = map a_context t.contexts

  abbrev edges : List Item
  edges = map an_edge (map (edge_at t) (flat_map (λ (p : PointRow). p.into) t.graph.flow.points))

  abbrev facts : List Item
  facts = map a_fact (facts_from t 0 t.graph.facts)

  abbrev entries : List Item
  entries = map (λ e. an_entry e.0 (the_shape t e.1)) t.entries

  contexts_apart : AreApart contexts
  contexts_apart = mapped_apart a_context (λ c d. c ≢ d) t.contexts a.contexts_once (λ c d k l differ e. differ (cc_context e))
    where
      cc_context : {c d : Context} → a_context c ≡ a_context d → c ≡ d
      cc_context e = cc

  edge_row : (k i : ℕ) (p : PointRow) → k ≡ 0 + i → slice_get t.graph.flow.points i ≡ Some p → IsRow (λ k (p : PointRow). p.into) (λ (e : Edge) k. e.to ≡ k) k p
  edge_row k i p e h =
      let v : flow_validity.IsPoint t.graph.flow.vars (length t.graph.flow.points) i p = a.numbering.flow_valid.points i p h in
      record { apart = v.once; tells = λ d c. let to : d.to ≡ i = (v.edges d c).to in omega (arith, to, e) }

  edges_apart : AreApart edges
  edges_apart =
      let rows : AreApart (flat_map (λ (p : PointRow). p.into) t.graph.flow.points) = subst AreApart (edge_rows 0 t.graph.flow.points)
      (rows_apart (λ k (p : PointRow). p.into) (λ (e : Edge) k. e.to ≡ k) (λ e k l f g. sym f ∙ g) 0 t.graph.flow.points edge_row) in
      let between : AreApart (map (edge_at t) (flat_map (λ (p : PointRow). p.into) t.graph.flow.points)) = mapped_apart (edge_at t) (λ d e. d ≢ e) _ rows (λ d e k l differ is. differ (same_edge s t a.numbering d e k l is)) in
      mapped_apart an_edge (λ d e. d ≢ e) _ between (λ d e k l differ is. differ (cc_edge is))
    where
      cc_edge : {d e : EdgeBetween Point Variable Shape} → an_edge d ≡ an_edge e → d ≡ e
      cc_edge e = cc

  fact_row : (k i : ℕ) (row : List Fact) → k ≡ 0 + i → slice_get t.graph.facts i ≡ Some row → IsRow (λ k row. map (fact_at t k) row) (λ (f : FactBetween Point Variable Shape) k. (points s t a.numbering).name f.point ≡ Some k) k row
  fact_row k i row e h =
      let same : k ≡ i = omega (arith, e) in
      let is : row_of (slice_get t.graph.facts k) ≡ row = ap (λ m. row_of (slice_get t.graph.facts m)) same ∙ ap row_of h in
      let stands : (f : Fact) → Contains row f → Contains (row_of (slice_get t.graph.facts k)) f = λ f c. subst (λ r. Contains r f) (sym is) c in
      record {
        apart = mapped_apart (fact_at t k) graph_validity.Differ row (subst (AllPairs graph_validity.Differ) is (a.numbering.graph_valid.once k)) (λ f g c d. facts_differ s t a.numbering k f g (stands f c) (stands g d));
        tells = λ g c. let o : Origin (fact_at t k) row g = map_from (fact_at t k) row g c in
            ap (λ f. (points s t a.numbering).name f.point) (sym o.same) ∙ the_point_name s t a.numbering k (row_point s t a.numbering k o.item (stands o.item o.is));
      }

  facts_apart : AreApart facts
  facts_apart =
      let rows : AreApart (facts_from t 0 t.graph.facts) = subst AreApart (fact_rows t 0 t.graph.facts)
      (rows_apart (λ k row. map (fact_at t k) row) (λ (f : FactBetween Point Variable Shape) k. (points s t a.numbering).name f.point ≡ Some k) (λ f k l x y. some_same (sym x ∙ y)) 0 t.graph.facts fact_row) in
      mapped_apart a_fact (λ f g. f ≢ g) _ rows (λ f g k l differ is. differ (cc_fact is))
    where
      cc_fact : {f g : FactBetween Point Variable Shape} → a_fact f ≡ a_fact g → f ≡ g
      cc_fact e = cc

  entries_apart : AreApart entries
  entries_apart = mapped_apart (λ e. an_entry e.0 (the_shape t e.1)) (λ e f. e ≢ f) t.entries a.entries_once (λ e f k l differ is. differ (same e f k l is))
    where
      cc_place : {p q : Place} {x y : Shape} → an_entry p x ≡ an_entry q y → p ≡ q
      cc_place e = cc

      cc_shape : {p q : Place} {x y : Shape} → an_entry p x ≡ an_entry q y → x ≡ y
      cc_shape e = cc

      same : (e f : Place × ℕ) → Contains t.entries e → Contains t.entries f → an_entry e.0 (the_shape t e.1) ≡ an_entry f.0 (the_shape t f.1) → e ≡ f
      same e f k l is =
          let place : e.0 ≡ f.0 = cc_place is in
          let shape : e.1 ≡ f.1 = no_two t.shapes a.numbering.shapes_once any e.1 f.1 (a.entries_there e k) (a.entries_there f l) (cc_shape is) in
          λ i. (place i, shape i)

  of_contexts : (i : Item) → Contains contexts i → kind i ≡ 0
  of_contexts i c = of_kind a_context 0 (λ x. refl) t.contexts i c

  of_edges : (i : Item) → Contains edges i → kind i ≡ 1
  of_edges i c = of_kind an_edge 1 (λ x. refl) _ i c

  of_facts : (i : Item) → Contains facts i → kind i ≡ 2
  of_facts i c = of_kind a_fact 2 (λ x. refl) _ i c

  of_entries : (i : Item) → Contains entries i → kind i ≡ 3
  of_entries i c = of_kind (λ (e : Place × ℕ). an_entry e.0 (the_shape t e.1)) 3 (λ x. refl) t.entries i c

  facts_on : (i : Item) → Contains (facts ++ entries) i → 2 ≤ kind i
  facts_on i c = elim (Contains-append_cases facts entries i c) [
    | inl d ↦ let e : kind i ≡ 2 = of_facts i d in omega (arith, e)
    | inr d ↦ let e : kind i ≡ 3 = of_entries i d in omega (arith, e)
  ]

  edges_on : (i : Item) → Contains (edges ++ (facts ++ entries)) i → 1 ≤ kind i
  edges_on i c = elim (Contains-append_cases edges (facts ++ entries) i c) [
    | inl d ↦ let e : kind i ≡ 1 = of_edges i d in omega (arith, e)
    | inr d ↦ let e : 2 ≤ kind i = facts_on i d in omega (arith, e)
  ]

  pub items_apart : AllPairs (λ i j. i ≢ j) (items_of t)
  items_apart =
      joined_apart contexts (edges ++ (facts ++ entries)) contexts_apart
      (joined_apart edges (facts ++ entries) edges_apart
      (joined_apart facts entries facts_apart entries_apart (λ i c d. let e : kind i ≡ 2 = of_facts i c in let f : kind i ≡ 3 = of_entries i d in omega (arith, e, f)))
      (λ i c d. let e : kind i ≡ 1 = of_edges i c in let f : 2 ≤ kind i = facts_on i d in omega (arith, e, f)))
      (λ i c d. let e : kind i ≡ 0 = of_contexts i c in let f : 1 ≤ kind i = edges_on i d in omega (arith, e, f))

  pub no_others : (more : List Item) → IsContained (items_of t) more → length more ≤ length (items_of t) → IsContained more (items_of t)
  no_others more within few = record { at = nothing_else (items_of t) more items_apart within.at few }
