-- Each item of tables is one of its contexts, edges, facts or entries, and each of these is an item.
use Rattle.std.proofs.Common.{◌≡◌, ℕ, suc, zero, ◌+◌, ◌<◌, Some, List, [], ◌∷◌, ◌++◌, map, length, slice_get, inl, inr, refl, sym, ap, subst, ◌∙◌, arith}
use Rattle.std.specs.Option.{unwrap_or}
use Rattle.std.specs.List.{Contains, flat_map}
use Rattle.std.proofs.lemmas.List.Elements.{Contains-append_cases, Contains-append_left, Contains-append_right}
use Rattle.graph_walks.specs.Worlds.{Fact as FactBetween}
use Rattle.graph_walks.proofs.Lists.{empty, map_has, Origin, map_from}
use Rattle.flow_graph.specs.declared.edge.Edge.{Edge}
use Rattle.flow_graph.specs.Flows.{PointRow}
use Rattle.typegraph.specs.declared.fact.Fact.{Fact}
use Rattle.typegraph.specs.Graphs.{row_of}
use Rattle.abstract_shapes.specs.declared.place.Place.{Place}
use Rattle.abstract_shapes.specs.Shapes.{Shape}
use Rattle.world_rules.specs.Places.{Context, Variable, Point}
use Rattle.world_rules.specs.Items.{Item, a_context, an_edge, a_fact, an_entry}
use Rattle.world_tables.specs.Tables.{Tables, the_shape, edge_at, fact_at, facts_from, items_of}

-- what stands at a number that is there
pub there : {X : Type 0} (xs : List X) (k : ℕ) (d : X) → k < length xs → slice_get xs k ≡ Some (unwrap_or (slice_get xs k) d)
there [] k d h = absurd (omega arith)
there (x ∷ xs) zero d h = refl
there (x ∷ xs) (suc k) d h = there xs k d (omega arith)

pub below : {X : Type 0} (xs : List X) (k : ℕ) (x : X) → slice_get xs k ≡ Some x → k < length xs
below [] k x h = cc
below (y ∷ xs) zero x h = omega arith
below (y ∷ xs) (suc k) x h = let l : k < length xs = below xs k x h in omega (arith, l)

-- an item, by the part of the tables that it comes from
pub data In (t : Tables) : Item → Type 0 where
  in_contexts : (c : Context) → Contains t.contexts c → In t (a_context c)
  in_edges : (e : Edge) → Contains (flat_map (λ (p : PointRow). p.into) t.graph.flow.points) e → In t (an_edge (edge_at t e))
  in_facts : (p : ℕ) (f : Fact) → Contains (row_of (slice_get t.graph.facts p)) f → In t (a_fact (fact_at t p f))
  in_entries : (e : Place × ℕ) → Contains t.entries e → In t (an_entry e.0 (the_shape t e.1))

-- ---- facts in rows

-- a fact of some row, of which the first has this number
record FromRow (t : Tables) (n : ℕ) (rows : List (List Fact)) (f : FactBetween Point Variable Shape) : Type 0 where
  place : ℕ
  fact : Fact
  is : Contains (row_of (slice_get rows place)) fact
  same : fact_at t (n + place) fact ≡ f

from_first : (t : Tables) (n : ℕ) (row : List Fact) (rows : List (List Fact)) (f : FactBetween Point Variable Shape) → Origin (fact_at t n) row f → FromRow t n (row ∷ rows) f
from_first t n row rows f o = let z : n + zero ≡ n = omega arith in record { place = zero; fact = o.item; is = o.is; same = ap (λ m. fact_at t m o.item) z ∙ o.same }

from_later : (t : Tables) (n : ℕ) (row : List Fact) (rows : List (List Fact)) (f : FactBetween Point Variable Shape) → FromRow t (suc n) rows f → FromRow t n (row ∷ rows) f
from_later t n row rows f r = let z : n + suc r.place ≡ suc n + r.place = omega arith in record { place = suc r.place; fact = r.fact; is = r.is; same = ap (λ m. fact_at t m r.fact) z ∙ r.same }

from_rows : (t : Tables) (n : ℕ) (rows : List (List Fact)) (f : FactBetween Point Variable Shape) → Contains (facts_from t n rows) f → FromRow t n rows f
from_rows t n [] f c = empty f c
from_rows t n (row ∷ rows) f c =
    elim (Contains-append_cases (map (fact_at t n) row) (facts_from t (suc n) rows) f c) [
      | inl d ↦ from_first t n row rows f (map_from (fact_at t n) row f d)
      | inr d ↦ from_later t n row rows f (from_rows t (suc n) rows f d)
    ]

in_rows : (t : Tables) (n m : ℕ) (rows : List (List Fact)) (k : ℕ) (f : Fact) → m ≡ n + k → Contains (row_of (slice_get rows k)) f → Contains (facts_from t n rows) (fact_at t m f)
in_rows t n m [] k f e c = empty f c
in_rows t n m (row ∷ rows) zero f e c =
    let z : m ≡ n = omega (arith, e) in
    Contains-append_left _ (facts_from t (suc n) rows) _ (subst (λ q. Contains (map (fact_at t n) row) (fact_at t q f)) (sym z) (map_has (fact_at t n) row f c))
in_rows t n m (row ∷ rows) (suc k) f e c = let z : m ≡ suc n + k = omega (arith, e) in Contains-append_right (map (fact_at t n) row) _ _ (in_rows t (suc n) m rows k f z c)

-- ---- the four parts

module _ (a b c d : List Item) where
  data Quarter (i : Item) : Type 0 where
    first_quarter : Contains a i → Quarter i
    second_quarter : Contains b i → Quarter i
    third_quarter : Contains c i → Quarter i
    last_quarter : Contains d i → Quarter i

  quarter : (i : Item) → Contains (a ++ (b ++ (c ++ d))) i → Quarter i
  quarter i k =
      elim (Contains-append_cases a (b ++ (c ++ d)) i k) [
        | inl l ↦ first_quarter l
        | inr l ↦ elim (Contains-append_cases b (c ++ d) i l) [
          | inl m ↦ second_quarter m
          | inr m ↦ elim (Contains-append_cases c d i m) [ inl n ↦ third_quarter n | inr n ↦ last_quarter n ]
        ]
      ]

  from_quarter : (i : Item) → Quarter i → Contains (a ++ (b ++ (c ++ d))) i
  from_quarter i (first_quarter k) = Contains-append_left a _ i k
  from_quarter i (second_quarter k) = Contains-append_right a _ i (Contains-append_left b _ i k)
  from_quarter i (third_quarter k) = Contains-append_right a _ i (Contains-append_right b _ i (Contains-append_left c d i k))
  from_quarter i (last_quarter k) = Contains-append_right a _ i (Contains-append_right b _ i (Contains-append_right c d i k))

module _ (t : Tables) where
  abbrev contexts : List Item
  contexts = map a_context t.contexts

  abbrev edges : List Item
  edges = map an_edge (map (edge_at t) (flat_map (λ p. p.into) t.graph.flow.points))

  abbrev facts : List Item
  facts = map a_fact (facts_from t 0 t.graph.facts)

  abbrev entries : List Item
  entries = map (λ e. an_entry e.0 (the_shape t e.1)) t.entries

  edge_in : (i : Item) → Origin an_edge (map (edge_at t) (flat_map (λ p. p.into) t.graph.flow.points)) i → In t i
  edge_in i o =
      let q : Origin (edge_at t) (flat_map (λ p. p.into) t.graph.flow.points) o.item = map_from _ _ _ o.is in
      subst (In t) (ap an_edge q.same ∙ o.same) (in_edges q.item q.is)

  fact_in : (i : Item) → Origin a_fact (facts_from t 0 t.graph.facts) i → In t i
  fact_in i o =
      let r : FromRow t 0 t.graph.facts o.item = from_rows t 0 t.graph.facts o.item o.is in
      let z : r.place ≡ 0 + r.place = omega arith in
      subst (In t) (ap (λ m. a_fact (fact_at t m r.fact)) z ∙ ap a_fact r.same ∙ o.same) (in_facts r.place r.fact r.is)

  by_quarter : (i : Item) → Quarter contexts edges facts entries i → In t i
  by_quarter i (first_quarter k) = let o : Origin a_context t.contexts i = map_from _ _ i k in subst (In t) o.same (in_contexts o.item o.is)
  by_quarter i (second_quarter k) = edge_in i (map_from _ _ i k)
  by_quarter i (third_quarter k) = fact_in i (map_from _ _ i k)
  by_quarter i (last_quarter k) = let o : Origin (λ e. an_entry e.0 (the_shape t e.1)) t.entries i = map_from _ _ i k in subst (In t) o.same (in_entries o.item o.is)

  pub items_in : (i : Item) → Contains (items_of t) i → In t i
  items_in i k = by_quarter i (quarter contexts edges facts entries i k)

  pub has_known : (c : Context) → Contains t.contexts c → Contains (items_of t) (a_context c)
  has_known c k = from_quarter contexts edges facts entries _ (first_quarter (map_has a_context t.contexts c k))

  pub has_edge : (e : Edge) → Contains (flat_map (λ (p : PointRow). p.into) t.graph.flow.points) e → Contains (items_of t) (an_edge (edge_at t e))
  has_edge e k = from_quarter contexts edges facts entries _ (second_quarter (map_has an_edge _ _ (map_has (edge_at t) _ e k)))

  pub has_fact : (p : ℕ) (f : Fact) → Contains (row_of (slice_get t.graph.facts p)) f → Contains (items_of t) (a_fact (fact_at t p f))
  has_fact p f k = let z : p ≡ 0 + p = omega arith in from_quarter contexts edges facts entries _ (third_quarter (map_has a_fact _ _ (in_rows t 0 p t.graph.facts p f z k)))

  pub has_entry : (e : Place × ℕ) → Contains t.entries e → Contains (items_of t) (an_entry e.0 (the_shape t e.1))
  has_entry e k = from_quarter contexts edges facts entries _ (last_quarter (map_has (λ e. an_entry e.0 (the_shape t e.1)) _ e k))

  -- what every item has
  pub each_item : (P : Item → Type 0) → ((i : Item) → In t i → P i) → (i : Item) → Contains (items_of t) i → P i
  each_item P h i k = h i (items_in i k)
