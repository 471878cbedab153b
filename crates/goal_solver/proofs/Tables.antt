-- What the world of a graph's tables has.
use Rattle.std.proofs.Common.{◌≡◌, ℕ, suc, zero, ◌+◌, true, Option, Some, None, List, [], ◌∷◌, map, slice_get, ◌⊎◌, inl, inr, refl, sym, ap, subst, ◌∙◌, arith, ◌↔◌}
use Rattle.std.specs.List.{Contains, flat_map, filter}
use Rattle.std.proofs.lemmas.List.Elements.{Contains-append_cases, Contains-append_left, Contains-append_right}
use Rattle.graph_walks.specs.Worlds as worlds
use Rattle.graph_walks.specs.Worlds.{Memory, PassesBy, HasFact, FactGives}
use Rattle.graph_walks.specs.Backs as backs
use Rattle.graph_walks.specs.Backs.{Asks, asked}
use Rattle.graph_walks.proofs.Lists.{empty, only, first, got, Stands, stands, filter_keeps, filter_from, map_has, Origin, map_from, flat_map_has, Part, flat_map_from}
use Rattle.flow_graph.specs.declared.edge.Truth.{Truth}
use Rattle.flow_graph.specs.declared.edge.Truth.TheVariants.{Yes, No, Both}
use Rattle.flow_graph.specs.declared.edge.Test.{Test}
use Rattle.flow_graph.specs.declared.edge.Test.TheVariants.{MayBeTrue, MayBeFalse, Is}
use Rattle.flow_graph.specs.declared.edge.Ask.{Ask}
use Rattle.flow_graph.specs.declared.edge.Edge.{Edge}
use Rattle.flow_graph.specs.Flows.{PointRow, into_of}
use Rattle.flow_graph.specs.Validity as flows
use Rattle.typegraph.specs.declared.fact.Fact.{Fact}
use Rattle.typegraph.specs.declared.goals.Binding.{Binding}
use Rattle.typegraph.specs.Maps.{look}
use Rattle.typegraph.specs.Graphs.{GraphTables, row_of, IsGiven}
use Rattle.typegraph.proofs.Looks.{equal, equal_as}
use Rattle.goal_solver.specs.Graphs.{truth_as, test_as, ask_as, edge_as, fact_as, facts_from, world_of}
use Rattle.goal_solver.specs.Backs.{may_be_true, may_be_false, passes_test, pair_of, AreAsked}

-- facts by their rows
facts_to : (n : ℕ) (rows : List (List Fact)) (k : ℕ) (f : Fact) → Contains (row_of (slice_get rows k)) f → Contains (facts_from n rows) (fact_as (n + k) f)
facts_to n [] k f c = empty f c
facts_to n (row ∷ rows) zero f c =
    let e : n + zero ≡ n = omega arith in
    Contains-append_left (map (fact_as n) row) (facts_from (suc n) rows) (fact_as (n + zero) f) (subst (λ m. Contains (map (fact_as n) row) (fact_as m f)) (sym e) (map_has (fact_as n) row f c))
facts_to n (row ∷ rows) (suc k) f c =
    let e : suc n + k ≡ n + suc k = omega arith in
    Contains-append_right (map (fact_as n) row) (facts_from (suc n) rows) (fact_as (n + suc k) f) (subst (λ m. Contains (facts_from (suc n) rows) (fact_as m f)) e (facts_to (suc n) rows k f c))

record RowFact (n : ℕ) (rows : List (List Fact)) (f : worlds.Fact ℕ ℕ ℕ) : Type 0 where
  place : ℕ
  fact : Fact
  is : Contains (row_of (slice_get rows place)) fact
  same : fact_as (n + place) fact ≡ f

facts_back : (n : ℕ) (rows : List (List Fact)) (f : worlds.Fact ℕ ℕ ℕ) → Contains (facts_from n rows) f → RowFact n rows f
facts_back n [] f c = empty f c
facts_back n (row ∷ rows) f c = go (Contains-append_cases (map (fact_as n) row) (facts_from (suc n) rows) f c) (facts_back (suc n) rows f)
  where
    here : Origin (fact_as n) row f → RowFact n (row ∷ rows) f
    here o = let e : n + zero ≡ n = omega arith in record { place = zero; fact = o.item; is = o.is; same = ap (λ m. fact_as m o.item) e ∙ o.same }

    there : RowFact (suc n) rows f → RowFact n (row ∷ rows) f
    there r = let e : n + suc r.place ≡ suc n + r.place = omega arith in record { place = suc r.place; fact = r.fact; is = r.is; same = ap (λ m. fact_as m r.fact) e ∙ r.same }

    go : Contains (map (fact_as n) row) f ⊎ Contains (facts_from (suc n) rows) f → (Contains (facts_from (suc n) rows) f → RowFact (suc n) rows f) → RowFact n (row ∷ rows) f
    go (inl d) more = here (map_from (fact_as n) row f d)
    go (inr d) more = there (more d)

-- a fact of the world stands in its point's row
pub record FactHere (g : GraphTables) (p s : ℕ) (source : Memory ℕ ℕ) : Type 0 where
  pub fact : Fact
  pub is : Contains (row_of (slice_get g.facts p)) fact
  pub shape : fact.shape ≡ s
  pub source_is : look fact.source ≡ source

pub fact_here : (g : GraphTables) (p s : ℕ) (source : Memory ℕ ℕ) → HasFact (world_of g) p s source → FactHere g p s source
fact_here g p s source h =
    let r : RowFact 0 g.facts (record { point = p; shape = s; source = source }) = facts_back 0 g.facts _ h in
    let place : r.place ≡ p = omega (arith, ap (λ f. f.point) r.same) in
    record {
      fact = r.fact;
      is = subst (λ k. Contains (row_of (slice_get g.facts k)) r.fact) place r.is;
      shape = ap (λ f. f.shape) r.same;
      source_is = ap (λ f. f.source) r.same;
    }

pub fact_world : (g : GraphTables) (p : ℕ) (f : Fact) → Contains (row_of (slice_get g.facts p)) f → HasFact (world_of g) p f.shape (look f.source)
fact_world g p f c = let e : 0 + p ≡ p = omega arith in subst (λ k. Contains (facts_from 0 g.facts) (fact_as k f)) e (facts_to 0 g.facts p f c)

pub gives_by_given : (g : GraphTables) (v s : ℕ) → IsGiven g v s → FactGives (world_of g) v s
gives_by_given g v s i = record { point = i.point; source = look i.fact.source; target = i.target; fact = subst (λ t. HasFact (world_of g) i.point t (look i.fact.source)) i.shape_is (fact_world g i.point i.fact i.is) }

pub given_by_gives : (g : GraphTables) (v s : ℕ) → FactGives (world_of g) v s → IsGiven g v s
given_by_gives g v s h = let f : FactHere g h.point s h.source = fact_here g h.point s h.source h.fact in record { point = h.point; fact = f.fact; target = h.target; is = f.is; shape_is = f.shape }

-- an edge of the world stands at its end
pub edge_world : (g : GraphTables) (p : ℕ) (e : Edge) → Contains (into_of (slice_get g.flow.points p)) e → Contains (world_of g).edges (edge_as e)
edge_world g p e c = map_has edge_as (flat_map (λ r. r.into) g.flow.points) e (go (slice_get g.flow.points p) refl c)
  where
    go : (o : Option PointRow) → slice_get g.flow.points p ≡ o → Contains (into_of o) e → Contains (flat_map (λ r. r.into) g.flow.points) e
    go None i c = empty e c
    go (Some row) i c = flat_map_has (λ r. r.into) g.flow.points row e (got g.flow.points p row i) c

pub record EdgeHere (g : GraphTables) (e : worlds.Edge ℕ ℕ ℕ) : Type 0 where
  pub edge : Edge
  pub same : edge_as edge ≡ e
  pub is : Contains (into_of (slice_get g.flow.points e.to)) edge

pub edge_here : (g : GraphTables) → flows.IsValid g.flow → (e : worlds.Edge ℕ ℕ ℕ) → Contains (world_of g).edges e → EdgeHere g e
edge_here g valid e c = by_row (map_from edge_as (flat_map (λ r. r.into) g.flow.points) e c)
  where
    at : (o : Origin edge_as (flat_map (λ r. r.into) g.flow.points) e) (q : Part (λ r. r.into) g.flow.points o.item) → Stands g.flow.points q.item → EdgeHere g e
    at o q s =
        let to : o.item.to ≡ s.place = ((valid.points s.place q.item s.at).edges o.item q.part).to in
        let place : s.place ≡ e.to = sym to ∙ ap (λ x. x.to) o.same in
        record {
          edge = o.item;
          same = o.same;
          is = subst (λ k. Contains (into_of (slice_get g.flow.points k)) o.item) place (subst (λ r. Contains (into_of r) o.item) (sym s.at) q.part);
        }

    by_row : Origin edge_as (flat_map (λ r. r.into) g.flow.points) e → EdgeHere g e
    by_row o = let q : Part (λ r. r.into) g.flow.points o.item = flat_map_from (λ r. r.into) g.flow.points o.item o.is in at o q (stands g.flow.points q.item q.is)

-- the tests
true_passes : (t : Option Truth) → may_be_true t ≡ true → (truth_as t ≡ Some worlds.Yes) ⊎ (truth_as t ≡ Some worlds.Both)
true_passes None h = cc
true_passes (Some Yes) h = inl refl
true_passes (Some No) h = cc
true_passes (Some Both) h = inr refl

false_passes : (t : Option Truth) → may_be_false t ≡ true → (truth_as t ≡ Some worlds.No) ⊎ (truth_as t ≡ Some worlds.Both)
false_passes None h = cc
false_passes (Some Yes) h = cc
false_passes (Some No) h = inl refl
false_passes (Some Both) h = inr refl

passed_true : (t : Option Truth) → (truth_as t ≡ Some worlds.Yes) ⊎ (truth_as t ≡ Some worlds.Both) → may_be_true t ≡ true
passed_true None (inl h) = cc
passed_true None (inr h) = cc
passed_true (Some Yes) h = refl
passed_true (Some No) (inl h) = cc
passed_true (Some No) (inr h) = cc
passed_true (Some Both) h = refl

passed_false : (t : Option Truth) → (truth_as t ≡ Some worlds.No) ⊎ (truth_as t ≡ Some worlds.Both) → may_be_false t ≡ true
passed_false None (inl h) = cc
passed_false None (inr h) = cc
passed_false (Some Yes) (inl h) = cc
passed_false (Some Yes) (inr h) = cc
passed_false (Some No) h = refl
passed_false (Some Both) h = refl

module _ (g : GraphTables) where
  passes_by : (t : Test) (s : ℕ) → passes_test g.truths t s ≡ true → PassesBy (world_of g).truth (test_as t) s
  passes_by MayBeTrue s h = true_passes (slice_get g.truths s) h
  passes_by MayBeFalse s h = false_passes (slice_get g.truths s) h
  passes_by (Is u) s h = equal s u h

  passed_by : (t : Test) (s : ℕ) → PassesBy (world_of g).truth (test_as t) s → passes_test g.truths t s ≡ true
  passed_by MayBeTrue s h = passed_true (slice_get g.truths s) h
  passed_by MayBeFalse s h = passed_false (slice_get g.truths s) h
  passed_by (Is u) s h = equal_as s u h

  pub asked_none : (pairs : List (Option Binding)) → pairs ≡ None ∷ [] → AreAsked g None pairs
  asked_none pairs e =
      record {
        sound = λ pair c. subst (λ p. Asks (world_of g) None (pair_of p)) (sym (only None pair (subst (λ ps. Contains ps pair) e c))) backs.unasked;
        complete = λ pair a. complete pair a;
      }
    where
      complete : (pair : Option (ℕ × ℕ)) → Asks (world_of g) None pair → (b : Option Binding) × Contains pairs b × (pair_of b ≡ pair)
      complete pair backs.unasked = (None, subst (λ ps. Contains ps None) (sym e) (first None []), refl)

  pub asked_some : (a : Ask) (shapes : List ℕ) → ((s : ℕ) → Contains shapes s ↔ IsGiven g a.var s) → AreAsked g (Some a) (map (λ s. Some (record { var = a.var; shape = s })) (filter (passes_test g.truths a.test) shapes))
  asked_some a shapes given = record { sound = sound; complete = complete }
    where
      sound : (pair : Option Binding) → Contains (map (λ s. Some (record { var = a.var; shape = s })) (filter (passes_test g.truths a.test) shapes)) pair → Asks (world_of g) (ask_as (Some a)) (pair_of pair)
      sound pair c =
          let o : Origin (λ s. Some (record { var = a.var; shape = s })) (filter (passes_test g.truths a.test) shapes) pair = map_from _ _ pair c in
          let f : (passes_test g.truths a.test o.item ≡ true) × Contains shapes o.item = filter_from (passes_test g.truths a.test) shapes o.item o.is in
          subst (λ p. Asks (world_of g) (ask_as (Some a)) (pair_of p)) o.same
          (asked (record { var = a.var; test = test_as a.test }) o.item (passes_by a.test o.item f.0) (gives_by_given g a.var o.item ((given o.item).0 f.1)))

      complete : (pair : Option (ℕ × ℕ)) → Asks (world_of g) (ask_as (Some a)) pair → (b : Option Binding) × Contains (map (λ s. Some (record { var = a.var; shape = s })) (filter (passes_test g.truths a.test) shapes)) b × (pair_of b ≡ pair)
      complete pair (asked b s p h) = (
        Some (record { var = a.var; shape = s }),
        map_has (λ s. Some (record { var = a.var; shape = s })) (filter (passes_test g.truths a.test) shapes) s
            (filter_keeps (passes_test g.truths a.test) shapes s (passed_by a.test s p) ((given s).1 (given_by_gives g a.var s h))),
        refl,
      )
