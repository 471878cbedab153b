-- Each addition to a graph leaves a world that has all of the world before.
use Rattle.std.proofs.Common.{◌≡◌, ℕ, suc, zero, ◌<◌, Bool, true, false, Option, Some, None, List, [], ◌∷◌, ◌++◌, map, length, slice_get, ◌⊎◌, inl, inr, refl, sym, ap, subst, arith, IsTrue}
use Rattle.std.specs.List.{Contains, flat_map}
use Rattle.std.proofs.lemmas.List.Elements.{Contains-append_cases, Contains-append_left, Contains-append_right}
use Rattle.graph_walks.specs.Worlds as worlds
use Rattle.graph_walks.specs.Worlds.{World}
use Rattle.graph_walks.specs.Growth.{IsWithin}
use Rattle.graph_walks.proofs.Lists.{empty, map_has, Origin, map_from}
use Rattle.flow_graph.specs.declared.edge.Truth.{Truth}
use Rattle.flow_graph.specs.declared.edge.Edge.{Edge}
use Rattle.flow_graph.specs.Flows.{PointRow, root_of, into_of, changed_at, with_point, with_edge}
use Rattle.flow_graph.specs.Validity as flows
use Rattle.flow_graph.proofs.Valid.{pushed, fresh_row}
use Rattle.typegraph.specs.declared.fact.Fact.{Fact}
use Rattle.typegraph.specs.Graphs.{GraphTables, push_fact, with_flow, with_row, with_shape, with_fact}
use Rattle.typegraph.specs.Validity.{IsValid}
use Rattle.typegraph.proofs.Tables.{row_within, target_push_back, target_changed}
use Rattle.goal_solver.specs.Graphs.{truth_as, edge_as, fact_as, facts_from, world_of}
use Rattle.goal_solver.proofs.Tables.{EdgeHere, edge_here, FactHere, fact_here}

pub within_itself : (w : World ℕ ℕ ℕ) → IsWithin w w
within_itself w = record { edges = λ e c. c; facts = λ f c. c; edge_targets = λ e c. refl; fact_targets = λ f c. refl; roots = λ p r. r; truths = λ s t h. h }

truth_push : (truths : List Truth) (x : Truth) (s : ℕ) (t : worlds.Truth) → truth_as (slice_get truths s) ≡ Some t → truth_as (slice_get (truths ++ x ∷ []) s) ≡ Some t
truth_push [] x s t h = cc
truth_push (y ∷ truths) x zero t h = h
truth_push (y ∷ truths) x (suc s) t h = truth_push truths x s t h

pub within_shape : (g : GraphTables) (truth : Truth) → IsWithin (world_of g) (world_of (with_shape truth g))
within_shape g truth = record { edges = λ e c. c; facts = λ f c. c; edge_targets = λ e c. refl; fact_targets = λ f c. refl; roots = λ p r. r; truths = λ s t h. truth_push g.truths truth s t h }

into_stays : (edge : Edge) (points : List PointRow) (i : ℕ) (e : Edge) → Contains (flat_map (λ p. p.into) points) e → Contains (flat_map (λ p. p.into) (changed_at (pushed edge) points i)) e
into_stays edge [] i e c = c
into_stays edge (p ∷ points) zero e c = go (Contains-append_cases p.into (flat_map (λ p. p.into) points) e c)
  where
    go : Contains p.into e ⊎ Contains (flat_map (λ p. p.into) points) e → Contains ((p.into ++ edge ∷ []) ++ flat_map (λ p. p.into) points) e
    go (inl d) = Contains-append_left (p.into ++ edge ∷ []) (flat_map (λ p. p.into) points) e (Contains-append_left p.into (edge ∷ []) e d)
    go (inr d) = Contains-append_right (p.into ++ edge ∷ []) (flat_map (λ p. p.into) points) e d
into_stays edge (p ∷ points) (suc i) e c = go (Contains-append_cases p.into (flat_map (λ p. p.into) points) e c) (into_stays edge points i e)
  where
    go : Contains p.into e ⊎ Contains (flat_map (λ p. p.into) points) e → (Contains (flat_map (λ p. p.into) points) e → Contains (flat_map (λ p. p.into) (changed_at (pushed edge) points i)) e) → Contains (p.into ++ flat_map (λ p. p.into) (changed_at (pushed edge) points i)) e
    go (inl d) more = Contains-append_left p.into (flat_map (λ p. p.into) (changed_at (pushed edge) points i)) e d
    go (inr d) more = Contains-append_right p.into (flat_map (λ p. p.into) (changed_at (pushed edge) points i)) e (more d)

edge_by : (es fs : List Edge) → ((e : Edge) → Contains es e → Contains fs e) → (x : worlds.Edge ℕ ℕ ℕ) → Contains (map edge_as es) x → Contains (map edge_as fs) x
edge_by es fs f x c = go (map_from edge_as es x c)
  where
    go : Origin edge_as es x → Contains (map edge_as fs) x
    go o = subst (λ z. Contains (map edge_as fs) z) o.same (map_has edge_as fs o.item (f o.item o.is))

root_changed : (edge : Edge) (points : List PointRow) (i p : ℕ) → IsTrue (root_of (slice_get points p)) → IsTrue (root_of (slice_get (changed_at (pushed edge) points i) p))
root_changed edge [] i p h = h
root_changed edge (q ∷ points) zero zero h = h
root_changed edge (q ∷ points) zero (suc p) h = h
root_changed edge (q ∷ points) (suc i) zero h = h
root_changed edge (q ∷ points) (suc i) (suc p) h = root_changed edge points i p h

pub within_edge : (g : GraphTables) (edge : Edge) → IsWithin (world_of g) (world_of (with_flow (with_edge edge g.flow) g))
within_edge g edge =
    record {
      edges = edge_by (flat_map (λ p. p.into) g.flow.points) (flat_map (λ p. p.into) (changed_at (pushed edge) g.flow.points edge.to)) (into_stays edge g.flow.points edge.to);
      facts = λ f c. c;
      edge_targets = λ e c. sym (target_changed edge g.flow.points edge.to e.from);
      fact_targets = λ f c. sym (target_changed edge g.flow.points edge.to f.point);
      roots = λ p r. root_changed edge g.flow.points edge.to p r;
      truths = λ s t h. h;
    }

facts_stay : (fact : Fact) (n : ℕ) (rows : List (List Fact)) (i : ℕ) (f : worlds.Fact ℕ ℕ ℕ) → Contains (facts_from n rows) f → Contains (facts_from n (changed_at (push_fact fact) rows i)) f
facts_stay fact n [] i f c = c
facts_stay fact n (row ∷ rows) zero f c = go (Contains-append_cases (map (fact_as n) row) (facts_from (suc n) rows) f c)
  where
    longer : Origin (fact_as n) row f → Contains (map (fact_as n) (row ++ fact ∷ [])) f
    longer o = subst (λ z. Contains (map (fact_as n) (row ++ fact ∷ [])) z) o.same (map_has (fact_as n) (row ++ fact ∷ []) o.item (Contains-append_left row (fact ∷ []) o.item o.is))

    go : Contains (map (fact_as n) row) f ⊎ Contains (facts_from (suc n) rows) f → Contains (map (fact_as n) (row ++ fact ∷ []) ++ facts_from (suc n) rows) f
    go (inl d) = Contains-append_left (map (fact_as n) (row ++ fact ∷ [])) (facts_from (suc n) rows) f (longer (map_from (fact_as n) row f d))
    go (inr d) = Contains-append_right (map (fact_as n) (row ++ fact ∷ [])) (facts_from (suc n) rows) f d
facts_stay fact n (row ∷ rows) (suc i) f c = go (Contains-append_cases (map (fact_as n) row) (facts_from (suc n) rows) f c) (facts_stay fact (suc n) rows i f)
  where
    go : Contains (map (fact_as n) row) f ⊎ Contains (facts_from (suc n) rows) f → (Contains (facts_from (suc n) rows) f → Contains (facts_from (suc n) (changed_at (push_fact fact) rows i)) f) → Contains (map (fact_as n) row ++ facts_from (suc n) (changed_at (push_fact fact) rows i)) f
    go (inl d) more = Contains-append_left (map (fact_as n) row) (facts_from (suc n) (changed_at (push_fact fact) rows i)) f d
    go (inr d) more = Contains-append_right (map (fact_as n) row) (facts_from (suc n) (changed_at (push_fact fact) rows i)) f (more d)

pub within_fact : (g : GraphTables) (point : ℕ) (fact : Fact) → IsWithin (world_of g) (world_of (with_fact point fact g))
within_fact g point fact = record { edges = λ e c. c; facts = λ f c. facts_stay fact 0 g.facts point f c; edge_targets = λ e c. refl; fact_targets = λ f c. refl; roots = λ p r. r; truths = λ s t h. h }

into_push_stays : (points : List PointRow) (row : PointRow) (e : Edge) → Contains (flat_map (λ p. p.into) points) e → Contains (flat_map (λ p. p.into) (points ++ row ∷ [])) e
into_push_stays [] row e c = empty e c
into_push_stays (p ∷ points) row e c = go (Contains-append_cases p.into (flat_map (λ p. p.into) points) e c) (into_push_stays points row e)
  where
    go : Contains p.into e ⊎ Contains (flat_map (λ p. p.into) points) e → (Contains (flat_map (λ p. p.into) points) e → Contains (flat_map (λ p. p.into) (points ++ row ∷ [])) e) → Contains (p.into ++ flat_map (λ p. p.into) (points ++ row ∷ [])) e
    go (inl d) more = Contains-append_left p.into (flat_map (λ p. p.into) (points ++ row ∷ [])) e d
    go (inr d) more = Contains-append_right p.into (flat_map (λ p. p.into) (points ++ row ∷ [])) e (more d)

root_push : (points : List PointRow) (row : PointRow) (p : ℕ) → IsTrue (root_of (slice_get points p)) → IsTrue (root_of (slice_get (points ++ row ∷ []) p))
root_push [] row p h = let k : false ≡ true = h in cc
root_push (q ∷ points) row zero h = h
root_push (q ∷ points) row (suc p) h = root_push points row p h

facts_push_stay : (n : ℕ) (rows : List (List Fact)) (f : worlds.Fact ℕ ℕ ℕ) → Contains (facts_from n rows) f → Contains (facts_from n (rows ++ [] ∷ [])) f
facts_push_stay n [] f c = empty f c
facts_push_stay n (row ∷ rows) f c = go (Contains-append_cases (map (fact_as n) row) (facts_from (suc n) rows) f c) (facts_push_stay (suc n) rows f)
  where
    go : Contains (map (fact_as n) row) f ⊎ Contains (facts_from (suc n) rows) f → (Contains (facts_from (suc n) rows) f → Contains (facts_from (suc n) (rows ++ [] ∷ [])) f) → Contains (map (fact_as n) row ++ facts_from (suc n) (rows ++ [] ∷ [])) f
    go (inl d) more = Contains-append_left (map (fact_as n) row) (facts_from (suc n) (rows ++ [] ∷ [])) f d
    go (inr d) more = Contains-append_right (map (fact_as n) row) (facts_from (suc n) (rows ++ [] ∷ [])) f (more d)

pub within_point : (g : GraphTables) (target : Option ℕ) (root : Bool) → flows.IsValid g.flow → IsValid g → IsWithin (world_of g) (world_of (with_row (with_point target root g.flow) g))
within_point g target root flow valid =
    record {
      edges = edge_by (flat_map (λ p. p.into) g.flow.points) (flat_map (λ p. p.into) (g.flow.points ++ fresh_row target root ∷ [])) (into_push_stays g.flow.points (fresh_row target root));
      facts = facts_push_stay 0 g.facts;
      edge_targets = λ e c. sym (target_push_back g.flow.points (fresh_row target root) e.from (from_there e (edge_here g flow e c)));
      fact_targets = λ f c. sym (target_push_back g.flow.points (fresh_row target root) f.point (point_there f (fact_here g f.point f.shape f.source c)));
      roots = λ p r. root_push g.flow.points (fresh_row target root) p r;
      truths = λ s t h. h;
    }
  where
    from_there : (e : worlds.Edge ℕ ℕ ℕ) → EdgeHere g e → e.from < length g.flow.points
    from_there e h = go (slice_get g.flow.points e.to) refl h.is
      where
        at : h.edge.from < length g.flow.points → e.from < length g.flow.points
        at l = omega (arith, l, ap (λ x. x.from) h.same)

        go : (o : Option PointRow) → slice_get g.flow.points e.to ≡ o → Contains (into_of o) h.edge → e.from < length g.flow.points
        go None i c = empty h.edge c
        go (Some row) i c = at ((flow.points e.to row i).edges h.edge c).from

    point_there : (f : worlds.Fact ℕ ℕ ℕ) → FactHere g f.point f.shape f.source → f.point < length g.flow.points
    point_there f h = let l : f.point < length g.facts = row_within g.facts f.point h.fact h.is in omega (arith, l, valid.rows)
