-- Rows that grow at their end or get an edge more.
use Rattle.std.proofs.Common.{◌≡◌, ℕ, suc, zero, ◌<◌, ◌≤◌, List, [], ◌∷◌, ◌++◌, length, map, take, slice_get, Option, Some, None, ◌⊎◌, inl, inr, refl, sym, ap, subst, ◌∙◌, arith}
use Rattle.std.specs.List.{Contains, flat_map}
use Rattle.graph_walks.proofs.Lists as lists
use Rattle.graph_walks.proofs.Lists.{empty, got, stands, Part, flat_map_from, flat_map_has}
use Rattle.flow_graph.specs.declared.edge.Edge.{Edge}
use Rattle.flow_graph.specs.Flows.{PointRow, changed_at, into_of}
use Rattle.flow_graph.proofs.Valid.{pushed}
use Rattle.typegraph.specs.Graphs.{row_of}
use Rattle.typegraph.proofs.Tables.{into_changed}
use Rattle.world_tables.proofs.Items.{below}
use Rattle.world_tables.proofs.Lists.{get_old, still_there, there_now, old_or_last}

-- ---- lists with one more

module _ {X : Type 0} where
  pub still_at : (xs : List X) (x y : X) (k : ℕ) → slice_get xs k ≡ Some y → slice_get (xs ++ x ∷ []) k ≡ Some y
  still_at xs x y k e = get_old xs x k (below xs k y e) ∙ e

  -- a row more that is empty changes no row
  pub row_still : (rows : List (List X)) (k : ℕ) → row_of (slice_get (rows ++ [] ∷ []) k) ≡ row_of (slice_get rows k)
  row_still [] zero = refl
  row_still [] (suc k) = refl
  row_still (row ∷ rows) zero = refl
  row_still (row ∷ rows) (suc k) = row_still rows k

  pub mapped_at : {Y : Type 0} (f : X → Y) (xs : List X) (x : X) (k : ℕ) → slice_get xs k ≡ Some x → slice_get (map f xs) k ≡ Some (f x)
  mapped_at f [] x k e = cc
  mapped_at f (y ∷ xs) x zero e = let same : y ≡ x = cc in ap (λ z. Some (f z)) same
  mapped_at f (y ∷ xs) x (suc k) e = mapped_at f xs x k e

  pub take_all : (n : ℕ) (xs : List X) → length xs ≤ n → take n xs ≡ xs
  take_all zero [] l = refl
  take_all zero (x ∷ xs) l = absurd (omega (arith, l))
  take_all (suc n) [] l = refl
  take_all (suc n) (x ∷ xs) l = ap (λ ys. x ∷ ys) (take_all n xs (omega (arith, l)))

-- ---- rows of edges

module _ (points : List PointRow) where
  -- an edge of some row is one of all
  pub in_row : (k : ℕ) (e : Edge) → Contains (into_of (slice_get points k)) e → Contains (flat_map (λ (p : PointRow). p.into) points) e
  in_row k e c = go (slice_get points k) refl c
    where
      go : (o : Option PointRow) → slice_get points k ≡ o → Contains (into_of o) e → Contains (flat_map (λ (p : PointRow). p.into) points) e
      go None i d = empty e d
      go (Some row) i d = flat_map_has (λ (p : PointRow). p.into) points row e (got points k row i) d

  -- the row of an edge
  pub record InRow (e : Edge) : Type 0 where
    pub place : ℕ
    pub is : Contains (into_of (slice_get points place)) e

  pub from_row : (e : Edge) → Contains (flat_map (λ (p : PointRow). p.into) points) e → InRow e
  from_row e c =
      let q : Part (λ (p : PointRow). p.into) points e = flat_map_from (λ (p : PointRow). p.into) points e c in
      let k : lists.Stands points q.item = stands points q.item q.is in
      record { place = k.place; is = subst (λ o. Contains (into_of o) e) (sym k.at) q.part }

module _ (edge : Edge) (points : List PointRow) (to : ℕ) where
  pub old_or_new : (e : Edge) → Contains (flat_map (λ (p : PointRow). p.into) (changed_at (pushed edge) points to)) e → Contains (flat_map (λ (p : PointRow). p.into) points) e ⊎ (e ≡ edge)
  old_or_new e c = let r : InRow (changed_at (pushed edge) points to) e = from_row (changed_at (pushed edge) points to) e c in go r.place r.is (into_changed edge points to r.place)
    where
      last : (k : ℕ) → Contains (into_of (slice_get points k)) e ⊎ (e ≡ edge) → Contains (flat_map (λ (p : PointRow). p.into) points) e ⊎ (e ≡ edge)
      last k (inl d) = inl (in_row points k e d)
      last k (inr i) = inr i

      go : (k : ℕ) → Contains (into_of (slice_get (changed_at (pushed edge) points to) k)) e →
          (into_of (slice_get (changed_at (pushed edge) points to) k) ≡ into_of (slice_get points k)) ⊎ (into_of (slice_get (changed_at (pushed edge) points to) k) ≡ into_of (slice_get points k) ++ edge ∷ []) →
          Contains (flat_map (λ (p : PointRow). p.into) points) e ⊎ (e ≡ edge)
      go k d (inl same) = inl (in_row points k e (subst (λ es. Contains es e) same d))
      go k d (inr more) = last k (old_or_last (into_of (slice_get points k)) edge e (subst (λ es. Contains es e) more d))

  pub edge_still : (e : Edge) → Contains (flat_map (λ (p : PointRow). p.into) points) e → Contains (flat_map (λ (p : PointRow). p.into) (changed_at (pushed edge) points to)) e
  edge_still e c = let r : InRow points e = from_row points e c in in_row (changed_at (pushed edge) points to) r.place e (go r.place r.is (into_changed edge points to r.place))
    where
      go : (k : ℕ) → Contains (into_of (slice_get points k)) e →
          (into_of (slice_get (changed_at (pushed edge) points to) k) ≡ into_of (slice_get points k)) ⊎ (into_of (slice_get (changed_at (pushed edge) points to) k) ≡ into_of (slice_get points k) ++ edge ∷ []) →
          Contains (into_of (slice_get (changed_at (pushed edge) points to) k)) e
      go k d (inl same) = subst (λ es. Contains es e) (sym same) d
      go k d (inr more) = subst (λ es. Contains es e) (sym more) (still_there (into_of (slice_get points k)) edge e d)

-- the new edge stands in the row of its end
pub new_in_row : (edge : Edge) (points : List PointRow) (to : ℕ) → to < length points → Contains (into_of (slice_get (changed_at (pushed edge) points to) to)) edge
new_in_row edge [] to l = absurd (omega (arith, l))
new_in_row edge (p ∷ points) zero l = there_now p.into edge
new_in_row edge (p ∷ points) (suc to) l = new_in_row edge points to (omega (arith, l))
