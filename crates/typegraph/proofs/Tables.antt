-- Rows and points of lists that grow or are changed at a place.
use Rattle.std.proofs.Common.{◌≡◌, ℕ, suc, zero, ◌<◌, Option, Some, None, IsSome, List, [], ◌∷◌, ◌++◌, length, slice_get, ◌⊎◌, inl, inr, refl, ap, arith}
use Rattle.std.specs.List.{Contains}
use Rattle.flow_graph.specs.declared.edge.Edge.{Edge}
use Rattle.flow_graph.specs.Flows.{PointRow, FlowTables, target_of, into_of, changed_at}
use Rattle.flow_graph.specs.Validity.{IsThere, IsValid}
use Rattle.flow_graph.proofs.Valid.{pushed}
use Rattle.typegraph.specs.Graphs.{row_of}

module _ {X : Type 0} where
  pub row_push : (rows : List (List X)) (k : ℕ) → row_of (slice_get (rows ++ [] ∷ []) k) ≡ row_of (slice_get rows k)
  row_push [] zero = refl
  row_push [] (suc k) = refl
  row_push (r ∷ rows) zero = refl
  row_push (r ∷ rows) (suc k) = row_push rows k

  -- a row is as it was, or is the changed one
  pub changed_row : (f : List X → List X) (rows : List (List X)) (i k : ℕ) → (row_of (slice_get (changed_at f rows i) k) ≡ row_of (slice_get rows k)) ⊎ ((k ≡ i) × (row_of (slice_get (changed_at f rows i) k) ≡ f (row_of (slice_get rows k))))
  changed_row f [] i k = inl refl
  changed_row f (r ∷ rows) zero zero = inr (refl, refl)
  changed_row f (r ∷ rows) zero (suc k) = inl refl
  changed_row f (r ∷ rows) (suc i) zero = inl refl
  changed_row f (r ∷ rows) (suc i) (suc k) = go (changed_row f rows i k)
    where
      go : (row_of (slice_get (changed_at f rows i) k) ≡ row_of (slice_get rows k)) ⊎ ((k ≡ i) × (row_of (slice_get (changed_at f rows i) k) ≡ f (row_of (slice_get rows k)))) → (row_of (slice_get (changed_at f rows i) k) ≡ row_of (slice_get rows k)) ⊎ ((suc k ≡ suc i) × (row_of (slice_get (changed_at f rows i) k) ≡ f (row_of (slice_get rows k))))
      go (inl e) = inl e
      go (inr p) = inr (ap suc p.0, p.1)

  pub changed_here : (f : List X → List X) (rows : List (List X)) (i : ℕ) → i < length rows → row_of (slice_get (changed_at f rows i) i) ≡ f (row_of (slice_get rows i))
  changed_here f [] i l = let z : ⊥ = omega (arith, l) in absurd z
  changed_here f (r ∷ rows) zero l = refl
  changed_here f (r ∷ rows) (suc i) l = changed_here f rows i (omega (arith, l))

  -- an element of a row shows that the row is there
  pub row_within : (rows : List (List X)) (k : ℕ) (x : X) → Contains (row_of (slice_get rows k)) x → k < length rows
  row_within [] k x c = let z : ⊥ = omega (arith, c.1) in absurd z
  row_within (r ∷ rows) zero x c = omega arith
  row_within (r ∷ rows) (suc k) x c = let l : k < length rows = row_within rows k x c in omega (arith, l)

pub target_within : (points : List PointRow) (k v : ℕ) → target_of (slice_get points k) ≡ Some v → k < length points
target_within [] k v h = cc
target_within (p ∷ points) zero v h = omega arith
target_within (p ∷ points) (suc k) v h = let l : k < length points = target_within points k v h in omega (arith, l)

pub some_within : (points : List PointRow) (k : ℕ) → IsSome (target_of (slice_get points k)) → k < length points
some_within [] k h = cc
some_within (p ∷ points) zero h = omega arith
some_within (p ∷ points) (suc k) h = let l : k < length points = some_within points k h in omega (arith, l)

pub target_push : (points : List PointRow) (p : PointRow) (k v : ℕ) → target_of (slice_get points k) ≡ Some v → target_of (slice_get (points ++ p ∷ []) k) ≡ Some v
target_push [] p k v h = cc
target_push (q ∷ points) p zero v h = h
target_push (q ∷ points) p (suc k) v h = target_push points p k v h

pub target_push_back : (points : List PointRow) (p : PointRow) (k : ℕ) → k < length points → target_of (slice_get (points ++ p ∷ []) k) ≡ target_of (slice_get points k)
target_push_back [] p k l = let z : ⊥ = omega (arith, l) in absurd z
target_push_back (q ∷ points) p zero l = refl
target_push_back (q ∷ points) p (suc k) l = target_push_back points p k (omega (arith, l))

pub into_push : (points : List PointRow) (p : PointRow) → p.into ≡ [] → (k : ℕ) → into_of (slice_get (points ++ p ∷ []) k) ≡ into_of (slice_get points k)
into_push [] p e zero = e
into_push [] p e (suc k) = refl
into_push (q ∷ points) p e zero = refl
into_push (q ∷ points) p e (suc k) = into_push points p e k

pub target_changed : (edge : Edge) (points : List PointRow) (i k : ℕ) → target_of (slice_get (changed_at (pushed edge) points i) k) ≡ target_of (slice_get points k)
target_changed edge [] i k = refl
target_changed edge (p ∷ points) zero zero = refl
target_changed edge (p ∷ points) zero (suc k) = refl
target_changed edge (p ∷ points) (suc i) zero = refl
target_changed edge (p ∷ points) (suc i) (suc k) = target_changed edge points i k

pub into_changed : (edge : Edge) (points : List PointRow) (i k : ℕ) → (into_of (slice_get (changed_at (pushed edge) points i) k) ≡ into_of (slice_get points k)) ⊎ (into_of (slice_get (changed_at (pushed edge) points i) k) ≡ into_of (slice_get points k) ++ edge ∷ [])
into_changed edge [] i k = inl refl
into_changed edge (p ∷ points) zero zero = inr refl
into_changed edge (p ∷ points) zero (suc k) = inl refl
into_changed edge (p ∷ points) (suc i) zero = inl refl
into_changed edge (p ∷ points) (suc i) (suc k) = into_changed edge points i k

-- in a valid flow a target is there
pub target_there : (f : FlowTables) → IsValid f → (k v : ℕ) → target_of (slice_get f.points k) ≡ Some v → v < f.vars
target_there f valid k v h = go (slice_get f.points k) refl h
  where
    at : (o : Option ℕ) → o ≡ Some v → IsThere o f.vars → v < f.vars
    at None e t = cc
    at (Some u) e t = let same : u ≡ v = cc in omega (arith, t, same)

    go : (o : Option PointRow) → slice_get f.points k ≡ o → target_of o ≡ Some v → v < f.vars
    go None e h = cc
    go (Some row) e h = at row.target h (valid.points k row e).target
