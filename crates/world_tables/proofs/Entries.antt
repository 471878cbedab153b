-- What a place's table has is an entry, and the other way round.
use Rattle.std.proofs.Common.{◌≡◌, ℕ, suc, zero, Bool, true, false, cond, not, nat_eq, ◌||◌, Result, Ok, List, [], ◌∷◌, ◌++◌, map, get_or, inl, inr, refl, sym, ap, subst, ◌∙◌, arith}
use Rattle.std.specs.List.{Contains, IsDistinct}
use Rattle.std.specs.List.Sorted.{IsPermutation}
use Rattle.std.specs.Result.{IfOk}
use Rattle.std.proofs.lemmas.List.Elements.{Contains-append_cases, Contains-append_left, Contains-append_right}
use Rattle.std.proofs.lemmas.Map.Keys.{IsDistinct-tail, apart_from_distinct}
use Rattle.graph_walks.proofs.Lists.{empty, first_as, later, first_or_later, map_has, Origin, map_from, Part, flat_map_from}
use Rattle.typegraph.proofs.Looks.{equal, equal_as}
use Rattle.abstract_shapes.specs.declared.place.Place.{Place}
use Rattle.abstract_shapes.specs.declared.table.TableRow.{TableRow}
use Rattle.abstract_shapes.specs.PlaceLaws.{place_itself, place_is}
use Rattle.abstract_shapes.specs.Places.{same_place}
use Rattle.abstract_shapes.specs.Tables.{table_at, has_shape, entries, places_of}

-- ---- the shapes of one row

has_contains : (k : ℕ) (xs : List ℕ) → has_shape k xs ≡ true → Contains xs k
has_contains k [] h = cc
has_contains k (x ∷ xs) h = go (nat_eq k x) refl h (has_contains k xs)
  where
    go : (b : Bool) → nat_eq k x ≡ b → (b || has_shape k xs) ≡ true → (has_shape k xs ≡ true → Contains xs k) → Contains (x ∷ xs) k
    go true e h more = first_as x k xs (equal k x e)
    go false e h more = later x k xs (more h)

contains_has : (k : ℕ) (xs : List ℕ) → Contains xs k → has_shape k xs ≡ true
contains_has k [] c = empty k c
contains_has k (x ∷ xs) c =
    elim (first_or_later x k xs c) [
      | inl e ↦ ap (λ b. b || has_shape k xs) (equal_as k x e)
      | inr d ↦ over (nat_eq k x) (contains_has k xs d)
    ]
  where
    over : (b : Bool) → has_shape k xs ≡ true → (b || has_shape k xs) ≡ true
    over true h = refl
    over false h = h

-- ---- all rows

pub table_entry : (p : Place) (k : ℕ) (rows : List TableRow) → has_shape k (table_at rows p) ≡ true → Contains (entries rows) (p, k)
table_entry p k [] h = cc
table_entry p k (row ∷ rows) h = go (same_place p row.place) refl h (table_entry p k rows)
  where
    go : (b : Bool) → same_place p row.place ≡ b → has_shape k (cond b row.shapes (table_at rows p)) ≡ true → (has_shape k (table_at rows p) ≡ true → Contains (entries rows) (p, k)) → Contains (map (λ x. (row.place, x)) row.shapes ++ entries rows) (p, k)
    go true e h more = Contains-append_left (map (λ x. (row.place, x)) row.shapes) (entries rows) (p, k) (subst (λ q. Contains {X = Place × ℕ} (map (λ x. (row.place, x)) row.shapes) (q, k)) (sym (place_is p row.place e)) (map_has (λ x. (row.place, x)) row.shapes k (has_contains k row.shapes h)))
    go false e h more = Contains-append_right (map (λ x. (row.place, x)) row.shapes) (entries rows) (p, k) (more h)

place_there : (p : Place) (k : ℕ) (rows : List TableRow) → Contains (entries rows) (p, k) → Contains (places_of rows) p
place_there p k rows c =
    let q : Part (λ (row : TableRow). map (λ x. (row.place, x)) row.shapes) rows (p, k) = flat_map_from (λ (row : TableRow). map (λ x. (row.place, x)) row.shapes) rows (p, k) c in
    let o : Origin (λ (x : ℕ). (q.item.place, x)) q.item.shapes (p, k) = map_from (λ (x : ℕ). (q.item.place, x)) q.item.shapes (p, k) q.part in
    subst (Contains (places_of rows)) (ap (λ (e : Place × ℕ). e.0) o.same) (map_has (λ (row : TableRow). row.place) rows q.item q.is)

-- a place of the later rows isn't that of the first
other_place : (p : Place) (row : TableRow) (rows : List TableRow) → IsDistinct same_place (places_of (row ∷ rows)) → Contains (places_of rows) p → same_place p row.place ≡ true → ⊥
other_place p row rows d (k, l, e) h =
    let a : same_place row.place (get_or (places_of rows) k p) ≡ false = apart_from_distinct same_place (places_of (row ∷ rows)) zero (suc k) p d (omega arith) (omega (arith, l)) in
    let b : same_place row.place p ≡ false = ap (same_place row.place) (sym (at_any k p e)) ∙ a in
    let f : same_place row.place p ≡ true = ap (λ q. same_place q p) (sym (place_is p row.place h)) ∙ place_itself p in
    let g : true ≡ false = sym f ∙ b in
    cc
  where
    at_any : (k : ℕ) (p : Place) → get_or (places_of rows) k p ≡ p → get_or (places_of rows) k p ≡ p
    at_any k p e = e

pub entry_table : (p : Place) (k : ℕ) (rows : List TableRow) → IsDistinct same_place (places_of rows) → Contains (entries rows) (p, k) → has_shape k (table_at rows p) ≡ true
entry_table p k [] d c = empty _ c
entry_table p k (row ∷ rows) d c =
    elim (Contains-append_cases (map (λ x. (row.place, x)) row.shapes) (entries rows) (p, k) c) [
      | inl h ↦ here (map_from (λ (x : ℕ). (row.place, x)) row.shapes (p, k) h)
      | inr h ↦ below (same_place p row.place) refl h (entry_table p k rows (IsDistinct-tail same_place row.place (places_of rows) d) h)
    ]
  where
    here : Origin {Y = Place × ℕ} (λ (x : ℕ). (row.place, x)) row.shapes (p, k) → has_shape k (cond (same_place p row.place) row.shapes (table_at rows p)) ≡ true
    here o =
        let e : row.place ≡ p = ap (λ (y : Place × ℕ). y.0) o.same in
        let f : o.item ≡ k = ap (λ (y : Place × ℕ). y.1) o.same in
        let g : same_place p row.place ≡ true = ap (same_place p) e ∙ place_itself p in
        ap (λ b. has_shape k (cond b row.shapes (table_at rows p))) g ∙ contains_has k row.shapes (subst (Contains row.shapes) f o.is)

    below : (b : Bool) → same_place p row.place ≡ b → Contains (entries rows) (p, k) → has_shape k (table_at rows p) ≡ true → has_shape k (cond (same_place p row.place) row.shapes (table_at rows p)) ≡ true
    below true e h is = absurd (other_place p row rows d (place_there p k rows h) e)
    below false e h is = ap (λ b. has_shape k (cond b row.shapes (table_at rows p))) e ∙ is

-- ---- what adding answers

module _ {E : Type 0} (r : Result Bool E) (old new : List TableRow) (p : Place) (k : ℕ) (grown : IfOk r (λ b. b ≡ not (has_shape k (table_at old p)))) where
  pub answers_new : IsDistinct same_place (places_of old) → r ≡ Ok true → Contains (entries old) (p, k) → ⊥
  answers_new d e c = no (not (has_shape k (table_at old p))) (subst (λ s. IfOk s (λ b. b ≡ not (has_shape k (table_at old p)))) e grown) (ap not (entry_table p k old d c))
    where
      no : (b : Bool) → true ≡ b → b ≡ false → ⊥
      no true f g = cc
      no false f g = cc

  pub answers_known : r ≡ Ok false → Contains (entries old) (p, k)
  answers_known e = table_entry p k old (was (has_shape k (table_at old p)) (subst (λ s. IfOk s (λ b. b ≡ not (has_shape k (table_at old p)))) e grown))
    where
      was : (b : Bool) → false ≡ not b → b ≡ true
      was true f = refl
      was false f = cc

  pub answers_more : IfOk r (λ b. b ≡ true → IsPermutation ((p, k) ∷ entries old) (entries new)) → r ≡ Ok true → IsPermutation ((p, k) ∷ entries old) (entries new)
  answers_more entry e = (subst (λ s. IfOk s (λ b. b ≡ true → IsPermutation ((p, k) ∷ entries old) (entries new))) e entry) refl

  pub answers_same : IfOk r (λ b. b ≡ false → new ≡ old) → r ≡ Ok false → new ≡ old
  answers_same same e = (subst (λ s. IfOk s (λ b. b ≡ false → new ≡ old)) e same) refl
