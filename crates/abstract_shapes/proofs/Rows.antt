-- What a row that changes does to the tables.
use Rattle.std.proofs.Common.{◌≡◌, ℕ, zero, suc, ◌<◌, length, ◌+◌, ◌||◌, if◌then◌else◌, nat_lt, position, map, subst, append_assoc, Bool, true, false, cond, not, List, [], ◌∷◌, ◌++◌, Option, Some, None, option_map, set, get_or, inl, inr, refl, sym, ap, ◌∙◌, arith}
use Rattle.std.proofs.lemmas.Bool.{cases_Bool}
use Rattle.std.proofs.lemmas.Bool.Decides.{nat_tests}
use Rattle.std.proofs.lemmas.List.{map-append}
use Rattle.std.proofs.lemmas.List.Sorted.{IsPermutation-sym, IsPermutation-trans, IsPermutation-middle, IsPermutation-append_right, IsPermutation-to_front}
use Rattle.std.specs.List.{list_any, position_or_len}
use Rattle.std.specs.List.Sorted.{IsPermutation}
use Rattle.std.specs.Option.{IfSome}
use Rattle.indexmap.specs.IndexSet.{insert_key}
use Rattle.flow_graph.specs.Flows.{changed_at}
use Rattle.abstract_shapes.specs.declared.place.Place.{Place}
use Rattle.abstract_shapes.specs.declared.table.TableRow.{TableRow}
use Rattle.abstract_shapes.specs.Places.{same_place}
use Rattle.abstract_shapes.specs.Tables.{places_of, entries, table_at, has_shape, with_shape, row_number, grown}
use Rattle.abstract_shapes.proofs.NumberLemmas.{next_of, none_of}
use Rattle.abstract_shapes.specs.PlaceLaws.{place_itself, place_is}

pub place_apart : (p q : Place) → (p ≡ q → ⊥) → same_place p q ≡ false
place_apart p q apart = elim (cases_Bool (same_place p q)) [
  | inl is ↦ absurd (apart (place_is p q is))
  | inr other ↦ other
]

-- ---- a row that grows

first_of : (i : ℕ) → Some 0 ≡ Some i → 0 ≡ i
first_of i h = cc

-- where the row of a place stands, by the first row
module _ (p : Place) (row : TableRow) (rows : List TableRow) (i : ℕ) (h : row_number p (row ∷ rows) ≡ Some i) where
  here : same_place p row.place ≡ true → 0 ≡ i
  here is = first_of i (sym (ap (λ t. cond t (Some 0) (option_map suc (row_number p rows))) is) ∙ h)

  later : same_place p row.place ≡ false → (j : ℕ) × (row_number p rows ≡ Some j) × (suc j ≡ i)
  later other = next_of (row_number p rows) i (sym (ap (λ t. cond t (Some 0) (option_map suc (row_number p rows))) other) ∙ h)

-- the row of a place is the first that has it
pub place_grows : (p : Place) (shape i : ℕ) (rows : List TableRow) → row_number p rows ≡ Some i → table_at (changed_at (grown shape) rows i) p ≡ with_shape shape (table_at rows p)
place_grows p shape i [] h = absurd (cc)
place_grows p shape i (row ∷ rows) h = elim (cases_Bool (same_place p row.place)) [
  | inl is ↦
      ap (λ j. table_at (changed_at (grown shape) (row ∷ rows) j) p) (sym (here p row rows i h is))
      ∙ ap (λ t. cond t (with_shape shape row.shapes) (table_at rows p)) is ∙ sym (ap (λ t. with_shape shape (cond t row.shapes (table_at rows p))) is)
  | inr other ↦
      let next = later p row rows i h other in
      ap (λ j. table_at (changed_at (grown shape) (row ∷ rows) j) p) (sym next.2)
      ∙ ap (λ t. cond t row.shapes (table_at (changed_at (grown shape) rows next.0) p)) other ∙ place_grows p shape next.0 rows next.1
      ∙ sym (ap (λ t. with_shape shape (cond t row.shapes (table_at rows p))) other)
]

-- other places stay as they are
pub place_stays : (p q : Place) (shape i : ℕ) (rows : List TableRow) → row_number q rows ≡ Some i → (p ≡ q → ⊥) → table_at (changed_at (grown shape) rows i) p ≡ table_at rows p
place_stays p q shape i [] h other = absurd (cc)
place_stays p q shape i (row ∷ rows) h other = elim (cases_Bool (same_place q row.place)) [
  | inl is ↦
      let apart : same_place p row.place ≡ false = ap (same_place p) (sym (place_is q row.place is)) ∙ place_apart p q other in
      ap (λ j. table_at (changed_at (grown shape) (row ∷ rows) j) p) (sym (here q row rows i h is))
      ∙ ap (λ t. cond t (with_shape shape row.shapes) (table_at rows p)) apart ∙ sym (ap (λ t. cond t row.shapes (table_at rows p)) apart)
  | inr not-here ↦
      let next = later q row rows i h not-here in
      ap (λ j. table_at (changed_at (grown shape) (row ∷ rows) j) p) (sym next.2)
      ∙ ap (cond (same_place p row.place) row.shapes) (place_stays p q shape next.0 rows next.1 other)
]

-- a new row behind all others
pub place_new : (p : Place) (shape : ℕ) (rows : List TableRow) → row_number p rows ≡ None → table_at (rows ++ record { place = p; shapes = shape ∷ [] } ∷ []) p ≡ with_shape shape (table_at rows p)
place_new p shape [] h = ap (λ t. cond t (shape ∷ []) []) (place_itself p)
place_new p shape (row ∷ rows) h = elim (cases_Bool (same_place p row.place)) [
  | inl is ↦ absurd (some_none (sym (ap (λ t. cond t (Some 0) (option_map suc (row_number p rows))) is) ∙ h))
  | inr other ↦
      ap (λ t. cond t row.shapes (table_at (rows ++ record { place = p; shapes = shape ∷ [] } ∷ []) p)) other
      ∙ place_new p shape rows (none_of (row_number p rows) (sym (ap (λ t. cond t (Some 0) (option_map suc (row_number p rows))) other) ∙ h))
      ∙ sym (ap (λ t. with_shape shape (cond t row.shapes (table_at rows p))) other)
]
  where
    some_none : {n : ℕ} → Some n ≡ None → ⊥
    some_none k = absurd (cc)

pub place_kept : (p q : Place) (shape : ℕ) (rows : List TableRow) → (p ≡ q → ⊥) → table_at (rows ++ record { place = q; shapes = shape ∷ [] } ∷ []) p ≡ table_at rows p
place_kept p q shape [] other = ap (λ t. cond t (shape ∷ []) []) (place_apart p q other)
place_kept p q shape (row ∷ rows) other = ap (cond (same_place p row.place) row.shapes) (place_kept p q shape rows other)

-- the table of the row of a place
row_table : (p : Place) (i : ℕ) (rows : List TableRow) (d : TableRow) → row_number p rows ≡ Some i → (get_or rows i d).shapes ≡ table_at rows p
row_table p i [] d h = absurd (cc)
row_table p i (row ∷ rows) d h = elim (cases_Bool (same_place p row.place)) [
  | inl is ↦ ap (λ j. (get_or (row ∷ rows) j d).shapes) (sym (here p row rows i h is)) ∙ sym (ap (λ t. cond t row.shapes (table_at rows p)) is)
  | inr other ↦
      let next = later p row rows i h other in
      ap (λ j. (get_or (row ∷ rows) j d).shapes) (sym next.2) ∙ row_table p next.0 rows d next.1 ∙ sym (ap (λ t. cond t row.shapes (table_at rows p)) other)
]

row_within : (p : Place) (i : ℕ) (rows : List TableRow) → row_number p rows ≡ Some i → i < length rows
row_within p i [] h = absurd (cc)
row_within p i (row ∷ rows) h = elim (cases_Bool (same_place p row.place)) [
  | inl is ↦ omega (arith, here p row rows i h is)
  | inr other ↦
      let next = later p row rows i h other in
      omega (arith, next.2, row_within p next.0 rows next.1)
]

-- the number of a row is below how many there are
pub number_within : (p : Place) (rows : List TableRow) (o : Option ℕ) → o ≡ row_number p rows → IfSome o (λ i. i < length rows)
number_within p rows None e = tt
number_within p rows (Some i) e = row_within p i rows (sym e)

-- what the row of a place holds
pub row_holds : (p : Place) (i : ℕ) (rows : List TableRow) (row : TableRow) → row_number p rows ≡ Some i → row ≡ get_or rows i row → row.shapes ≡ table_at rows p
row_holds p i rows row number is = ap (λ r. r.shapes) is ∙ row_table p i rows row number

-- no table, no shape
pub none_there : (p : Place) (rows : List TableRow) → row_number p rows ≡ None → table_at rows p ≡ []
none_there p [] h = refl
none_there p (row ∷ rows) h = elim (cases_Bool (same_place p row.place)) [
  | inl is ↦ absurd (some_none (sym (ap (λ t. cond t (Some 0) (option_map suc (row_number p rows))) is) ∙ h))
  | inr other ↦ ap (λ t. cond t row.shapes (table_at rows p)) other ∙ none_there p rows (none_of (row_number p rows) (sym (ap (λ t. cond t (Some 0) (option_map suc (row_number p rows))) other) ∙ h))
]
  where
    some_none : {n : ℕ} → Some n ≡ None → ⊥
    some_none k = absurd (cc)

-- ---- the index of the places

pos_first : {X : Type 0} (p : X → Bool) (x : X) (xs : List X) → p x ≡ true → position p (x ∷ xs) ≡ Some 0
pos_first p x xs is =
    ap (λ b. cond (nat_lt (cond (not b) (1 + position_or_len p xs) 0) (length (x ∷ xs))) (Some (cond (not b) (1 + position_or_len p xs) 0)) None) is
    ∙ ap (λ b. cond b (Some 0) None) below
  where
    below : nat_lt 0 (length (x ∷ xs)) ≡ true
    below = grind (arith, nat_tests)

pos_later : {X : Type 0} (p : X → Bool) (x : X) (xs : List X) → p x ≡ false → position p (x ∷ xs) ≡ option_map suc (position p xs)
pos_later p x xs other =
    ap (λ b. cond (nat_lt (cond (not b) (1 + position_or_len p xs) 0) (length (x ∷ xs))) (Some (cond (not b) (1 + position_or_len p xs) 0)) None) other
    ∙ by (nat_lt (position_or_len p xs) (length xs)) refl
  where
    one_more : (n : ℕ) → 1 + n ≡ suc n
    one_more n = omega arith

    above : nat_lt (position_or_len p xs) (length xs) ≡ true → nat_lt (1 + position_or_len p xs) (length (x ∷ xs)) ≡ true
    above h = grind (arith, nat_tests)

    beyond : nat_lt (position_or_len p xs) (length xs) ≡ false → nat_lt (1 + position_or_len p xs) (length (x ∷ xs)) ≡ false
    beyond h = grind (arith, nat_tests)

    by : (b : Bool) → nat_lt (position_or_len p xs) (length xs) ≡ b
        → cond (nat_lt (1 + position_or_len p xs) (length (x ∷ xs))) (Some (1 + position_or_len p xs)) None ≡ option_map suc (cond b (Some (position_or_len p xs)) None)
    by true h = ap (λ b. cond b (Some (1 + position_or_len p xs)) None) (above h) ∙ ap Some (one_more (position_or_len p xs))
    by false h = ap (λ b. cond b (Some (1 + position_or_len p xs)) None) (beyond h)

-- a place stands among the places where its row does
pub position_row : (p : Place) (rows : List TableRow) → position (same_place p) (places_of rows) ≡ row_number p rows
position_row p [] = refl
position_row p (row ∷ rows) = elim (cases_Bool (same_place p row.place)) [
  | inl is ↦ pos_first (same_place p) row.place (places_of rows) is ∙ sym (ap (λ t. cond t (Some 0) (option_map suc (row_number p rows))) is)
  | inr other ↦ pos_later (same_place p) row.place (places_of rows) other ∙ ap (option_map suc) (position_row p rows) ∙ sym (ap (λ t. cond t (Some 0) (option_map suc (row_number p rows))) other)
]

-- a place with no row isn't among the places
pub none_among : (p : Place) (rows : List TableRow) → row_number p rows ≡ None → list_any (same_place p) (places_of rows) ≡ false
none_among p [] h = refl
none_among p (row ∷ rows) h = elim (cases_Bool (same_place p row.place)) [
  | inl is ↦ absurd (some_none (sym (ap (λ t. cond t (Some 0) (option_map suc (row_number p rows))) is) ∙ h))
  | inr other ↦ ap (λ t. t || list_any (same_place p) (places_of rows)) other ∙ none_among p rows (none_of (row_number p rows) (sym (ap (λ t. cond t (Some 0) (option_map suc (row_number p rows))) other) ∙ h))
]
  where
    some_none : {n : ℕ} → Some n ≡ None → ⊥
    some_none k = absurd (cc)

-- a row that grows keeps its place
places_stay : (shape i : ℕ) (rows : List TableRow) → places_of (changed_at (grown shape) rows i) ≡ places_of rows
places_stay shape i [] = refl
places_stay shape zero (row ∷ rows) = refl
places_stay shape (suc i) (row ∷ rows) = ap (λ ps. row.place ∷ ps) (places_stay shape i rows)

-- ---- the entries

abbrev entries_of : TableRow → List (Place × ℕ)
entries_of row = map (λ shape. (row.place, shape)) row.shapes

abbrev Entry : Type 0
Entry = Place × ℕ

-- an entry that is put behind some others
put_in : (xs ys : List Entry) (e : Entry) → IsPermutation (e ∷ (xs ++ ys)) ((xs ++ e ∷ []) ++ ys)
put_in xs ys e = subst (IsPermutation (e ∷ (xs ++ ys))) (sym (append_assoc xs (e ∷ []) ys)) (IsPermutation-sym (xs ++ e ∷ ys) (e ∷ (xs ++ ys)) (IsPermutation-middle xs e ys))

-- a shape that a row lacks is one entry more
row_more : (p : Place) (shape : ℕ) (row : TableRow) (rest : List Entry) → p ≡ row.place → has_shape shape row.shapes ≡ false
    → IsPermutation ((p, shape) ∷ (entries_of row ++ rest)) (entries_of (grown shape row) ++ rest)
row_more p shape row rest is lacks =
    subst (λ es. IsPermutation ((p, shape) ∷ (entries_of row ++ rest)) (es ++ rest)) (sym same) (put_in (entries_of row) rest (p, shape))
  where
    same : entries_of (grown shape row) ≡ entries_of row ++ (p, shape) ∷ []
    same =
        ap (λ b. map (λ s. (row.place, s)) (cond b row.shapes (row.shapes ++ shape ∷ []))) lacks
        ∙ map-append (λ s. (row.place, s)) row.shapes (shape ∷ []) ∙ ap (λ q. entries_of row ++ (q, shape) ∷ []) (sym is)

pub entry_grows : (p : Place) (shape i : ℕ) (rows : List TableRow) → row_number p rows ≡ Some i → has_shape shape (table_at rows p) ≡ false
    → IsPermutation ((p, shape) ∷ entries rows) (entries (changed_at (grown shape) rows i))
entry_grows p shape i [] h lacks = absurd (cc)
entry_grows p shape i (row ∷ rows) h lacks = elim (cases_Bool (same_place p row.place)) [
  | inl is ↦
      subst (λ j. IsPermutation ((p, shape) ∷ entries (row ∷ rows)) (entries (changed_at (grown shape) (row ∷ rows) j))) (here p row rows i h is)
      (row_more p shape row (entries rows) (place_is p row.place is) (sym (ap (λ t. has_shape shape (cond t row.shapes (table_at rows p))) is) ∙ lacks))
  | inr other ↦
      let next = later p row rows i h other in
      let more = entry_grows p shape next.0 rows next.1 (sym (ap (λ t. has_shape shape (cond t row.shapes (table_at rows p))) other) ∙ lacks) in
      subst (λ j. IsPermutation ((p, shape) ∷ entries (row ∷ rows)) (entries (changed_at (grown shape) (row ∷ rows) j))) next.2
      (IsPermutation-trans ((p, shape) ∷ entries (row ∷ rows)) (entries_of row ++ (p, shape) ∷ entries rows) (entries_of row ++ entries (changed_at (grown shape) rows next.0))
      (IsPermutation-sym (entries_of row ++ (p, shape) ∷ entries rows) ((p, shape) ∷ entries (row ∷ rows)) (IsPermutation-middle (entries_of row) (p, shape) (entries rows)))
      (IsPermutation-append_right (entries_of row) ((p, shape) ∷ entries rows) (entries (changed_at (grown shape) rows next.0)) more))
]

entries_push : (rows : List TableRow) (p : Place) (shape : ℕ) → entries (rows ++ record { place = p; shapes = shape ∷ [] } ∷ []) ≡ entries rows ++ (p, shape) ∷ []
entries_push [] p shape = refl
entries_push (row ∷ rows) p shape = ap (λ es. entries_of row ++ es) (entries_push rows p shape) ∙ sym (append_assoc (entries_of row) (entries rows) ((p, shape) ∷ []))

pub entry_new : (p : Place) (shape : ℕ) (rows : List TableRow) → IsPermutation ((p, shape) ∷ entries rows) (entries (rows ++ record { place = p; shapes = shape ∷ [] } ∷ []))
entry_new p shape rows = subst (IsPermutation ((p, shape) ∷ entries rows)) (sym (entries_push rows p shape)) (IsPermutation-sym (entries rows ++ (p, shape) ∷ []) ((p, shape) ∷ entries rows) (IsPermutation-to_front (entries rows) (p, shape)))

pub places_push : (rows : List TableRow) (row : TableRow) → places_of (rows ++ row ∷ []) ≡ places_of rows ++ row.place ∷ []
places_push rows row = map-append (λ (r : TableRow). r.place) rows (row ∷ [])

-- a set's insert of a place with no row puts it at the end
pub place_last : (p : Place) (rows : List TableRow) → row_number p rows ≡ None → insert_key same_place (places_of rows) p ≡ places_of rows ++ p ∷ []
place_last p rows absent = ap (λ b. if b then places_of rows else places_of rows ++ p ∷ []) (none_among p rows absent)

-- ---- a row that is written

row_set : (shape i : ℕ) (rows : List TableRow) (row : TableRow) (shapes : List ℕ) → i < length rows → row ≡ get_or rows i row → shapes ≡ with_shape shape row.shapes →
    set rows i (record { place = row.place; shapes = shapes }) ≡ changed_at (grown shape) rows i
row_set shape i [] row shapes within is made = absurd (omega (arith, within))
row_set shape zero (other ∷ rows) row shapes within is made = ap (λ s. record { place = row.place; shapes = s } ∷ rows) made ∙ ap (λ r. grown shape r ∷ rows) is
row_set shape (suc i) (other ∷ rows) row shapes within is made = ap (λ rs. other ∷ rs) (row_set shape i rows row shapes (omega (arith, within)) is made)

module _ (p : Place) (shape i : ℕ) (rows : List TableRow) (row : TableRow) (shapes : List ℕ) (number : row_number p rows ≡ Some i) (is : row ≡ get_or rows i row) where
  written : shapes ≡ with_shape shape row.shapes → set rows i (record { place = row.place; shapes = shapes }) ≡ changed_at (grown shape) rows i
  written made = row_set shape i rows row shapes (row_within p i rows number) is made

  pub row_added : shapes ≡ with_shape shape row.shapes → table_at (set rows i (record { place = row.place; shapes = shapes })) p ≡ with_shape shape (table_at rows p)
  row_added made = ap (λ rs. table_at rs p) (written made) ∙ place_grows p shape i rows number

  pub row_kept : shapes ≡ with_shape shape row.shapes → (other : Place) → (other ≡ p → ⊥) → table_at (set rows i (record { place = row.place; shapes = shapes })) other ≡ table_at rows other
  row_kept made other apart = ap (λ rs. table_at rs other) (written made) ∙ place_stays other p shape i rows number apart

  pub row_entry : shapes ≡ with_shape shape row.shapes → has_shape shape (table_at rows p) ≡ false → IsPermutation ((p, shape) ∷ entries rows) (entries (set rows i (record { place = row.place; shapes = shapes })))
  row_entry made lacks = subst (λ rs. IsPermutation ((p, shape) ∷ entries rows) (entries rs)) (sym (written made)) (entry_grows p shape i rows number lacks)

  pub row_places : shapes ≡ with_shape shape row.shapes → places_of (set rows i (record { place = row.place; shapes = shapes })) ≡ places_of rows
  row_places made = ap places_of (written made) ∙ places_stay shape i rows

  pub row_fresh : (fresh : Bool) → fresh ≡ not (has_shape shape row.shapes) → fresh ≡ not (has_shape shape (table_at rows p))
  row_fresh fresh told = told ∙ ap (λ xs. not (has_shape shape xs)) (ap (λ r. r.shapes) is ∙ row_table p i rows row number)
