-- What a numbering tells of each shape.
use Rattle.std.proofs.Common.{◌≡◌, ℕ, zero, suc, ◌+◌, ◌<◌, ◌≤◌, ◌^◌, ◌-◌, ◌⊎◌, Bool, true, false, true≢false, ◌||◌, if◌then◌else◌, position, List, [], ◌∷◌, ◌++◌, length, slice_get, get_or, Option, Some, None, option_map, inl, inr, refl, sym, ap, ◌∙◌, subst, arith, append_assoc, append-nil, length-append}
use Rattle.std.specs.Borrow.{Bor}
use Rattle.std.specs.Option.{unwrap_or, option_copied, IfSome}
use Rattle.std.proofs.lemmas.Bool.{cases_Bool}
use Rattle.std.specs.List.{list_any}
use Rattle.indexmap.specs.IndexSet.{insert_key}
use Rattle.std.proofs.lemmas.List.Quantifiers.{position-Some}
use Rattle.std.proofs.lemmas.Map.Keys.{any_passes_from_place}
use Rattle.std.proofs.lemmas.Option.{slice_get_within, slice_get-get_or}
use Rattle.abstract_shapes.specs.declared.shape.Shape as rust
use Rattle.abstract_shapes.specs.declared.shape.Shape.TheVariants as shape
use Rattle.abstract_shapes.specs.Numbering.{shape_at, structure, structures_from, structures, IsThere, IsOuter, HasId, HaveOneId, IsNumbering}
use Rattle.abstract_shapes.specs.Same.{same_shape}
use Rattle.abstract_shapes.specs.Shapes.{Shape, bound_native, any}
use Rattle.abstract_shapes.proofs.SketchLemmas.{HasReceiver, same_sound, same_complete}

-- ---- places in lists

get_before : {X : Type 0} (xs ys : List X) (i : ℕ) → i < length xs → slice_get (xs ++ ys) i ≡ slice_get xs i
get_before [] ys i h = absurd (omega (arith, h))
get_before (x ∷ xs) ys zero h = refl
get_before (x ∷ xs) ys (suc i) h = get_before xs ys i (omega (arith, h))

get_seam : {X : Type 0} (xs : List X) (y : X) (ys : List X) → slice_get (xs ++ y ∷ ys) (length xs) ≡ Some y
get_seam [] y ys = refl
get_seam (x ∷ xs) y ys = get_seam xs y ys

get_there : {X : Type 0} (xs : List X) (i : ℕ) → i < length xs → (x : X) × (slice_get xs i ≡ Some x)
get_there [] i h = absurd (omega (arith, h))
get_there (x ∷ xs) zero h = (x, refl)
get_there (x ∷ xs) (suc i) h = get_there xs i (omega (arith, h))

-- ---- structures

structure_stays : (xs ys : List Shape) (r : rust.Shape) → IsThere (length xs) r → structure (xs ++ ys) r ≡ structure xs r
structure_stays xs ys (shape.BoundNative id row) h = ap (λ s. bound_native (unwrap_or s any) row) (get_before xs ys id h)
structure_stays xs ys r h = refl

structures_push : (xs : List Shape) (rs : List rust.Shape) (r : rust.Shape) → structures_from xs (rs ++ r ∷ []) ≡ structures_from xs rs ++ structure (structures_from xs rs) r ∷ []
structures_push xs [] r = refl
structures_push xs (q ∷ rs) r = structures_push (xs ++ structure xs q ∷ []) rs r

structures_long : (xs : List Shape) (rs : List rust.Shape) → length (structures_from xs rs) ≡ length xs + length rs
structures_long xs [] = omega arith
structures_long xs (q ∷ rs) = omega (arith, structures_long (xs ++ structure xs q ∷ []) rs, length-append xs (structure xs q ∷ []))

structures_start : (xs : List Shape) (rs : List rust.Shape) → (ys : List Shape) × (structures_from xs rs ≡ xs ++ ys)
structures_start xs [] = ([], sym (append-nil xs))
structures_start xs (q ∷ rs) =
    let more = structures_start (xs ++ structure xs q ∷ []) rs in
    (structure xs q ∷ more.0, more.1 ∙ append_assoc xs (structure xs q ∷ []) more.0)

some_is : {X : Type 0} (x y : X) → Some x ≡ Some y → x ≡ y
some_is x y h = cc

structures_at : (xs : List Shape) (rs : List rust.Shape) (i : ℕ) (r : rust.Shape) → slice_get rs i ≡ Some r →
    (before : List Shape) × (behind : List Shape) × (length before ≡ length xs + i) × (structures_from xs rs ≡ before ++ structure before r ∷ behind)
structures_at xs [] i r h = absurd (cc)
structures_at xs (q ∷ rs) zero r h =
    let more = structures_start (xs ++ structure xs q ∷ []) rs in
    (xs, more.0, omega arith, more.1 ∙ append_assoc xs (structure xs q ∷ []) more.0 ∙ ap (λ s. xs ++ structure xs s ∷ more.0) (some_is q r h))
structures_at xs (q ∷ rs) (suc i) r h =
    let more = structures_at (xs ++ structure xs q ∷ []) rs i r h in
    (more.0, more.1, omega (arith, more.2, length-append xs (structure xs q ∷ [])), more.3)

pub long : (rs : List rust.Shape) → length (structures rs) ≡ length rs
long rs = omega (arith, structures_long [] rs)

-- the shape under an id is the structure of its row
pub shape_under : (rs : List rust.Shape) → IsNumbering rs → (i : ℕ) (r : rust.Shape) → slice_get rs i ≡ Some r → slice_get (structures rs) i ≡ Some (structure (structures rs) r)
shape_under rs numbering i r h =
    let at = structures_at [] rs i r h in
    let long_before : length at.0 ≡ i = omega (arith, at.2) in
    let there : IsThere (length at.0) r = subst (λ n. IsThere n r) (sym long_before) (numbering.receivers i r h) in
    let same : structure (structures rs) r ≡ structure at.0 r = ap (λ xs. structure xs r) at.3 ∙ structure_stays at.0 (structure at.0 r ∷ at.1) r there in
    ap (λ n. slice_get (structures rs) n) (sym long_before) ∙ ap (λ xs. slice_get xs (length at.0)) at.3 ∙ get_seam at.0 (structure at.0 r) at.1 ∙ ap Some (sym same)

-- one shape has one id
receiver_same : (xs : List Shape) → HaveOneId xs → (n m : ℕ) → n < length xs → m < length xs → shape_at xs n ≡ shape_at xs m → n ≡ m
receiver_same xs once n m h k e =
    let at = get_there xs n h in
    let other = get_there xs m k in
    let one : at.0 ≡ other.0 = sym (ap (λ s. unwrap_or s any) at.1) ∙ e ∙ ap (λ s. unwrap_or s any) other.1 in
    once n m at.0 at.1 (other.1 ∙ ap Some (sym one))

-- ---- the search

pub next_of : (o : Option ℕ) (i : ℕ) → option_map suc o ≡ Some i → (j : ℕ) × (o ≡ Some j) × (suc j ≡ i)
next_of None i h = absurd (cc)
next_of (Some j) i h = (j, refl, cc)

pub none_of : (o : Option ℕ) → option_map suc o ≡ None → o ≡ None
none_of None h = refl
none_of (Some j) h = absurd (cc)

-- a row is there for each shape
row_under : (rs : List rust.Shape) (i : ℕ) (s : Shape) → slice_get (structures rs) i ≡ Some s → (r : rust.Shape) × (slice_get rs i ≡ Some r)
row_under rs i s h = get_there rs i (omega (arith, slice_get_within (structures rs) i s h, long rs))

-- a row that is the same as a shape has that shape
same_under : (rs : List rust.Shape) → IsNumbering rs → (s : rust.Shape) (i : ℕ) → i < length rs → same_shape s (get_or rs i s) ≡ true → slice_get (structures rs) i ≡ Some (structure (structures rs) s)
same_under rs numbering s i within same =
    shape_under rs numbering i (get_or rs i s) (slice_get-get_or rs i s within) ∙ ap Some (sym (same_sound (shape_at (structures rs)) s (get_or rs i s) same))

-- a row that is lent, if there is one
module _ (rs : List rust.Shape) (numbering : IsNumbering rs) (i : ℕ) where
  none_under : (o : Option Shape) → slice_get (structures rs) i ≡ o → None ≡ slice_get rs i → None ≡ o
  none_under None e h = refl
  none_under (Some s) e h = let row = row_under rs i s e in absurd (cc (h, row.1))

  pub shape_lent : (o : Option (Bor rust.Shape)) → option_copied o ≡ slice_get rs i → option_map (λ x. structure (structures rs) x.now) o ≡ slice_get (structures rs) i
  shape_lent None e = none_under (slice_get (structures rs) i) refl e
  shape_lent (Some x) e = sym (shape_under rs numbering i x.now (sym e))

  pub receiver_lent : (o : Option (Bor rust.Shape)) → option_copied o ≡ slice_get rs i → IfSome o (λ x. IsThere i x.now)
  receiver_lent None e = tt
  receiver_lent (Some x) e = numbering.receivers i x.now (sym e)

  pub given_lent : (o : Option (Bor rust.Shape)) → option_copied o ≡ slice_get rs i → IfSome o (λ x. IsOuter x.now)
  given_lent None e = tt
  given_lent (Some x) e = numbering.givens i x.now (sym e)

  pub truth_lent : (o : Option (Bor rust.Shape)) → option_copied o ≡ slice_get rs i → unwrap_or (option_map (λ x. structure (structures rs) x.now) o) any ≡ shape_at (structures rs) i
  truth_lent o e = ap (λ s. unwrap_or s any) (shape_lent o e)

-- what the search finds has the shape, and is the only one
pub found : (rs : List rust.Shape) → IsNumbering rs → (s : rust.Shape) (i : ℕ) → position (same_shape s) rs ≡ Some i → slice_get (structures rs) i ≡ Some (structure (structures rs) s)
found rs numbering s i h =
    let facts = position-Some (same_shape s) rs i s h in
    same_under rs numbering s i facts.0 facts.1

-- a receiver's id is below the count
there_below : (n : ℕ) (r : rust.Shape) (i : ℕ) → IsThere n r → HasReceiver r i → i < n
there_below n (shape.BoundNative id row) i there is = subst (λ k. k < n) is there
there_below n r i there is = absurd is

-- a row that has a shape is the same as it
under_same : (rs : List rust.Shape) → IsNumbering rs → (s : rust.Shape) → IsThere (length rs) s → HasId (structures rs) (structure (structures rs) s) → list_any (same_shape s) rs ≡ true
under_same rs numbering s there has =
    let row = row_under rs has.0 (structure (structures rs) s) has.1 in
    let under = shape_under rs numbering has.0 row.0 row.1 in
    let same : structure (structures rs) row.0 ≡ structure (structures rs) s = some_is _ _ (sym under ∙ has.1) in
    let below : has.0 < length rs = slice_get_within rs has.0 row.0 row.1 in
    let one : (n m : ℕ) → HasReceiver s n → HasReceiver row.0 m → shape_at (structures rs) n ≡ shape_at (structures rs) m → n ≡ m =
    λ n m is also e. receiver_same (structures rs) numbering.once n m (omega (arith, there_below (length rs) s n there is, long rs)) (omega (arith, there_below has.0 row.0 m (numbering.receivers has.0 row.0 row.1) also, below, long rs)) e in
    any_passes_from_place (same_shape s) rs has.0 row.0 row.1 (same_complete (shape_at (structures rs)) s row.0 one (sym same))

pub not_found : (rs : List rust.Shape) → IsNumbering rs → (s : rust.Shape) → IsThere (length rs) s → list_any (same_shape s) rs ≡ false → HasId (structures rs) (structure (structures rs) s) → ⊥
not_found rs numbering s there h has = true≢false (sym (under_same rs numbering s there has) ∙ h)

-- a shape with no id is the same as no row
pub no_row : (rs : List rust.Shape) → IsNumbering rs → (s : rust.Shape) → (HasId (structures rs) (structure (structures rs) s) → ⊥) → list_any (same_shape s) rs ≡ false
no_row rs numbering s fresh = elim (cases_Bool (list_any (same_shape s) rs)) [
  | inl is ↦ let at = list_any_some (same_shape s) rs s is in absurd (fresh (at.0, same_under rs numbering s at.0 at.1 at.2))
  | inr none ↦ none
]
  where
    list_any_some : (p : rust.Shape → Bool) (xs : List rust.Shape) (d : rust.Shape) → list_any p xs ≡ true → (i : ℕ) × (i < length xs) × (p (get_or xs i d) ≡ true)
    list_any_some p [] d h = absurd (true≢false (sym h))
    list_any_some p (x ∷ xs) d h = elim (cases_Bool (p x)) [
      | inl is ↦ (0, omega arith, is)
      | inr other ↦ let more = list_any_some p xs d (ap (λ t. t || list_any p xs) (sym other) ∙ h) in (suc more.0, omega (arith, more.1), more.2)
    ]

-- a set's insert of a shape with no id puts it at the end
pub put_last : (rs : List rust.Shape) → IsNumbering rs → (s : rust.Shape) → (HasId (structures rs) (structure (structures rs) s) → ⊥) → insert_key same_shape rs s ≡ rs ++ s ∷ []
put_last rs numbering s fresh = ap (λ b. if b then rs else rs ++ s ∷ []) (no_row rs numbering s fresh)

-- ---- a shape that is added

pub pushed : (rs : List rust.Shape) (s : rust.Shape) → structures (rs ++ s ∷ []) ≡ structures rs ++ structure (structures rs) s ∷ []
pushed rs s = structures_push [] rs s

get_push : {X : Type 0} (xs : List X) (y : X) (i : ℕ) (x : X) → slice_get (xs ++ y ∷ []) i ≡ Some x → (slice_get xs i ≡ Some x) ⊎ ((i ≡ length xs) × (y ≡ x))
get_push [] y zero x h = inr (refl, some_is y x h)
get_push [] y (suc i) x h = absurd (cc)
get_push (z ∷ xs) y zero x h = inl h
get_push (z ∷ xs) y (suc i) x h = elim (get_push xs y i x h) [
  | inl before ↦ inl before
  | inr end ↦ inr (ap suc end.0, end.1)
]

once_more : (xs : List Shape) (s : Shape) → HaveOneId xs → (HasId xs s → ⊥) → HaveOneId (xs ++ s ∷ [])
once_more xs s once fresh i j t at other = elim (get_push xs s i t at) [
  | inl first ↦ elim (get_push xs s j t other) [
    | inl second ↦ once i j t first second
    | inr last ↦ absurd (fresh (i, first ∙ ap Some (sym last.1)))
  ]
  | inr end ↦ elim (get_push xs s j t other) [
    | inl second ↦ absurd (fresh (j, second ∙ ap Some (sym end.1)))
    | inr last ↦ end.0 ∙ sym last.0
  ]
]

pub numbering_more : (rs : List rust.Shape) (s : rust.Shape) → IsNumbering rs → IsThere (length rs) s → IsOuter s → (HasId (structures rs) (structure (structures rs) s) → ⊥) → length rs + 1 ≤ 2 ^ 32 - 1 → IsNumbering (rs ++ s ∷ [])
numbering_more rs s numbering there outer fresh room = record {
  receivers = λ i r at. elim (get_push rs s i r at) [
    | inl before ↦ numbering.receivers i r before
    | inr end ↦ subst (λ n. IsThere n r) (sym end.0) (subst (IsThere (length rs)) end.1 there)
  ];
  givens = λ i r at. elim (get_push rs s i r at) [
    | inl before ↦ numbering.givens i r before
    | inr end ↦ subst IsOuter end.1 outer
  ];
  once = subst HaveOneId (sym (pushed rs s)) (once_more (structures rs) (structure (structures rs) s) numbering.once fresh);
  few = omega (arith, room, length-append rs (s ∷ []));
}

pub numbering_none : IsNumbering []
numbering_none = record {
  receivers = λ i r at. absurd (cc);
  givens = λ i r at. absurd (cc);
  once = λ i j s at other. absurd (cc);
  few = omega arith;
}

pub get_end : (xs : List Shape) (s : Shape) (i : ℕ) → i ≡ length xs → slice_get (xs ++ s ∷ []) i ≡ Some s
get_end xs s i e = ap (slice_get (xs ++ s ∷ [])) e ∙ get_seam xs s []
