-- What the set of the places of true values has, and how that set follows what happens to the values.
use Rattle.std.proofs.Common.{◌≡◌, ℕ, zero, suc, ◌+◌, ◌<◌, ◌==◌, inl, inr, Bool, true, false, not, ◌||◌, List, [], ◌∷◌, ◌++◌, length, replicate, slice_set, refl, sym, ap, ◌∙◌, arith, add-zero, eq-eqb, get_or, take, drop, true≢false}
use Rattle.std.specs.Bool.{MatchBool, OnTrue}
use Rattle.std.proofs.lemmas.Bool.{ne_eqb, cases_lt}
use Rattle.std.proofs.lemmas.Bool.Decides.{eqb_tells}
use Rattle.std.proofs.lemmas.List.{get_or-replicate, get_or_past, length-replicate}
use Rattle.std.proofs.lemmas.List.{take-append-le, take_all}
use Rattle.std.specs.Ordering.{nat_cmp}
use Rattle.std.specs.Cmp.{nat_cmp_total, unsigned_tied}
use Rattle.std.specs.FinSet.{FinSet, contains, insert, union, is_subset, empty, contains-empty, contains-insert, contains-union, same_set, nat_cmp-IsAntisymmetric, contains-is_subset, is_subset-contains}
use Rattle.shape_sets.specs.Planes.{members_from, members_of, holds, IsUnion, IsWithin, HasMore}
use Rattle.shape_sets.specs.Sets.{Members, grew}

pub same_value : (s t : Members) → s.width ≡ t.width → s.members ≡ t.members → s ≡ t
same_value s t width members = λ i. record { width = width i; members = members i }

-- ---- what the set has

apart : (q n : ℕ) (s : FinSet nat_cmp) → q < n → contains (insert s n) q ≡ contains s q
apart q n s below =
    contains-insert nat_cmp_total s n q ∙ ap (λ b. b || contains s q) (unsigned_tied q n ∙ ne_eqb q n (λ e. absurd (omega (arith, below, e))))

apart_above : (q n : ℕ) (s : FinSet nat_cmp) → n < q → contains (insert s n) q ≡ contains s q
apart_above q n s above =
    contains-insert nat_cmp_total s n q ∙ ap (λ b. b || contains s q) (unsigned_tied q n ∙ ne_eqb q n (λ e. absurd (omega (arith, above, e))))

itself : (n : ℕ) (s : FinSet nat_cmp) → contains (insert s n) n ≡ true
itself n s = contains-insert nat_cmp_total s n n ∙ ap (λ b. b || contains s n) (unsigned_tied n n ∙ eq-eqb n n refl)

contains_below : (n : ℕ) (bs : List Bool) (q : ℕ) → q < n → contains (members_from n bs) q ≡ false
contains_below n [] q below = contains-empty nat_cmp q
contains_below n (true ∷ bs) q below = apart q n _ below ∙ contains_below (suc n) bs q (omega (arith, below))
contains_below n (false ∷ bs) q below = contains_below (suc n) bs q (omega (arith, below))

contains_from : (n : ℕ) (bs : List Bool) (k : ℕ) → contains (members_from n bs) (n + k) ≡ holds bs k
contains_from n [] k = contains-empty nat_cmp (n + k)
contains_from n (true ∷ bs) zero = rw add-zero (itself n _)
contains_from n (false ∷ bs) zero = rw add-zero (contains_below (suc n) bs n (omega arith))
contains_from n (true ∷ bs) (suc k) =
    apart_above (n + suc k) n _ (omega arith) ∙ ap (λ q. contains (members_from (suc n) bs) q) (omega arith) ∙ contains_from (suc n) bs k
contains_from n (false ∷ bs) (suc k) =
    ap (λ q. contains (members_from (suc n) bs) q) (omega arith) ∙ contains_from (suc n) bs k

pub contains-members_of : (bs : List Bool) (k : ℕ) → contains (members_of bs) k ≡ holds bs k
contains-members_of bs k = ap (λ q. contains (members_of bs) q) (omega arith) ∙ contains_from 0 bs k

-- it is any set that has the places of the true values
same_members : (bs : List Bool) (s : FinSet nat_cmp) → ((k : ℕ) → holds bs k ≡ contains s k) → members_of bs ≡ s
same_members bs s each = same_set nat_cmp_total nat_cmp-IsAntisymmetric (members_of bs) s (λ q. contains-members_of bs q ∙ each q)

-- ---- no true value

holds-replicate : (n k : ℕ) → holds (replicate n false) k ≡ false
holds-replicate n k = elim (cases_lt k n) [
  | inl within ↦ get_or-replicate n k false false within
  | inr past ↦ get_or_past (replicate n false) k false (omega (arith, length-replicate n false, past))
]

pub members-replicate : (bs : List Bool) (n : ℕ) → bs ≡ replicate n false → members_of bs ≡ empty
members-replicate bs n e = rw e (same_members (replicate n false) empty (λ k. holds-replicate n k ∙ sym (contains-empty nat_cmp k)))

-- ---- more room

holds-more_room : (bs : List Bool) (n k : ℕ) → holds (bs ++ replicate n false) k ≡ holds bs k
holds-more_room [] n k = holds-replicate n k
holds-more_room (b ∷ bs) n zero = refl
holds-more_room (b ∷ bs) n (suc k) = holds-more_room bs n k

pub members-more_room : (bs new : List Bool) (n : ℕ) → new ≡ bs ++ replicate n false → members_of new ≡ members_of bs
members-more_room bs new n e = rw e (same_members (bs ++ replicate n false) (members_of bs) (λ k. holds-more_room bs n k ∙ sym (contains-members_of bs k)))

-- ---- one more

eqb-suc : (k n : ℕ) → (k == n) ≡ (suc k == suc n)
eqb-suc k n = elim (eqb_tells k n) [
  | inl same ↦ same.0 ∙ sym (eq-eqb (suc k) (suc n) (ap suc same.1))
  | inr other ↦ other.0 ∙ sym (ne_eqb (suc k) (suc n) (λ e. other.1 (omega (arith, e))))
]

holds-set : (bs : List Bool) (n k : ℕ) → n < length bs → holds (slice_set bs n true) k ≡ ((k == n) || holds bs k)
holds-set [] n k h = absurd (omega (arith, h))
holds-set (b ∷ bs) zero zero h = refl
holds-set (b ∷ bs) zero (suc k) h = ap (λ t. t || holds bs k) (sym (ne_eqb (suc k) 0 (λ e. absurd (omega (arith, e)))))
holds-set (b ∷ bs) (suc n) zero h = ap (λ t. t || b) (sym (ne_eqb 0 (suc n) (λ e. absurd (omega (arith, e)))))
holds-set (b ∷ bs) (suc n) (suc k) h = holds-set bs n k (omega (arith, h)) ∙ ap (λ t. t || holds bs k) (eqb-suc k n)

pub members-set : (bs : List Bool) (n : ℕ) → n < length bs → members_of (slice_set bs n true) ≡ insert (members_of bs) n
members-set bs n h =
    same_members (slice_set bs n true) (insert (members_of bs) n) (λ k. holds-set bs n k h ∙ sym (contains-insert nat_cmp_total (members_of bs) n k ∙ (λ i. unsigned_tied k n i || contains-members_of bs k i)))

-- ---- what two sets have of each other

grew_with_more : (old new : List Bool) → HasMore new old → grew (members_of old) (members_of new) ≡ true
grew_with_more old new more =
    elim (is_subset (members_of new) (members_of old)) as (λ b. is_subset (members_of new) (members_of old) ≡ b → not b ≡ true) [
      | true ↦ λ e. absurd (true≢false (sym (is_subset-contains nat_cmp_total _ _ e more.place (contains-members_of new more.place ∙ more.here)) ∙ contains-members_of old more.place ∙ more.not_there))
      | false ↦ λ e. refl
    ] refl

pub within_is_subset : (held others : List Bool) → IsWithin held others → is_subset (members_of held) (members_of others) ≡ true
within_is_subset held others within =
    contains-is_subset nat_cmp_total _ _ (λ q one. contains-members_of others q ∙ within.each q (sym (contains-members_of held q) ∙ one))

pub grown : (old new : List Bool) (more : Bool) → MatchBool more (HasMore new old) (IsWithin new old) → more ≡ grew (members_of old) (members_of new)
grown old new true more = sym (grew_with_more old new more)
grown old new false within = ap not (sym (within_is_subset new old within))

not_twice : (b : Bool) → not (not b) ≡ b
not_twice true = refl
not_twice false = refl

pub subset : (held others : List Bool) (more : Bool) → MatchBool more (HasMore held others) (IsWithin held others) → not more ≡ is_subset (members_of held) (members_of others)
subset held others more told = ap not (grown others held more told) ∙ not_twice _

-- ---- a value that is set, and what that adds

pub set_or_not : (bs : List Bool) (n : ℕ) (b : Bool) → n < length bs → holds bs n ≡ b → MatchBool (not b) (HasMore (slice_set bs n true) bs) (IsWithin (slice_set bs n true) bs)
set_or_not bs n false h e = record { place = n; here = holds-set bs n n h ∙ ap (λ t. t || holds bs n) (eq-eqb n n refl); not_there = e }
set_or_not bs n true h e = record {
  each = λ k one. elim (eqb_tells k n) [
    | inl same ↦ ap (λ q. holds bs q) same.1 ∙ e
    | inr other ↦ sym (ap (λ t. t || holds bs k) other.0) ∙ sym (holds-set bs n k h) ∙ one
  ];
}

-- ---- two sets together

pub members-union : (old more new : List Bool) → IsUnion old more new → members_of new ≡ union (members_of old) (members_of more)
members-union old more new either =
    same_members new (union (members_of old) (members_of more)) (λ k. either.either k ∙ sym (contains-union nat_cmp_total (members_of old) (members_of more) k ∙ (λ i. contains-members_of old k i || contains-members_of more k i)))

absorbs : (a b : Bool) → (b ≡ true → a ≡ true) → (a || b) ≡ a
absorbs true b h = refl
absorbs false true h = sym (h refl)
absorbs false false h = refl

pub union_of_subset : (s t : FinSet nat_cmp) → is_subset t s ≡ true → s ≡ union s t
union_of_subset s t sub = same_set nat_cmp_total nat_cmp-IsAntisymmetric s (union s t) (λ q. sym (contains-union nat_cmp_total s t q ∙ absorbs (contains s q) (contains t q) (λ one. is_subset-contains nat_cmp_total t s sub q one)))

pub union_grows : (old more new : List Bool) → IsUnion old more new → HasMore more old → HasMore new old
union_grows old more new either has = record {
  place = has.place;
  here = either.either has.place ∙ ap (λ b. b || holds more has.place) has.not_there ∙ has.here;
  not_there = has.not_there;
}

-- what a vector holds after all its values are written
pub written : (n : ℕ) (old new : List Bool) → length old ≡ n → length new ≡ length old → take n (new ++ drop (length new) old) ≡ new
written n old new long same =
    take-append-le n new (drop (length new) old) (omega arith) ∙ take_all n new (omega arith)

-- a value that an index reads
pub holds-read : (bs : List Bool) (n : ℕ) (d : Bool) → n < length bs → get_or bs n d ≡ d → holds bs n ≡ d
holds-read [] n d h e = absurd (omega (arith, h))
holds-read (b ∷ bs) zero d h e = e
holds-read (b ∷ bs) (suc n) d h e = holds-read bs n d (omega (arith, h)) e

pub holds-within : (bs : List Bool) (k : ℕ) (b : Bool) → b ≡ holds bs k → OnTrue b (k < length bs)
holds-within bs k true e = elim (cases_lt k (length bs)) [
  | inl within ↦ within
  | inr past ↦ absurd (true≢false (e ∙ get_or_past bs k false past))
]
holds-within bs k false e = tt
