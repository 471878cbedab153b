-- The first range that covers a place, among ranges from the shortest on, is the innermost one.
use Rattle.std.proofs.Common.{◌≡◌, ℕ, suc, zero, ◌<◌, ◌≤◌, Bool, true, false, not, ◌&&◌, nat_lt, nat_eq, cond, if◌then◌else◌, Option, Some, None, List, [], ◌∷◌, filter, ◌⊎◌, inl, inr, refl, sym, ap, subst, ◌∙◌, arith}
use Rattle.std.specs.List.{Contains}
use Rattle.std.specs.List.Sorted.{IsPermutation, IsNonDecreasingBy, IsStableByKey}
use Rattle.std.specs.Ordering.{nat_cmp, is_lt}
use Rattle.std.specs.declared.cmp.Ordering.TheVariants.{Less, Equal, Greater}
use Rattle.std.proofs.lemmas.Bool.Decides.{nat_tests}
use Rattle.std.proofs.lemmas.List.Sorted.{Contains-permutation, IsPermutation-sym}
use Rattle.std.proofs.lemmas.Option.{same_Some}
use Rattle.stack_code.specs.declared.code.Range.{Range}
use Rattle.stack_code.specs.Handlers.{covers, is_nearer, nearer, handler_at}
use Rattle.stack_code.specs.Painting.{length_of}
use Rattle.stack_code.proofs.Nearest.{handler_is}
use Rattle.stack_code.proofs.Painting.{first_over}
use Rattle.stack_code.proofs.Ways.{not_empty, in_cases}

-- ranges of a length
abbrev tie : ℕ → Range → Bool
tie n range = not (is_lt (nat_cmp n (length_of range))) && not (is_lt (nat_cmp (length_of range) n))

less_is : (a b : ℕ) → is_lt (nat_cmp a b) ≡ nat_lt a b
less_is a b = go (nat_lt a b) (nat_eq a b)
  where
    go : (x y : Bool) → is_lt (cond x Less (cond y Equal Greater)) ≡ x
    go true y = refl
    go false true = refl
    go false false = refl

tie_itself : (range : Range) → tie (length_of range) range ≡ true
tie_itself range = go (nat_lt (length_of range) (length_of range)) (below (length_of range))
  where
    below : (n : ℕ) → nat_lt n n ≡ false
    below n = grind (arith, nat_tests)

    go : (b : Bool) → nat_lt (length_of range) (length_of range) ≡ false → tie (length_of range) range ≡ true
    go b e = ap (λ t. not t && not t) (less_is (length_of range) (length_of range) ∙ e)

tie_longer : (n : ℕ) (range : Range) → nat_lt n (length_of range) ≡ true → tie n range ≡ false
tie_longer n range e = ap (λ t. not t && not (is_lt (nat_cmp (length_of range) n))) (less_is n (length_of range) ∙ e)

-- the innermost one is the first of its length
first_of_length : (ranges : List Range) (place : ℕ) (range : Range) → handler_at ranges place ≡ Some range → first_over (filter (tie (length_of range)) ranges) place ≡ Some range
first_of_length [] place range e = cc
first_of_length (x ∷ xs) place range e = go (covers x place) refl e (first_of_length xs place range)
  where
    skip : (b : Bool) → covers x place ≡ false → first_over (filter (tie (length_of range)) xs) place ≡ Some range → first_over (cond b (x ∷ filter (tie (length_of range)) xs) (filter (tie (length_of range)) xs)) place ≡ Some range
    skip true c more = ap (λ t. if t then Some x else first_over (filter (tie (length_of range)) xs) place) c ∙ more
    skip false c more = more

    here : covers x place ≡ true → x ≡ range → first_over (filter (tie (length_of range)) (x ∷ xs)) place ≡ Some range
    here c same =
        ap (λ b. first_over (cond b (x ∷ filter (tie (length_of range)) xs) (filter (tie (length_of range)) xs)) place) (ap (λ r. tie (length_of r) x) (sym same) ∙ tie_itself x)
        ∙ ap (λ t. if t then Some x else first_over (filter (tie (length_of range)) xs) place) c ∙ ap Some same

    pick : (o : Option Range) → handler_at xs place ≡ o → covers x place ≡ true → nearer (Some x) o ≡ Some range → (handler_at xs place ≡ Some range → first_over (filter (tie (length_of range)) xs) place ≡ Some range) → first_over (filter (tie (length_of range)) (x ∷ xs)) place ≡ Some range
    pick None f c e more = here c (same_Some x range e)
    pick (Some y) f c e more = one (is_nearer y (Some x)) refl e
      where
        one : (b : Bool) → is_nearer y (Some x) ≡ b → (if is_nearer y (Some x) then Some y else Some x) ≡ Some range → first_over (filter (tie (length_of range)) (x ∷ xs)) place ≡ Some range
        one true g e =
            let is : y ≡ range = same_Some y range (sym (ap (λ b. if b then Some y else Some x) g) ∙ e) in
            ap (λ b. first_over (cond b (x ∷ filter (tie (length_of range)) xs) (filter (tie (length_of range)) xs)) place) (tie_longer (length_of range) x (ap (λ r. nat_lt (length_of r) (length_of x)) (sym is) ∙ g))
            ∙ more (f ∙ ap Some is)
        one false g e = here c (same_Some x range (sym (ap (λ b. if b then Some y else Some x) g) ∙ e))

    go : (b : Bool) → covers x place ≡ b → (if b then nearer (Some x) (handler_at xs place) else handler_at xs place) ≡ Some range → (handler_at xs place ≡ Some range → first_over (filter (tie (length_of range)) xs) place ≡ Some range) → first_over (filter (tie (length_of range)) (x ∷ xs)) place ≡ Some range
    go true c e more = pick (handler_at xs place) refl c e more
    go false c e more = skip (tie (length_of range) x) c (more e)

-- where a range covers the place, there is an innermost one
none_covers : (ranges : List Range) (place : ℕ) (other : Range) → handler_at ranges place ≡ None → Contains ranges other → covers other place ≡ true → ⊥
none_covers [] place other e c over = not_empty other c
none_covers (x ∷ xs) place other e c over = go (covers x place) refl e (in_cases x other xs c) (none_covers xs place other)
  where
    some : (o : Option Range) → nearer (Some x) o ≡ None → ⊥
    some None e = cc
    some (Some y) e = pick (is_nearer y (Some x)) e
      where
        pick : (b : Bool) → (if b then Some y else Some x) ≡ None → ⊥
        pick true e = cc
        pick false e = cc

    go : (b : Bool) → covers x place ≡ b → (if b then nearer (Some x) (handler_at xs place) else handler_at xs place) ≡ None → (x ≡ other) ⊎ Contains xs other → (handler_at xs place ≡ None → Contains xs other → covers other place ≡ true → ⊥) → ⊥
    go true f e k more = some (handler_at xs place) e
    go false f e (inl same) more = let z : false ≡ true = sym f ∙ ap (λ r. covers r place) same ∙ over in cc
    go false f e (inr d) more = more e d over

-- no range that covers the place is shorter
pub no_shorter : (ranges : List Range) (place : ℕ) (range other : Range) → handler_at ranges place ≡ Some range → Contains ranges other → covers other place ≡ true → length_of range ≤ length_of other
no_shorter [] place range other e c over = cc
no_shorter (x ∷ xs) place range other e c over = go (covers x place) refl e (handler_at xs place) refl (in_cases x other xs c) (no_shorter xs place)
  where
    go : (b : Bool) → covers x place ≡ b → (if b then nearer (Some x) (handler_at xs place) else handler_at xs place) ≡ Some range → (o : Option Range) → handler_at xs place ≡ o → (x ≡ other) ⊎ Contains xs other
        → ((r : Range) (s : Range) → handler_at xs place ≡ Some r → Contains xs s → covers s place ≡ true → length_of r ≤ length_of s) → length_of range ≤ length_of other
    go false f e o h (inl same) more = absurd (let z : false ≡ true = sym f ∙ ap (λ r. covers r place) same ∙ over in cc)
    go false f e o h (inr d) more = more range other e d over
    go true f e None h (inl same) more =
        let is : x ≡ range = same_Some x range (sym (ap (nearer (Some x)) h) ∙ e) in
        omega (arith, ap length_of is, ap length_of same)
    go true f e None h (inr d) more = absurd (none_covers xs place other h d over)
    go true f e (Some y) h k more = pick (nat_lt (length_of y) (length_of x)) refl (sym (ap (nearer (Some x)) h) ∙ e) k
      where
        rest : (x ≡ other) ⊎ Contains xs other → (length_of y ≤ length_of other) ⊎ (x ≡ other)
        rest (inl same) = inr same
        rest (inr d) = inl (more y other h d over)

        least : (b : Bool) → nat_lt (length_of y) (length_of x) ≡ b → (r : Range) → (if b then Some y else Some x) ≡ Some r → (length_of y ≤ length_of other) ⊎ (x ≡ other) → length_of r ≤ length_of other
        least true g r i (inl l) = omega (arith, l, ap length_of (same_Some y r i))
        least true g r i (inr same) =
            let l : length_of y < length_of x = grind (arith, nat_tests) in
            omega (arith, l, ap length_of (same_Some y r i), ap length_of same)
        least false g r i (inl l) =
            let m : length_of x ≤ length_of y = grind (arith, nat_tests) in
            omega (arith, l, m, ap length_of (same_Some x r i))
        least false g r i (inr same) = omega (arith, ap length_of (same_Some x r i), ap length_of same)

        pick : (b : Bool) → nat_lt (length_of y) (length_of x) ≡ b → (if nat_lt (length_of y) (length_of x) then Some y else Some x) ≡ Some range → (x ≡ other) ⊎ Contains xs other → length_of range ≤ length_of other
        pick b g i k = least b g range (sym (ap (λ t. if t then Some y else Some x) g) ∙ i) (rest k)

-- among ranges from the shortest on it is the first
innermost_first : (ranges : List Range) (place : ℕ) → IsNonDecreasingBy length_of ranges → handler_at ranges place ≡ first_over ranges place
innermost_first [] place up = refl
innermost_first (x ∷ xs) place up = go (covers x place) (innermost_first xs place (λ i j d l m. up (suc i) (suc j) d (omega (arith, l)) (omega (arith, m))))
  where
    at : (o : Option Range) → handler_at xs place ≡ o → nearer (Some x) o ≡ Some x
    at None e = refl
    at (Some y) e = ap (λ b. if b then Some y else Some x) (no_nearer (handler_is xs place y e).0)
      where
        no_nearer : Contains xs y → nat_lt (length_of y) (length_of x) ≡ false
        no_nearer (k, l, i) =
            let m : length_of x ≤ length_of y = subst (λ r. length_of x ≤ length_of r) i (up zero (suc k) y (omega arith) (omega (arith, l))) in
            grind (arith, nat_tests)

    go : (b : Bool) → handler_at xs place ≡ first_over xs place → (if b then nearer (Some x) (handler_at xs place) else handler_at xs place) ≡ (if b then Some x else first_over xs place)
    go true e = at (handler_at xs place) refl
    go false e = e

-- a stable sort by length changes no handler
pub shortest_first : (xs ys : List Range) (place : ℕ) → IsPermutation xs ys → IsNonDecreasingBy length_of ys → IsStableByKey length_of nat_cmp xs ys → first_over ys place ≡ handler_at xs place
shortest_first xs ys place moved up stable = sym (innermost_first ys place up) ∙ go (handler_at ys place) refl (handler_at xs place) refl
  where
    in_ys : (range : Range) → Contains xs range → Contains ys range
    in_ys range c = Contains-permutation xs ys range moved c

    in_xs : (range : Range) → Contains ys range → Contains xs range
    in_xs range c = Contains-permutation ys xs range (IsPermutation-sym xs ys moved) c

    go : (one : Option Range) → handler_at ys place ≡ one → (other : Option Range) → handler_at xs place ≡ other → handler_at ys place ≡ handler_at xs place
    go None e None f = e ∙ sym f
    go None e (Some q) f = absurd (none_covers ys place q e (in_ys q (handler_is xs place q f).0) (handler_is xs place q f).1)
    go (Some r) e None f = absurd (none_covers xs place r f (in_xs r (handler_is ys place r e).0) (handler_is ys place r e).1)
    go (Some r) e (Some q) f =
        let le : length_of r ≤ length_of q = no_shorter ys place r q e (in_ys q (handler_is xs place q f).0) (handler_is xs place q f).1 in
        let ge : length_of q ≤ length_of r = no_shorter xs place q r f (in_xs r (handler_is ys place r e).0) (handler_is ys place r e).1 in
        let same : length_of r ≡ length_of q = omega (arith, le, ge) in
        e ∙ sym (first_of_length ys place r e) ∙ ap (λ n. first_over (filter (tie n) ys) place) same
        ∙ ap (λ zs. first_over zs place) (stable q) ∙ first_of_length xs place q f ∙ sym f
