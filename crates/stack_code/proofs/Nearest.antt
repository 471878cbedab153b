-- The innermost range of a place: which it is.
use Rattle.std.proofs.Common.{◌≡◌, ℕ, suc, ◌<◌, ◌≤◌, Bool, true, false, ◌&&◌, nat_le, nat_lt, if◌then◌else◌, Option, Some, None, List, [], ◌∷◌, length, get_or, slice_get, refl, sym, ap, subst, ◌∙◌, arith}
use Rattle.std.specs.List.{Contains}
use Rattle.std.proofs.lemmas.Bool.Decides.{nat_tests}
use Rattle.std.proofs.lemmas.Option.{same_Some, slice_get-get_or}
use Rattle.std.specs.List.Sorted.{IsPermutation}
use Rattle.std.proofs.lemmas.List.Elements.{Contains-get_or}
use Rattle.std.proofs.lemmas.List.Sorted.{Contains-permutation, IsPermutation-sym}
use Rattle.stack_code.specs.declared.code.Code.{Code}
use Rattle.stack_code.specs.declared.code.Range.{Range}
use Rattle.stack_code.specs.Validity.{RangesLieIn}
use Rattle.stack_code.specs.Handlers.{covers, is_nearer, nearer, handler_at}
use Rattle.stack_code.proofs.Ways.{first_in, later_in}

-- no range covers a place past the end
pub handler_past : (ranges : List Range) (places place : ℕ) → ((number : ℕ) (range : Range) → slice_get ranges number ≡ Some range → range.past ≤ places) → places ≤ place → handler_at ranges place ≡ None
handler_past [] places place lie past = refl
handler_past (x ∷ xs) places place lie past =
    ap (λ b. if b then nearer (Some x) (handler_at xs place) else handler_at xs place) (not_covered (nat_lt place x.past) refl)
    ∙ handler_past xs places place (λ number range e. lie (suc number) range e) past
  where
    not_covered : (b : Bool) → nat_lt place x.past ≡ b → covers x place ≡ false
    not_covered false e = ap (λ t. nat_le x.first place && t) e ∙ and_false (nat_le x.first place)
      where
        and_false : (a : Bool) → (a && false) ≡ false
        and_false true = refl
        and_false false = refl
    not_covered true e =
        let l : place < x.past = grind (arith, nat_tests) in
        absurd (omega (arith, l, lie 0 x refl, past))

-- ---- which range it is

both_true : (a b : Bool) → (a && b) ≡ true → (a ≡ true) × (b ≡ true)
both_true true b e = (refl, e)
both_true false b e = cc

pub covers_from : (range : Range) (place : ℕ) → covers range place ≡ true → range.first ≤ place
covers_from range place e =
    let t : nat_le range.first place ≡ true = (both_true (nat_le range.first place) (nat_lt place range.past) e).0 in
    grind (arith, nat_tests)

pub covers_before : (range : Range) (place : ℕ) → covers range place ≡ true → place < range.past
covers_before range place e =
    let t : nat_lt place range.past ≡ true = (both_true (nat_le range.first place) (nat_lt place range.past) e).1 in
    grind (arith, nat_tests)

pub covers_it : (range : Range) (place : ℕ) → range.first ≤ place → place < range.past → covers range place ≡ true
covers_it range place l m = grind (arith, nat_tests)

-- the handler is one of the ranges, and covers the place
pub handler_is : (ranges : List Range) (place : ℕ) (range : Range) → handler_at ranges place ≡ Some range → Contains ranges range × (covers range place ≡ true)
handler_is [] place range e = cc
handler_is (x ∷ xs) place range e = go (covers x place) refl e (handler_is xs place range)
  where
    later : Contains xs range × (covers range place ≡ true) → Contains (x ∷ xs) range × (covers range place ≡ true)
    later h = (later_in x range xs h.0, h.1)

    here : covers x place ≡ true → x ≡ range → Contains (x ∷ xs) range × (covers range place ≡ true)
    here c same = subst (λ r. Contains (x ∷ xs) r × (covers r place ≡ true)) same (first_in x xs, c)

    pick : (o : Option Range) → handler_at xs place ≡ o → covers x place ≡ true → nearer (Some x) o ≡ Some range → (handler_at xs place ≡ Some range → Contains xs range × (covers range place ≡ true)) → Contains (x ∷ xs) range × (covers range place ≡ true)
    pick None f c e more = here c (same_Some x range e)
    pick (Some y) f c e more = one (is_nearer y (Some x)) refl e
      where
        one : (b : Bool) → is_nearer y (Some x) ≡ b → (if is_nearer y (Some x) then Some y else Some x) ≡ Some range → Contains (x ∷ xs) range × (covers range place ≡ true)
        one true g e = later (more (f ∙ sym (ap (λ b. if b then Some y else Some x) g) ∙ e))
        one false g e = here c (same_Some x range (sym (ap (λ b. if b then Some y else Some x) g) ∙ e))

    go : (b : Bool) → covers x place ≡ b → (if b then nearer (Some x) (handler_at xs place) else handler_at xs place) ≡ Some range → (handler_at xs place ≡ Some range → Contains xs range × (covers range place ≡ true)) → Contains (x ∷ xs) range × (covers range place ≡ true)
    go true c e more = pick (handler_at xs place) refl c e more
    go false c e more = later (more e)

-- ranges of a code end in it, in whatever order they are
pub lies_within : (code : Code) (sorted : List Range) (i : ℕ) (d : Range) → RangesLieIn code → IsPermutation code.ranges sorted → i < length sorted → (get_or sorted i d).past ≤ length code.ops
lies_within code sorted i d lie moved l = go (Contains-permutation sorted code.ranges (get_or sorted i d) (IsPermutation-sym code.ranges sorted moved) (Contains-get_or sorted i d l))
  where
    go : Contains code.ranges (get_or sorted i d) → (get_or sorted i d).past ≤ length code.ops
    go (k, m, e) = (lie k (get_or sorted i d) (slice_get-get_or code.ranges k (get_or sorted i d) m ∙ ap Some e)).within
