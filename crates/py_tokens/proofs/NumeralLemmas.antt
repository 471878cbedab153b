-- The lengths and the values of digits.
use Rattle.std.proofs.Common.{◌≡◌, ℕ, zero, suc, ◌+◌, ◌*◌, ◌^◌, ◌<◌, ◌≤◌, ◌≢◌, true, false, not, ◌==◌, nat_lt, cond, List, [], ◌∷◌, length, get_or, drop, filter, None, Some, refl, ap, ◌∙◌, arith, add-one, drop-cons}
use Rattle.std.specs.Char.{digit_value}
use Rattle.std.specs.Str.Parse.{digits_value_after}
use Rattle.std.proofs.lemmas.Bool.{cond_both, ltb-true}
use Rattle.std.proofs.lemmas.Bool.Decides.{nat_tests}
use Rattle.std.proofs.lemmas.List.{drop-drop, drop_all}
use Rattle.std.proofs.Math.Nat.{mul-le-mul_left}
use Rattle.py_tokens.specs.Numerals.{goes_on, more_len, fitting}

more_step : (base : ℕ) (xs : List ℕ) → goes_on base xs ≡ true → more_len base xs ≡ 1 + more_len base (drop 1 xs)
more_step base [] h = absurd (cc)
more_step base (b ∷ bs) h = ap (λ t. cond t (1 + more_len base bs) 0) h

-- digits that don't go on have no length
pub more_stops : (base : ℕ) (xs : List ℕ) → goes_on base xs ≡ false → more_len base xs ≡ 0
more_stops base [] h = refl
more_stops base (b ∷ bs) h = ap (λ t. cond t (1 + more_len base bs) 0) h

-- digits that go on have one byte more
pub more_goes_on : (base i : ℕ) (xs : List ℕ) → goes_on base (drop i xs) ≡ true → more_len base (drop i xs) ≡ 1 + more_len base (drop (i + 1) xs)
more_goes_on base i xs h = more_step base (drop i xs) h ∙ ap (λ ys. 1 + more_len base ys) (drop-drop 1 i xs)

after_kept : (base n x : ℕ) (xs : List ℕ) → x ≢ 95 →
    digits_value_after base n (filter (λ b. not (b == 95)) (x ∷ xs)) ≡ digits_value_after base (n * base + digit_value x) (filter (λ b. not (b == 95)) xs)
after_kept base n x xs other =
    let kept : (not (x == 95)) ≡ true = grind (arith, nat_tests) in
    ap (λ t. digits_value_after base n (cond t (x ∷ filter (λ b. not (b == 95)) xs) (filter (λ b. not (b == 95)) xs))) kept

after_mark : (base n x : ℕ) (xs : List ℕ) → x ≡ 95 →
    digits_value_after base n (filter (λ b. not (b == 95)) (x ∷ xs)) ≡ digits_value_after base n (filter (λ b. not (b == 95)) xs)
after_mark base n x xs same =
    let left : (not (x == 95)) ≡ false = grind (arith, nat_tests) in
    ap (λ t. digits_value_after base n (cond t (x ∷ filter (λ b. not (b == 95)) xs) (filter (λ b. not (b == 95)) xs))) left

split_at : (i : ℕ) (xs : List ℕ) → i < length xs → drop i xs ≡ get_or xs i 0 ∷ drop (i + 1) xs
split_at i xs h = rw (add-one, drop-cons xs i 0)

-- a digit is read
pub reads_digit : (base n i : ℕ) (xs : List ℕ) → i < length xs → get_or xs i 0 ≢ 95 →
    digits_value_after base n (filter (λ b. not (b == 95)) (drop i xs))
    ≡ digits_value_after base (n * base + digit_value (get_or xs i 0)) (filter (λ b. not (b == 95)) (drop (i + 1) xs))
reads_digit base n i xs within other =
    ap (λ ys. digits_value_after base n (filter (λ b. not (b == 95)) ys)) (split_at i xs within) ∙ after_kept base n (get_or xs i 0) (drop (i + 1) xs) other

-- a `_` is passed over
pub passes_mark : (base n i : ℕ) (xs : List ℕ) → i < length xs → get_or xs i 0 ≡ 95 →
    digits_value_after base n (filter (λ b. not (b == 95)) (drop i xs)) ≡ digits_value_after base n (filter (λ b. not (b == 95)) (drop (i + 1) xs))
passes_mark base n i xs within same =
    ap (λ ys. digits_value_after base n (filter (λ b. not (b == 95)) ys)) (split_at i xs within) ∙ after_mark base n (get_or xs i 0) (drop (i + 1) xs) same

after_ge : (base n : ℕ) (ds : List ℕ) → 0 < base → n ≤ digits_value_after base n ds
after_ge base n [] some = omega arith
after_ge base n (d ∷ ds) some =
    let one : 1 ≤ base = omega arith in
    omega (arith, mul-le-mul_left n one, after_ge base (n * base + digit_value d) ds some)

value_small : (x : ℕ) → digit_value x ≤ 36
value_small x = grind (arith, nat_tests)

wide_from : (n : ℕ) → fitting n ≡ None → 2 ^ 128 ≤ n
wide_from n h = grind (arith, nat_tests)

wide_is : (n : ℕ) → 2 ^ 128 ≤ n → fitting n ≡ None
wide_is n h = grind (arith, nat_tests)

base_some : (base n d : ℕ) → d ≤ 36 → 2 ^ 128 ≤ n * base + d → 0 < base
base_some zero n d small wide = absurd (omega (arith, small, wide))
base_some (suc base) n d small wide = omega arith

-- a number that doesn't fit is not made less by more digits
pub stays_wide : (base n x : ℕ) (ds : List ℕ) → fitting (n * base + digit_value x) ≡ None → fitting (digits_value_after base (n * base + digit_value x) ds) ≡ None
stays_wide base n x ds h =
    let m = n * base + digit_value x in
    let wide : 2 ^ 128 ≤ m = wide_from m h in
    let some = base_some base n (digit_value x) (value_small x) wide in
    wide_is (digits_value_after base m ds) (omega (arith, wide, after_ge base m ds some))

-- a number that fits is below 2^128
pub fits : (n m : ℕ) → fitting n ≡ Some m → (m ≡ n) × (m < 2 ^ 128)
fits n m h =
    cond_both (nat_lt n (2 ^ 128)) (Some n) None (λ o. o ≡ Some m → (m ≡ n) × (m < 2 ^ 128))
    (λ is e. let same : m ≡ n = cc in (same, omega (arith, ltb-true n (2 ^ 128) is, same)))
    (λ _ e. absurd (cc))
    h

pub does_fit : (n : ℕ) → n < 2 ^ 128 → fitting n ≡ Some n
does_fit n h = let is : nat_lt n (2 ^ 128) ≡ true = grind (arith, nat_tests) in ap (λ t. cond t (Some n) None) is

-- where no digit is left, the number is the whole
pub ends_number : (base n i : ℕ) (xs : List ℕ) → length xs ≤ i → digits_value_after base n (filter (λ b. not (b == 95)) (drop i xs)) ≡ n
ends_number base n i xs h = ap (λ ys. digits_value_after base n (filter (λ b. not (b == 95)) ys)) (drop_all i xs h)
