-- A numeric literal is a front of the text that is ASCII, and has some bytes.
use Rattle.std.proofs.Common.{◌≡◌, ℕ, zero, suc, ◌+◌, ◌<◌, ◌≤◌, Bool, true, false, ◌&&◌, ◌||◌, ◌==◌, nat_lt, cond, inl, inr, List, [], ◌∷◌, length, take, drop, None, Some, ap, arith}
use Rattle.std.specs.Char.{is_ascii_digit, is_digit}
use Rattle.std.specs.List.{prefix_len}
use Rattle.std.specs.Str.{IsAscii, IsUtf8, IsCharBoundary}
use Rattle.std.proofs.lemmas.Bool.{cases_Bool, and_parts, or_cases, or_parts, or_left, cond_both}
use Rattle.std.proofs.lemmas.Bool.Decides.{nat_tests}
use Rattle.std.proofs.lemmas.List.Sums.{prefix_len-le-length}
use Rattle.std.proofs.lemmas.Str.{IsUtf8-from_ascii, IsCharBoundary-from_take}
use Rattle.std.proofs.lemmas.Str.Ascii.{IsAscii-nil, IsAscii-cons}
use Rattle.py_tokens.specs.declared.numeral.FoundNumeral.{FoundNumeral}
use Rattle.py_tokens.specs.declared.numeral.Numeral.TheVariants.{Float, Imaginary}
use Rattle.py_tokens.specs.Numerals.{begins, goes_on, more_len, digits_len, base_of_letter, base_of, fraction_len, exponent_mark_len, exponent_len, float_len, integer_of, literal, whole_len, whole_of, decimal_of, based_or, longest_of, starts_numeral}

-- the length of the longest front that is ASCII
abbrev pub ascii_len : List ℕ → ℕ
ascii_len text = prefix_len (λ b. nat_lt b 128) text

ascii_cons : (b : ℕ) (bs : List ℕ) → b < 128 → ascii_len (b ∷ bs) ≡ 1 + ascii_len bs
ascii_cons b bs h = let is : nat_lt b 128 ≡ true = grind (arith, nat_tests) in ap (λ t. cond t (1 + ascii_len bs) 0) is

ascii_more : (b m : ℕ) (bs : List ℕ) → suc m ≤ ascii_len (b ∷ bs) → (b < 128) × (m ≤ ascii_len bs)
ascii_more b m bs h = elim (cases_Bool (nat_lt b 128)) [
  | inl is ↦ (let low : b < 128 = grind (arith, nat_tests) in (low, omega (arith, h, ascii_cons b bs low)))
  | inr other ↦ absurd (omega (arith, h, ap (λ t. cond t (1 + ascii_len bs) 0) other))
]

-- a front that follows an ASCII front makes it longer
pub longer : (m n : ℕ) (xs : List ℕ) → m ≤ ascii_len xs → n ≤ ascii_len (drop m xs) → m + n ≤ ascii_len xs
longer zero n xs h k = omega (arith, k)
longer (suc m) n [] h k = absurd (omega (arith, h))
longer (suc m) n (b ∷ bs) h k =
    let parts = ascii_more b m bs h in
    omega (arith, longer m n bs parts.1 k, ascii_cons b bs parts.0)

digit_ascii : (b base : ℕ) → base ≤ 36 → is_digit b base ≡ true → b < 128
digit_ascii b base small h = grind (arith, nat_tests)

mark_ascii : (b : ℕ) → (b == 95) ≡ true → b < 128
mark_ascii b h = grind (arith, nat_tests)

goes_ascii : (base b : ℕ) (bs : List ℕ) → base ≤ 36 → goes_on base (b ∷ bs) ≡ true → b < 128
goes_ascii base b bs small h = elim (or_cases (is_digit b base) _ h) [
  | inl digit ↦ digit_ascii b base small digit
  | inr mark ↦ mark_ascii b (and_parts (b == 95) (begins (λ c. is_digit c base) bs) mark).0
]

more_ascii : (base : ℕ) (xs : List ℕ) → base ≤ 36 → more_len base xs ≤ ascii_len xs
more_ascii base [] small = omega arith
more_ascii base (b ∷ bs) small =
    cond_both (goes_on base (b ∷ bs)) (1 + more_len base bs) 0 (λ n. n ≤ ascii_len (b ∷ bs))
    (λ goes. omega (arith, more_ascii base bs small, ascii_cons b bs (goes_ascii base b bs small goes)))
    (λ _. omega arith)

digits_ascii : (base : ℕ) (xs : List ℕ) → base ≤ 36 → digits_len base xs ≤ ascii_len xs
digits_ascii base xs small =
    cond_both (begins (λ b. is_digit b base) xs) (more_len base xs) 0 (λ n. n ≤ ascii_len xs) (λ _. more_ascii base xs small) (λ _. omega arith)

-- a text that begins with an ASCII byte
first_ascii : (test : ℕ → Bool) (xs : List ℕ) → ((b : ℕ) → test b ≡ true → b < 128) → begins test xs ≡ true → 1 ≤ ascii_len xs
first_ascii test [] low h = absurd (cc)
first_ascii test (b ∷ bs) low h = omega (arith, ascii_cons b bs (low b h))

low_byte : (k b : ℕ) → k < 128 → (b == k) ≡ true → b < 128
low_byte k b low h = grind (arith, nat_tests)

low_two : (k j b : ℕ) → k < 128 → j < 128 → (b == k || b == j) ≡ true → b < 128
low_two k j b low less h = elim (or_cases (b == k) (b == j) h) [ inl one ↦ low_byte k b low one | inr other ↦ low_byte j b less other ]

fraction_ascii : (xs : List ℕ) → fraction_len xs ≤ ascii_len xs
fraction_ascii xs =
    cond_both (begins (λ b. b == 46) xs) (1 + digits_len 10 (drop 1 xs)) 0 (λ n. n ≤ ascii_len xs)
    (λ point. longer 1 (digits_len 10 (drop 1 xs)) xs (first_ascii (λ b. b == 46) xs (λ b. low_byte 46 b (omega arith)) point) (digits_ascii 10 (drop 1 xs) (omega arith)))
    (λ _. omega arith)

exponent_mark_ascii : (xs : List ℕ) → exponent_mark_len xs ≤ ascii_len xs
exponent_mark_ascii xs =
    cond_both (begins (λ b. b == 101 || b == 69) xs) (cond (begins (λ b. b == 43 || b == 45) (drop 1 xs)) 2 1) 0 (λ n. n ≤ ascii_len xs)
    (λ letter.
    let one = first_ascii (λ b. b == 101 || b == 69) xs (λ b. low_two 101 69 b (omega arith) (omega arith)) letter in
    cond_both (begins (λ b. b == 43 || b == 45) (drop 1 xs)) 2 1 (λ n. n ≤ ascii_len xs)
    (λ sign. longer 1 1 xs one (first_ascii (λ b. b == 43 || b == 45) (drop 1 xs) (λ b. low_two 43 45 b (omega arith) (omega arith)) sign))
    (λ _. one))
    (λ _. omega arith)

exponent_ascii : (xs : List ℕ) → exponent_len xs ≤ ascii_len xs
exponent_ascii xs =
    let mark = exponent_mark_len xs in
    let digits = digits_len 10 (drop mark xs) in
    cond_both (mark == 0 || digits == 0) 0 (mark + digits) (λ n. n ≤ ascii_len xs)
    (λ _. omega arith)
    (λ _. longer mark digits xs (exponent_mark_ascii xs) (digits_ascii 10 (drop mark xs) (omega arith)))

float_ascii : (xs : List ℕ) → float_len xs ≤ ascii_len xs
float_ascii xs =
    let whole = digits_len 10 xs in
    let point = whole + fraction_len (drop whole xs) in
    longer point (exponent_len (drop point xs)) xs
    (longer whole (fraction_len (drop whole xs)) xs (digits_ascii 10 xs (omega arith)) (fraction_ascii (drop whole xs)))
    (exponent_ascii (drop point xs))

whole_ascii : (xs : List ℕ) → whole_len xs ≤ ascii_len xs
whole_ascii xs =
    cond_both (begins (λ b. b == 48) xs) (digits_len 1 xs) (digits_len 10 xs) (λ n. n ≤ ascii_len xs)
    (λ _. digits_ascii 1 xs (omega arith))
    (λ _. digits_ascii 10 xs (omega arith))

decimal_ascii : (xs : List ℕ) → (decimal_of xs).len ≤ ascii_len xs
decimal_ascii xs =
    let len = float_len xs in
    cond_both (begins (λ b. b == 106 || b == 74) (drop len xs)) (literal Imaginary (len + 1)) (cond (digits_len 10 xs == len) (whole_of xs) (literal Float len)) (λ (f : FoundNumeral). f.len ≤ ascii_len xs)
    (λ unit. longer len 1 xs (float_ascii xs) (first_ascii (λ b. b == 106 || b == 74) (drop len xs) (λ b. low_two 106 74 b (omega arith) (omega arith)) unit))
    (λ _. cond_both (digits_len 10 xs == len) (whole_of xs) (literal Float len) (λ (f : FoundNumeral). f.len ≤ ascii_len xs) (λ _. whole_ascii xs) (λ _. float_ascii xs))

letter_small : (xs : List ℕ) → base_of_letter xs ≤ 36
letter_small [] = omega arith
letter_small (b ∷ bs) =
    cond_both (b == 120 || b == 88) 16 (cond (b == 111 || b == 79) 8 (cond (b == 98 || b == 66) 2 10)) (λ n. n ≤ 36) (λ _. omega arith)
    (λ _. cond_both (b == 111 || b == 79) 8 (cond (b == 98 || b == 66) 2 10) (λ n. n ≤ 36) (λ _. omega arith)
    (λ _. cond_both (b == 98 || b == 66) 2 10 (λ n. n ≤ 36) (λ _. omega arith) (λ _. omega arith)))

base_small : (xs : List ℕ) → base_of xs ≤ 36
base_small xs = cond_both (begins (λ b. b == 48) xs) (base_of_letter (drop 1 xs)) 10 (λ n. n ≤ 36) (λ _. letter_small (drop 1 xs)) (λ _. omega arith)

one_ascii : (b : ℕ) (bs : List ℕ) → b < 128 → 1 ≤ ascii_len (b ∷ bs)
one_ascii b bs low = omega (arith, ascii_cons b bs low)

letter_ascii : (xs : List ℕ) → (base_of_letter xs == 10) ≡ false → 1 ≤ ascii_len xs
letter_ascii [] h = absurd (cc)
letter_ascii (b ∷ bs) h =
    let P : ℕ → Type 0 = λ n. (n == 10) ≡ false → 1 ≤ ascii_len (b ∷ bs) in
    cond_both (b == 120 || b == 88) 16 (cond (b == 111 || b == 79) 8 (cond (b == 98 || b == 66) 2 10)) P
    (λ is _. one_ascii b bs (low_two 120 88 b (omega arith) (omega arith) is))
    (λ _. cond_both (b == 111 || b == 79) 8 (cond (b == 98 || b == 66) 2 10) P
    (λ is _. one_ascii b bs (low_two 111 79 b (omega arith) (omega arith) is))
    (λ _. cond_both (b == 98 || b == 66) 2 10 P (λ is _. one_ascii b bs (low_two 98 66 b (omega arith) (omega arith) is)) (λ _ ten. absurd (cc))))
    h

-- a base other than ten has its letter after a `0`
base_ascii : (xs : List ℕ) → (base_of xs == 10) ≡ false → 2 ≤ ascii_len xs
base_ascii xs h =
    cond_both (begins (λ b. b == 48) xs) (base_of_letter (drop 1 xs)) 10 (λ n. (n == 10) ≡ false → 2 ≤ ascii_len xs)
    (λ nought other. longer 1 1 xs (first_ascii (λ b. b == 48) xs (λ b. low_byte 48 b (omega arith)) nought) (letter_ascii (drop 1 xs) other))
    (λ _ ten. absurd (cc))
    h

-- the longest literal is ASCII
pub longest_ascii : (xs : List ℕ) → (longest_of xs).len ≤ ascii_len xs
longest_ascii xs =
    let base = base_of xs in
    let len = more_len base (drop 2 xs) in
    cond_both (base == 10 || len == 0) None (Some (literal (integer_of base (take len (drop 2 xs))) (2 + len))) (λ o. (based_or o (decimal_of xs)).len ≤ ascii_len xs)
    (λ _. decimal_ascii xs)
    (λ other. longer 2 len xs (base_ascii xs (or_parts (base == 10) (len == 0) other).0) (more_ascii base (drop 2 xs) (base_small xs)))

digits_some : (base : ℕ) (xs : List ℕ) → begins (λ b. is_digit b base) xs ≡ true → 0 < digits_len base xs
digits_some base [] h = absurd (cc)
digits_some base (b ∷ bs) h =
    let goes : goes_on base (b ∷ bs) ≡ true = or_left (is_digit b base) (b == 95 && begins (λ c. is_digit c base) bs) h in
    omega (arith, ap (λ t. cond t (more_len base (b ∷ bs)) 0) h, ap (λ t. cond t (1 + more_len base bs) 0) goes)

a_digit : (b : ℕ) → is_ascii_digit b ≡ true → is_digit b 10 ≡ true
a_digit b h = grind (arith, nat_tests)

a_zero : (b : ℕ) → (b == 48) ≡ true → is_digit b 1 ≡ true
a_zero b h = grind (arith, nat_tests)

no_point : (b : ℕ) → (b == 46) ≡ true → is_digit b 10 ≡ false
no_point b h = grind (arith, nat_tests)

-- what the first byte passes, where it passes another test
first_too : (test other : ℕ → Bool) (xs : List ℕ) → ((b : ℕ) → test b ≡ true → other b ≡ true) → begins test xs ≡ true → begins other xs ≡ true
first_too test other [] passes h = absurd (cc)
first_too test other (b ∷ bs) passes h = passes b h

first_not : (test other : ℕ → Bool) (xs : List ℕ) → ((b : ℕ) → test b ≡ true → other b ≡ false) → begins test xs ≡ true → begins other xs ≡ false
first_not test other [] fails h = absurd (cc)
first_not test other (b ∷ bs) fails h = fails b h

whole_some : (xs : List ℕ) → 0 < digits_len 10 xs → 0 < whole_len xs
whole_some xs some =
    cond_both (begins (λ b. b == 48) xs) (digits_len 1 xs) (digits_len 10 xs) (λ n. 0 < n)
    (λ nought. digits_some 1 xs (first_too (λ b. b == 48) (λ b. is_digit b 1) xs a_zero nought))
    (λ _. some)

point_some : (xs : List ℕ) → begins (λ b. b == 46) xs ≡ true → 0 < float_len xs
point_some xs point =
    let none : digits_len 10 xs ≡ 0 = ap (λ t. cond t (more_len 10 xs) 0) (first_not (λ b. b == 46) (λ b. is_digit b 10) xs no_point point) in
    let here : fraction_len (drop (digits_len 10 xs) xs) ≡ fraction_len xs = ap (λ n. fraction_len (drop n xs)) none in
    let some : fraction_len xs ≡ 1 + digits_len 10 (drop 1 xs) = ap (λ t. cond t (1 + digits_len 10 (drop 1 xs)) 0) point in
    omega (arith, here, some)

float_some : (xs : List ℕ) → starts_numeral xs ≡ true → 0 < float_len xs
float_some xs starts = elim (or_cases (begins is_ascii_digit xs) (begins (λ b. b == 46) xs && begins is_ascii_digit (drop 1 xs)) starts) [
  | inl digit ↦ omega (arith, digits_some 10 xs (first_too is_ascii_digit (λ b. is_digit b 10) xs a_digit digit))
  | inr point ↦ point_some xs (and_parts (begins (λ b. b == 46) xs) (begins is_ascii_digit (drop 1 xs)) point).0
]

same_len : (m n : ℕ) → (m == n) ≡ true → m ≡ n
same_len m n h = grind (arith, nat_tests)

decimal_some : (xs : List ℕ) → starts_numeral xs ≡ true → 0 < (decimal_of xs).len
decimal_some xs starts =
    let len = float_len xs in
    let some = float_some xs starts in
    cond_both (begins (λ b. b == 106 || b == 74) (drop len xs)) (literal Imaginary (len + 1)) (cond (digits_len 10 xs == len) (whole_of xs) (literal Float len)) (λ (f : FoundNumeral). 0 < f.len)
    (λ _. omega arith)
    (λ _. cond_both (digits_len 10 xs == len) (whole_of xs) (literal Float len) (λ (f : FoundNumeral). 0 < f.len)
    (λ same. whole_some xs (omega (arith, some, same_len (digits_len 10 xs) len same)))
    (λ _. some))

-- the longest literal has some bytes, where a literal begins
pub longest_some : (xs : List ℕ) → starts_numeral xs ≡ true → 0 < (longest_of xs).len
longest_some xs starts =
    let base = base_of xs in
    let len = more_len base (drop 2 xs) in
    cond_both (base == 10 || len == 0) None (Some (literal (integer_of base (take len (drop 2 xs))) (2 + len))) (λ o. 0 < (based_or o (decimal_of xs)).len)
    (λ _. decimal_some xs starts)
    (λ _. omega arith)

-- an ASCII front is within the text
pub front_within : (n : ℕ) (xs : List ℕ) → n ≤ ascii_len xs → n ≤ length xs
front_within n xs h = omega (arith, h, prefix_len-le-length (λ b. nat_lt b 128) xs)

-- an ASCII front is ASCII
pub front_ascii : (n : ℕ) (xs : List ℕ) → n ≤ ascii_len xs → IsAscii (take n xs)
front_ascii zero xs h = IsAscii-nil
front_ascii (suc n) [] h = IsAscii-nil
front_ascii (suc n) (b ∷ bs) h =
    let parts = ascii_more b n bs h in
    IsAscii-cons b (take n bs) parts.0 (front_ascii n bs parts.1)

-- a text may be cut after an ASCII front
pub front_boundary : (n : ℕ) (xs : List ℕ) → IsUtf8 xs → n ≤ ascii_len xs → IsCharBoundary xs n
front_boundary n xs utf8 h = IsCharBoundary-from_take xs n utf8 (front_within n xs h) (IsUtf8-from_ascii (take n xs) (front_ascii n xs h))
