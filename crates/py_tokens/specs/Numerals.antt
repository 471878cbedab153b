-- Numeric literals (language reference, "Numeric literals"): what the longest one at the front of a text is.
use Rattle.std.specs.Prelude.{ℕ, ◌+◌, ◌^◌, Bool, false, not, ◌&&◌, ◌||◌, ◌==◌, nat_lt, if◌then◌else◌, List, [], ◌∷◌, take, drop, filter, Option, None, Some}
use Rattle.std.specs.Char.{is_ascii_digit, is_digit}
use Rattle.std.specs.Str.{chars}
use Rattle.std.specs.Str.Parse.{digits_value}
use Rattle.unicode_ident.specs.Ident.{is_xid_continue}
use Rattle.py_tokens.specs.declared.numeral.Numeral.{Numeral}
use Rattle.py_tokens.specs.declared.numeral.Numeral.TheVariants.{Int, Wide, Float, Imaginary, Bad}
use Rattle.py_tokens.specs.declared.numeral.FoundNumeral.{FoundNumeral}

-- whether the first of a text's bytes or characters is there and passes the test
abbrev pub begins : (ℕ → Bool) → List ℕ → Bool
begins test [] = false
begins test (b ∷ bs) = test b

-- digits go on with a digit, or with a `_` that stands before a digit
abbrev pub goes_on : ℕ → List ℕ → Bool
goes_on base [] = false
goes_on base (b ∷ bs) = is_digit b base || (b == 95 && begins (λ c. is_digit c base) bs)

-- the length of the longest front that goes on with digits, where a digit or the letter of the base stands before it
abbrev pub more_len : ℕ → List ℕ → ℕ
more_len base [] = 0
more_len base (b ∷ bs) = if goes_on base (b ∷ bs) then 1 + more_len base bs else 0

-- the length of the longest front that is digits, with at most one `_` between two of them
abbrev pub digits_len : ℕ → List ℕ → ℕ
digits_len base text = if begins (λ b. is_digit b base) text then more_len base text else 0

-- the base that a letter stands for
abbrev pub base_of_letter : List ℕ → ℕ
base_of_letter [] = 10
base_of_letter (b ∷ bs) = if b == 120 || b == 88 then 16 else (if b == 111 || b == 79 then 8 else (if b == 98 || b == 66 then 2 else 10))

-- the base of an integer: that of the letter after a `0`, else ten
abbrev pub base_of : List ℕ → ℕ
base_of text = if begins (λ b. b == 48) text then base_of_letter (drop 1 text) else 10

-- the length of a fraction: a point, and the digits after it
abbrev pub fraction_len : List ℕ → ℕ
fraction_len text = if begins (λ b. b == 46) text then 1 + digits_len 10 (drop 1 text) else 0

-- the length of an exponent's letter and sign
abbrev pub exponent_mark_len : List ℕ → ℕ
exponent_mark_len text =
    if begins (λ b. b == 101 || b == 69) text then (if begins (λ b. b == 43 || b == 45) (drop 1 text) then 2 else 1) else 0

-- the length of an exponent: `e` or `E`, maybe a sign, and one digit at least
abbrev pub exponent_len : List ℕ → ℕ
exponent_len text =
    let mark = exponent_mark_len text in
    let digits = digits_len 10 (drop mark text) in
    if mark == 0 || digits == 0 then 0 else mark + digits

-- the length of the digits at the front with the fraction and the exponent that follow them
abbrev pub float_len : List ℕ → ℕ
float_len text =
    let whole = digits_len 10 text in
    let point = whole + fraction_len (drop whole text) in
    point + exponent_len (drop point text)

-- the number that digits write, where a `_` says nothing
abbrev pub value_of : ℕ → List ℕ → ℕ
value_of base digits = digits_value base (filter (λ b. not (b == 95)) digits)

-- a number, where it is below 2^128
abbrev pub fitting : ℕ → Option ℕ
fitting n = if nat_lt n (2 ^ 128) then Some n else None

-- the number that digits write, where it is below 2^128
abbrev pub number_of : ℕ → List ℕ → Option ℕ
number_of base digits = fitting (value_of base digits)

-- an integer by its value
abbrev pub integer_by : Option ℕ → Numeral
integer_by (Some value) = Int value
integer_by None = Wide

-- the integer that digits write
abbrev pub integer_of : ℕ → List ℕ → Numeral
integer_of base digits = integer_by (number_of base digits)

-- a literal of these many bytes
abbrev pub literal : Numeral → ℕ → FoundNumeral
literal what len = record { numeral = what; len = len }

-- the integer at the front that `0` and the letter of a base begin, where digits stand after the letter
abbrev pub based_of : List ℕ → Option FoundNumeral
based_of text =
    let base = base_of text in
    let len = more_len base (drop 2 text) in
    if base == 10 || len == 0 then None else Some (literal (integer_of base (take len (drop 2 text))) (2 + len))

-- the length of a decimal integer: zeros alone (the digits of base 1), or digits that don't begin with a zero
abbrev pub whole_len : List ℕ → ℕ
whole_len text = if begins (λ b. b == 48) text then digits_len 1 text else digits_len 10 text

-- the decimal integer at the front
abbrev pub whole_of : List ℕ → FoundNumeral
whole_of text = let len = whole_len text in literal (integer_of 10 (take len text)) len

-- the decimal literal at the front: `j` makes it imaginary, else a fraction or an exponent makes it a float
abbrev pub decimal_of : List ℕ → FoundNumeral
decimal_of text =
    let len = float_len text in
    if begins (λ b. b == 106 || b == 74) (drop len text) then literal Imaginary (len + 1)
    else (if digits_len 10 text == len then whole_of text else literal Float len)

-- the first of two choices that is there
abbrev pub based_or : Option FoundNumeral → FoundNumeral → FoundNumeral
based_or (Some found) other = found
based_or None other = other

-- the longest literal at the front
abbrev pub longest_of : List ℕ → FoundNumeral
longest_of text = based_or (based_of text) (decimal_of text)

-- a text begins with a numeric literal where it begins with a digit, or with a point and a digit
abbrev pub starts_numeral : List ℕ → Bool
starts_numeral text = begins is_ascii_digit text || (begins (λ b. b == 46) text && begins is_ascii_digit (drop 1 text))

-- the numeric literal at the front: the longest one, which is bad where a name may go on with the character after it
abbrev pub numeral_of : List ℕ → FoundNumeral
numeral_of text =
    let found = longest_of text in
    if begins is_xid_continue (chars (drop found.len text)) then literal Bad found.len else found
