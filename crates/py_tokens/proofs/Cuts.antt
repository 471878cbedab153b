-- Where a text may be cut: after ASCII, and before a line end.
use Rattle.std.proofs.Common.{◌≡◌, ℕ, zero, suc, ◌+◌, ◌<◌, ◌≤◌, inl, inr, Bool, true, false, ◌==◌, nat_lt, cond, List, [], ◌∷◌, length, take, drop, Some, IfSome, refl, sym, ap, ◌∙◌, subst, arith, get_or, ◌-◌, length-drop, nat_eq, Option}
use Rattle.std.specs.List.{prefix_len, slice_index, list_all, starts_with}
use Rattle.std.specs.Str.{IsAscii, IsUtf8, IsCharBoundary}
use Rattle.std.specs.Cmp.Lexicographic.{bytes_decides}
use Rattle.std.proofs.lemmas.Bool.{cases_Bool}
use Rattle.std.proofs.lemmas.Bool.Decides.{nat_tests}
use Rattle.std.proofs.lemmas.List.{get_or-drop, take_rest}
use Rattle.std.proofs.lemmas.List.Sums.{prefix_len-le-length, prefix_len_stops}
use Rattle.std.proofs.lemmas.Str.{IsCharBoundary-after_ascii, IsUtf8-drop, IsUtf8-from_ascii, IsCharBoundary-from_take}
use Rattle.py_tokens.specs.Bytes.{is_space_byte, is_line_byte}
use Rattle.py_tokens.specs.Fronts.{begins_with, begins_with_quote, line_end_len, joined_len, join_len, numeral_front, Fits}
use Rattle.py_tokens.specs.Turns.{skipped_len}
use Rattle.py_tokens.specs.declared.numeral.Numeral.{Numeral}
use Rattle.py_tokens.specs.declared.numeral.Numeral.TheVariants as numeral
use Rattle.py_tokens.specs.declared.literal.Literal.TheVariants.{Closed, Bad}
use Rattle.py_tokens.specs.declared.operator.FoundOp.{FoundOp}
use Rattle.py_tokens.specs.declared.token.Op.{Op}
use Rattle.py_tokens.specs.Literals.{Lies}
use Rattle.py_tokens.specs.Operators.{operator_rows, row_operator, operator_of}
use Rattle.py_tokens.specs.Rows.{first_said}
use Rattle.py_tokens.proofs.Classes.{and_parts}
use Rattle.py_tokens.proofs.AsciiFronts.{ascii_len, front_boundary, longer}

space_ascii : (b : ℕ) → is_space_byte b ≡ true → b < 128
space_ascii b h = grind (arith, nat_tests)

line_end_ascii : (b : ℕ) → is_line_byte b ≡ false → b < 128
line_end_ascii b h = grind (arith, nat_tests)

ascii_true : (b : ℕ) → b < 128 → nat_lt b 128 ≡ true
ascii_true b h = grind (arith, nat_tests)

ascii_one : (b : ℕ) (bs : List ℕ) → b < 128 → ascii_len (b ∷ bs) ≡ 1 + ascii_len bs
ascii_one b bs h = ap (λ t. cond t (1 + ascii_len bs) 0) (ascii_true b h)

spaces_ascii : (xs : List ℕ) → prefix_len is_space_byte xs ≤ ascii_len xs
spaces_ascii [] = omega arith
spaces_ascii (b ∷ bs) = elim (cases_Bool (is_space_byte b)) [
  | inl is ↦ omega (arith, ascii_one b bs (space_ascii b is), spaces_ascii bs, ap (λ t. cond t (1 + prefix_len is_space_byte bs) 0) is)
  | inr other ↦ omega (arith, ap (λ t. cond t (1 + prefix_len is_space_byte bs) 0) other)
]

-- a run of space ends between characters
pub space_cut : (xs : List ℕ) → IsUtf8 xs → IsCharBoundary xs (prefix_len is_space_byte xs)
space_cut xs utf8 = front_boundary (prefix_len is_space_byte xs) xs utf8 (spaces_ascii xs)

-- a comment ends between characters
pub comment_cut : (xs : List ℕ) → IsCharBoundary xs (prefix_len is_line_byte xs)
comment_cut xs = (
  prefix_len-le-length is_line_byte xs,
  λ within high. absurd (omega (arith, high, line_end_ascii (get_or xs (prefix_len is_line_byte xs) 0) (prefix_len_stops is_line_byte xs 0 within))),
)

begins_is : (byte : ℕ) (xs : List ℕ) → byte < 128 → begins_with byte xs ≡ true → 1 ≤ ascii_len xs
begins_is byte [] low h = absurd (cc)
begins_is byte (x ∷ xs) low h = let same : x ≡ byte = grind (arith, nat_tests) in omega (arith, ascii_one x xs (omega (arith, same, low)))

-- the tests of a line end
after_return : (b : ℕ) (bs : List ℕ) (t : Bool) → b < 128 → begins_with 10 bs ≡ t → cond t 2 1 ≤ ascii_len (b ∷ bs)
after_return b bs true low h = omega (arith, ascii_one b bs low, begins_is 10 bs (omega arith) h)
after_return b bs false low h = omega (arith, ascii_one b bs low)

at_return : (b : ℕ) (bs : List ℕ) (t : Bool) → (b == 13) ≡ t → cond t (cond (begins_with 10 bs) 2 1) 0 ≤ ascii_len (b ∷ bs)
at_return b bs true h = let is : b ≡ 13 = grind (arith, nat_tests) in after_return b bs (begins_with 10 bs) (omega (arith, is)) refl
at_return b bs false h = omega arith

at_feed : (b : ℕ) (bs : List ℕ) (t : Bool) → (b == 10) ≡ t → cond t 1 (cond (b == 13) (cond (begins_with 10 bs) 2 1) 0) ≤ ascii_len (b ∷ bs)
at_feed b bs true h = let is : b ≡ 10 = grind (arith, nat_tests) in omega (arith, ascii_one b bs (omega (arith, is)))
at_feed b bs false h = at_return b bs (b == 13) refl

-- a line end is ASCII
pub line_end_ascii_len : (xs : List ℕ) → line_end_len xs ≤ ascii_len xs
line_end_ascii_len [] = omega arith
line_end_ascii_len (b ∷ bs) = at_feed b bs (b == 10) refl

pub line_end_cut : (xs : List ℕ) → IsUtf8 xs → IsCharBoundary xs (line_end_len xs)
line_end_cut xs utf8 = front_boundary (line_end_len xs) xs utf8 (line_end_ascii_len xs)

joined_ascii : (b : ℕ) (bs : List ℕ) (t : Bool) → b < 128 → (line_end_len bs == 0) ≡ t → cond t 0 (1 + line_end_len bs) ≤ ascii_len (b ∷ bs)
joined_ascii b bs true low h = omega arith
joined_ascii b bs false low h = omega (arith, ascii_one b bs low, line_end_ascii_len bs)

at_backslash : (b : ℕ) (bs : List ℕ) (t : Bool) → (b == 92) ≡ t → cond t (joined_len bs) 0 ≤ ascii_len (b ∷ bs)
at_backslash b bs true h = let is : b ≡ 92 = grind (arith, nat_tests) in joined_ascii b bs (line_end_len bs == 0) (omega (arith, is)) refl
at_backslash b bs false h = omega arith

pub join_ascii : (xs : List ℕ) → join_len xs ≤ ascii_len xs
join_ascii [] = omega arith
join_ascii (b ∷ bs) = at_backslash b bs (b == 92) refl

-- a join ends between characters
pub join_cut : (xs : List ℕ) → IsUtf8 xs → IsCharBoundary xs (join_len xs)
join_cut xs utf8 = front_boundary (join_len xs) xs utf8 (join_ascii xs)

-- past more bytes, the last of which is ASCII
pub past_ascii : (xs : List ℕ) (from more : ℕ) → IsUtf8 xs → 0 < more → more ≤ length (drop from xs) → from ≤ length xs → slice_index (drop from xs) (more - 1) < 128 → IsCharBoundary xs (from + more)
past_ascii xs from (suc more) utf8 some within start low =
    let at : get_or xs (from + more) 0 < 128 = omega (arith, low, sym (get_or-drop from xs more 0), ap (λ k. get_or (drop from xs) k 0) (less more)) in
    let cut = IsCharBoundary-after_ascii xs (from + more) utf8 (omega (arith, within, length-drop from xs)) at in
    subst (IsCharBoundary xs) (omega arith) cut
  where
    less : (n : ℕ) → suc n - 1 ≡ n
    less n = omega arith
past_ascii xs from zero utf8 some within start low = absurd (omega (arith, some))

-- before a character past ASCII
pub bad_cut : (xs : List ℕ) (from at : ℕ) → IsUtf8 xs → IsCharBoundary xs from → at < length (drop from xs) → (IsUtf8 (drop from xs) → 192 ≤ slice_index (drop from xs) at) → IsCharBoundary xs (from + at)
bad_cut xs from at utf8 cut within high =
    let first : 192 ≤ get_or xs (from + at) 0 = omega (arith, high (IsUtf8-drop xs from utf8 cut), get_or-drop from xs at 0) in
    (omega (arith, within, length-drop from xs), λ h k. first)

quote_ascii : (xs : List ℕ) → begins_with_quote xs ≡ true → slice_index xs 0 < 128
quote_ascii [] h = absurd (cc)
quote_ascii (b ∷ bs) h = grind (arith, nat_tests)

-- past a literal's closing quotes
pub closed_cut : (xs : List ℕ) (from more : ℕ) → IsUtf8 xs → IsCharBoundary xs from → begins_with_quote (drop from xs) ≡ true → 0 < more → more ≤ length (drop from xs) →
    slice_index (drop from xs) (more - 1) ≡ slice_index (drop from xs) 0 → (0 < from + more) × IsCharBoundary xs (from + more)
closed_cut xs from more utf8 cut quoted some within same =
    (omega (arith, some), past_ascii xs from more utf8 some within cut.0 (omega (arith, same, quote_ascii (drop from xs) quoted)))

-- what follows a front of the bytes of a text
after_front : (bytes xs : List ℕ) (from : ℕ) → bytes ≡ xs → take (length bytes - from) (drop from bytes) ≡ drop from xs
after_front bytes xs from is = take_rest bytes from ∙ ap (drop from) is

-- the same, where a scan of the literal has found its end
pub closed_at : (bytes xs : List ℕ) (from more : ℕ) (empty : Bool) → bytes ≡ xs → IsUtf8 xs → IsCharBoundary xs from → begins_with_quote (drop from xs) ≡ true →
    Lies (take (length bytes - from) (drop from bytes)) (Closed more empty) → (0 < from + more) × IsCharBoundary xs (from + more)
closed_at bytes xs from more empty is utf8 cut quoted lies =
    let there = subst (λ bs. Lies bs (Closed more empty)) (after_front bytes xs from is) lies in
    closed_cut xs from more utf8 cut quoted there.0 there.1 there.2

pub bad_at : (bytes xs : List ℕ) (from at : ℕ) → bytes ≡ xs → IsUtf8 xs → IsCharBoundary xs from → Lies (take (length bytes - from) (drop from bytes)) (Bad at) → IsCharBoundary xs (from + at)
bad_at bytes xs from at is utf8 cut lies =
    let there = subst (λ bs. Lies bs (Bad at)) (after_front bytes xs from is) lies in
    bad_cut xs from at utf8 cut there.0 there.2

-- an operator ends between characters
row_low : (spelling text : List ℕ) → list_all (λ b. nat_lt b 128) spelling ≡ true → starts_with nat_eq text spelling ≡ true → length spelling ≤ ascii_len text
row_low [] text low h = omega arith
row_low (s ∷ ss) [] low h = absurd (cc)
row_low (s ∷ ss) (b ∷ bs) low h =
    let lows = and_parts (nat_lt s 128) (list_all (λ c. nat_lt c 128) ss) low in
    let same : (s ∷ ss) ≡ take (length (s ∷ ss)) (b ∷ bs) = (bytes_decides (s ∷ ss) (take (length (s ∷ ss)) (b ∷ bs))).0 h in
    let first : s ≡ b = cc in
    let rest : ss ≡ take (length ss) bs = cc in
    let small : s < 128 = grind (arith, nat_tests) in
    omega (arith, ascii_one b bs (omega (arith, small, first)), row_low ss bs lows.1 ((bytes_decides ss (take (length ss) bs)).1 rest))

module _ (text : List ℕ) where
  abbrev IsLow : FoundOp → Type 0
  IsLow f = f.len ≤ ascii_len text

  first_low : (b : Bool) (f : FoundOp) (more : Option FoundOp) → (b ≡ true → IsLow f) → IfSome more IsLow → IfSome (cond b (Some f) more) IsLow
  first_low true f more here later = here refl
  first_low false f more here later = later

  rows_low : (rows : List (List ℕ × Op)) → list_all (λ row. list_all (λ b. nat_lt b 128) row.0) rows ≡ true → IfSome (first_said (starts_with nat_eq text) row_operator rows) IsLow
  rows_low [] h = tt
  rows_low (row ∷ rows) h =
      let parts = and_parts (list_all (λ b. nat_lt b 128) row.0) (list_all (λ (r : List ℕ × Op). list_all (λ b. nat_lt b 128) r.0) rows) h in
      first_low (starts_with nat_eq text row.0) (row_operator row) (first_said (starts_with nat_eq text) row_operator rows)
      (λ begins. row_low row.0 text parts.0 begins) (rows_low rows parts.1)

  pub operator_low : (o : Option FoundOp) → o ≡ operator_of text → IfSome o IsLow
  operator_low o is = subst (λ x. IfSome x IsLow) (sym is) (rows_low operator_rows refl)

pub operator_at : (bytes xs : List ℕ) (f : FoundOp) → bytes ≡ xs → IsUtf8 xs → Some f ≡ operator_of bytes → (0 < f.len) × (f.len ≤ length bytes) → (0 < f.len) × IsCharBoundary xs f.len
operator_at bytes xs f is utf8 found within =
    (within.0, front_boundary f.len xs utf8 (subst (λ bs. f.len ≤ ascii_len bs) is (operator_low bytes (Some f) found)))

skipped_ascii : (xs : List ℕ) → skipped_len xs ≤ ascii_len xs
skipped_ascii xs = by_test (begins_with 12 xs) refl
  where
    by_test : (t : Bool) → begins_with 12 xs ≡ t → cond t 1 0 ≤ ascii_len xs
    by_test true h = begins_is 12 xs (omega arith) h
    by_test false h = omega arith

-- the leading space of a line ends between characters
pub margin_cut : (bytes xs : List ℕ) (from len : ℕ) → bytes ≡ xs → IsUtf8 xs → from ≡ skipped_len bytes → len ≡ prefix_len is_space_byte (take (length bytes - from) (drop from bytes)) → IsCharBoundary xs (from + len)
margin_cut bytes xs from len is utf8 first run =
    let skipped : from ≡ skipped_len xs = first ∙ ap skipped_len is in
    let there : len ≡ prefix_len is_space_byte (drop from xs) = run ∙ ap (prefix_len is_space_byte) (after_front bytes xs from is) in
    front_boundary (from + len) xs utf8
    (longer from len xs (omega (arith, skipped, skipped_ascii xs)) (omega (arith, there, spaces_ascii (drop from xs))))

-- a numeral ends between characters
pub numeral_fits : (text : List ℕ) (n : Numeral) (len : ℕ) → IsUtf8 text → 0 < len → len ≤ length text → IsAscii (take len text) → Fits text (numeral_front n len)
numeral_fits text n len utf8 some within ascii = by_kind n
  where
    cut : IsCharBoundary text len
    cut = IsCharBoundary-from_take text len utf8 within (IsUtf8-from_ascii (take len text) ascii)

    by_kind : (k : Numeral) → Fits text (numeral_front k len)
    by_kind (numeral.Int value) = (some, cut)
    by_kind numeral.Wide = omega (arith, within)
    by_kind numeral.Float = (some, cut)
    by_kind numeral.Imaginary = (some, cut)
    by_kind numeral.Bad = omega (arith, within)

pub line_end_fits : (bytes xs : List ℕ) (len : ℕ) → bytes ≡ xs → IsUtf8 xs → len ≡ line_end_len bytes → 0 < len → (0 < len) × IsCharBoundary xs len
line_end_fits bytes xs len is utf8 found some = (some, subst (IsCharBoundary xs) (sym (found ∙ ap line_end_len is)) (line_end_cut xs utf8))
