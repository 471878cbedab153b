-- Each name among the tokens of a text has a number below that of its names.
use Rattle.std.proofs.Common.{◌≡◌, ℕ, zero, suc, ◌+◌, ◌<◌, ◌≤◌, ◌==◌, Bool, true, false, not, cond, ◌||◌, nat_lt, if◌then◌else◌, List, [], ◌∷◌, ◌++◌, length, length-append, take, drop, replicate, Option, Some, None, refl, sym, ap, subst, arith}
use Rattle.std.specs.List.{list_any, position_or_len, prefix_len}
use Rattle.std.specs.Str.{bytes_eq}
use Rattle.place_ids.specs.Names.{has_name, with_name, number_in}
use Rattle.py_tokens.specs.declared.token.Token.{Token}
use Rattle.py_tokens.specs.declared.token.TokenKind.{TokenKind}
use Rattle.py_tokens.specs.declared.token.TokenKind.TheVariants as kind
use Rattle.py_tokens.specs.declared.token.Keyword.{Keyword}
use Rattle.py_tokens.specs.declared.front.Front.{Front}
use Rattle.py_tokens.specs.declared.front.Front.TheVariants as front
use Rattle.py_tokens.specs.declared.literal.Prefix.{Prefix}
use Rattle.py_tokens.specs.declared.literal.Literal.{Literal}
use Rattle.py_tokens.specs.declared.literal.Literal.TheVariants as literal
use Rattle.py_tokens.specs.declared.numeral.Numeral.{Numeral}
use Rattle.py_tokens.specs.declared.numeral.Numeral.TheVariants as numeral
use Rattle.py_tokens.specs.declared.operator.FoundOp.{FoundOp}
use Rattle.py_tokens.specs.declared.place.Place.{Place}
use Rattle.py_tokens.specs.declared.place.Place.TheVariants as place
use Rattle.py_tokens.specs.declared.place.Margin.{Margin}
use Rattle.py_tokens.specs.Bytes.{is_space_byte}
use Rattle.py_tokens.specs.Literals.{literal_of}
use Rattle.py_tokens.specs.Numerals.{starts_numeral, numeral_of}
use Rattle.py_tokens.specs.Words.{is_normal, begins_word, word_len, prefix_of}
use Rattle.py_tokens.specs.Keywords.{keyword_of}
use Rattle.py_tokens.specs.Operators.{operator_of}
use Rattle.py_tokens.specs.Margins.{clashes}
use Rattle.py_tokens.specs.Fronts.{begins_with_quote, closed_front, prefixed_front, named_front, word_front, numeral_front, operator_front, token_front, line_end_len, separator_len, front_of}
use Rattle.py_tokens.specs.Scans.{Scan, token_of, top_of}
use Rattle.py_tokens.specs.Turns.{Turn, goes, fails, skipped_len, margin_turn, begin_turn, line_turn, blank_turn, turn_at}
use Rattle.py_tokens.specs.Readings.{last_newline, last_tokens, Reads, reads_end, reads_step, HasTokens}
use Rattle.py_tokens.specs.NameNumbers.{NamesBelow}

-- ---- tokens

abbrev KindBelow : ℕ → TokenKind → Type 0
KindBelow count (kind.Name n) = n < count
KindBelow count _ = Unit {0}

abbrev AreBelow : ℕ → List Token → Type 0
AreBelow count [] = Unit {0}
AreBelow count (t ∷ ts) = KindBelow count t.kind × AreBelow count ts

kind_up : (n k : ℕ) (x : TokenKind) → n ≤ k → KindBelow n x → KindBelow k x
kind_up n k (kind.Name m) le h = omega (arith, le, h)
kind_up n k _ le h = tt

are_up : (n k : ℕ) (ts : List Token) → n ≤ k → AreBelow n ts → AreBelow k ts
are_up n k [] le h = tt
are_up n k (t ∷ ts) le h = (kind_up n k t.kind le h.0, are_up n k ts le h.1)

below_append : (count : ℕ) (ts us : List Token) → AreBelow count ts → AreBelow count us → AreBelow count (ts ++ us)
below_append count [] us h k = k
below_append count (t ∷ ts) us h k = (h.0, below_append count ts us h.1 k)

names_below : (count : ℕ) (ts : List Token) → AreBelow count ts → NamesBelow count ts
names_below count [] h place n e = cc
names_below count (t ∷ ts) h zero n e = let same : t.kind ≡ kind.Name n = cc in subst (KindBelow count) same h.0
names_below count (t ∷ ts) h (suc place) n e = names_below count ts h.1 place n e

-- ---- names

longer : (names : List (List ℕ)) (text : List ℕ) → length names ≤ length (with_name names text)
longer names text = go (has_name names text)
  where
    go : (b : Bool) → length names ≤ length (if b then names else names ++ text ∷ [])
    go true = omega arith
    go false =
        let long : length (names ++ text ∷ []) ≡ length names + 1 = length-append names (text ∷ []) in omega arith

-- a text that is found stands among the names, and none stands behind them
found_among : (text : List ℕ) (ns : List (List ℕ)) → list_any (bytes_eq text) ns ≡ true → position_or_len (bytes_eq text) ns < length ns
found_among text [] e = cc
found_among text (m ∷ ms) e =
    elim (bytes_eq text m) as (λ b. (b || list_any (bytes_eq text) ms) ≡ true → cond (not b) (1 + position_or_len (bytes_eq text) ms) 0 < length (m ∷ ms)) [
      | true ↦ λ e. omega arith
      | false ↦ λ e. let later : position_or_len (bytes_eq text) ms < length ms = found_among text ms e in omega arith
    ] e

none_behind : (text : List ℕ) (ns : List (List ℕ)) → position_or_len (bytes_eq text) ns ≤ length ns
none_behind text [] = omega arith
none_behind text (m ∷ ms) =
    let later : position_or_len (bytes_eq text) ms ≤ length ms = none_behind text ms in
    elim (bytes_eq text m) as (λ b. cond (not b) (1 + position_or_len (bytes_eq text) ms) 0 ≤ length (m ∷ ms)) [ true ↦ omega arith | false ↦ omega arith ]

-- a text stands among the names, or is put at the end
numbered : (names : List (List ℕ)) (text : List ℕ) → number_in names text < length (with_name names text)
numbered names text = go (has_name names text) refl
  where
    go : (b : Bool) → has_name names text ≡ b → number_in names text < length (if b then names else names ++ text ∷ [])
    go true e = found_among text names e
    go false e =
        let long : length (names ++ text ∷ []) ≡ length names + 1 = length-append names (text ∷ []) in
        let le : position_or_len (bytes_eq text) names ≤ length names = none_behind text names in omega arith

-- ---- what stands at the front is a name only where it is said to be one

abbrev FrontNames : Front → Type 0
FrontNames (front.Token k n) = (count : ℕ) → KindBelow count k
FrontNames _ = Unit {0}

front_if : (b : Bool) (x y : Front) → FrontNames x → FrontNames y → FrontNames (if b then x else y)
front_if true x y h k = h
front_if false x y h k = k

literal_kind : (b empty : Bool) (count : ℕ) → KindBelow count (if b then kind.Bytes empty else kind.Str empty)
literal_kind true empty count = tt
literal_kind false empty count = tt

closed_names : (prefix : Prefix) (len : ℕ) (text : List ℕ) (l : Literal) → FrontNames (closed_front prefix len text l)
closed_names prefix len text (literal.Closed more empty) = λ count. literal_kind prefix.bytes empty count
closed_names prefix len text (literal.Open more) = tt
closed_names prefix len text (literal.Bad at) = tt

prefixed_names : (text : List ℕ) (len : ℕ) (o : Option Prefix) → FrontNames (prefixed_front text len o)
prefixed_names text len None = tt
prefixed_names text len (Some prefix) = closed_names prefix len text (literal_of (drop len text) prefix)

named_names : (text : List ℕ) (len : ℕ) (o : Option Keyword) → FrontNames (named_front text len o)
named_names text len (Some keyword) = λ count. tt
named_names text len None = front_if (begins_with_quote (drop len text)) (prefixed_front text len (prefix_of (take len text))) (front.Name len) (prefixed_names text len (prefix_of (take len text))) tt

word_names : (text : List ℕ) (len : ℕ) → FrontNames (word_front text len)
word_names text len = front_if (is_normal (take len text)) _ _ (named_names text len (keyword_of (take len text))) tt

numeral_names : (n : Numeral) (len : ℕ) → FrontNames (numeral_front n len)
numeral_names (numeral.Int value) len = λ count. tt
numeral_names numeral.Wide len = tt
numeral_names numeral.Float len = λ count. tt
numeral_names numeral.Imaginary len = λ count. tt
numeral_names numeral.Bad len = tt

operator_names : (text : List ℕ) (o : Option FoundOp) → FrontNames (operator_front text o)
operator_names text None = tt
operator_names text (Some found) = λ count. tt

token_names : (text : List ℕ) → FrontNames (token_front text)
token_names text =
    front_if (begins_with_quote text) _ _ (closed_names (record { raw = false; bytes = false }) 0 text (literal_of (drop 0 text) (record { raw = false; bytes = false })))
    (front_if (begins_word text) _ _ (word_names text (word_len text)) (front_if (starts_numeral text) _ _ (numeral_names (numeral_of text).numeral (numeral_of text).len) (operator_names text (operator_of text))))

front_names : (text : List ℕ) → FrontNames (front_of text)
front_names text = front_if (nat_lt 0 (separator_len text)) _ _ tt (front_if (nat_lt 0 (line_end_len text)) _ _ tt (token_names text))

-- ---- turns: the names grow, and each token's name is one of them

abbrev Grows : Scan → Turn → Type 0
Grows scan (goes move) = (length scan.names ≤ length move.after.names) × AreBelow (length move.after.names) move.tokens
Grows scan (fails found) = Unit {0}

grows_if : (scan : Scan) (b : Bool) (x y : Turn) → Grows scan x → Grows scan y → Grows scan (if b then x else y)
grows_if scan true x y h k = h
grows_if scan false x y h k = k

same : (n : ℕ) → n ≤ n
same n = omega arith

begin_grows : (margin : Margin) (text : List ℕ) (scan : Scan) → Grows scan (begin_turn margin text scan)
begin_grows margin text scan =
    grows_if scan (clashes scan.filling margin.filling) _ _ tt
    (grows_if scan (nat_lt margin.column (top_of scan.columns)) _ _ (same (length scan.names), (tt, tt))
    (grows_if scan (margin.column == top_of scan.columns) _ _ (same (length scan.names), tt) (grows_if scan margin.ends_block _ _ tt (same (length scan.names), (tt, tt)))))

line_grows : (f : Front) (text : List ℕ) (scan : Scan) → FrontNames f → Grows scan (line_turn f text scan)
line_grows (front.Separator n) text scan h = (same (length scan.names), tt)
line_grows (front.LineEnd n) text scan h = grows_if scan (length scan.openers == 0) _ _ (same (length scan.names), (tt, tt)) (same (length scan.names), tt)
line_grows (front.Name n) text scan h = (longer scan.names (take n text), (numbered scan.names (take n text), tt))
line_grows (front.Token k n) text scan h = (same (length scan.names), (h (length scan.names), tt))
line_grows (front.Flawed what from n) text scan h = tt

blank_grows : (margin : Margin) (f : Front) (text : List ℕ) (scan : Scan) → Grows scan (blank_turn margin f text scan)
blank_grows margin (front.Separator n) text scan = (same (length scan.names), tt)
blank_grows margin (front.LineEnd n) text scan = (same (length scan.names), tt)
blank_grows margin _ text scan = begin_grows margin text scan

margin_grows : (text : List ℕ) (scan : Scan) → Grows scan (margin_turn text scan)
margin_grows text scan =
    let from = skipped_len text in
    let len = prefix_len is_space_byte (drop from text) in
    let clear = prefix_len (λ b. not (b == 12)) (take len (drop from text)) in
    grows_if scan (nat_lt clear len) _ _ tt (same (length scan.names), tt)

turn_grows : (at : Place) (text : List ℕ) (scan : Scan) → Grows scan (turn_at at text scan)
turn_grows place.Start text scan = margin_grows text scan
turn_grows (place.Margin margin) text scan = blank_grows margin (front_of text) text scan
turn_grows place.Line text scan = line_grows (front_of text) text scan (front_names text)

-- ---- texts

dedents_below : (count n : ℕ) (t : Token) → KindBelow count t.kind → AreBelow count (replicate n t)
dedents_below count zero t h = tt
dedents_below count (suc n) t h = (h, dedents_below count n t h)

last_below : (count : ℕ) (at : Place) (scan : Scan) → AreBelow count (last_newline at scan)
last_below count place.Start scan = tt
last_below count (place.Margin margin) scan = tt
last_below count place.Line scan = (tt, tt)

end_below : (count : ℕ) (scan : Scan) → AreBelow count (last_tokens scan)
end_below count scan =
    below_append count (last_newline scan.place scan) _ (last_below count scan.place scan)
    (below_append count (replicate (length scan.columns) (token_of kind.Dedent 0 [] scan)) (token_of kind.End 0 [] scan ∷ []) (dedents_below count (length scan.columns) (token_of kind.Dedent 0 [] scan) tt) (tt, tt))

reads_below : {scan : Scan} {text : List ℕ} {tokens : List Token} {names : List (List ℕ)} → Reads scan text tokens names → (length scan.names ≤ length names) × AreBelow (length names) tokens
reads_below (reads_end {scan = scan} {tokens = tokens} {names = names} done closed last all) =
    let long : length names ≡ length scan.names = ap length all in
    (omega arith, subst (AreBelow (length names)) (sym last) (end_below (length names) scan))
reads_below (reads_step {scan = scan} {text = text} {tokens = tokens} {more = more} {names = names} {move = move} left turn rest all) =
    let later = reads_below rest in
    let step : Grows scan (goes move) = subst (Grows scan) turn (turn_grows scan.place text scan) in
    let up : length scan.names ≤ length move.after.names = step.0 in
    let on : length move.after.names ≤ length names = later.0 in
    (omega arith, subst (AreBelow (length names)) (sym all) (below_append (length names) move.tokens more (are_up (length move.after.names) (length names) move.tokens on step.1) later.1))

pub names_are_numbered : (text : List ℕ) (tokens : List Token) (names : List (List ℕ)) → HasTokens text tokens names → NamesBelow (length names) tokens
names_are_numbered text tokens names h = names_below (length names) tokens (reads_below h).1
