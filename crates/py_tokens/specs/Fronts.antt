-- What stands at the front of a text.
use Rattle.std.specs.Prelude.{get_or, length, ℕ, ◌+◌, ◌<◌, ◌≤◌, Bool, false, ◌||◌, ◌==◌, nat_lt, if◌then◌else◌, List, [], ◌∷◌, take, drop, Option, None, Some, chars}
use Rattle.std.specs.Char.{len_utf8}
use Rattle.std.specs.List.{prefix_len}
use Rattle.std.specs.Str.{IsCharBoundary}
use Rattle.py_tokens.specs.declared.token.TokenKind.TheVariants as kind
use Rattle.py_tokens.specs.declared.token.Keyword.{Keyword}
use Rattle.py_tokens.specs.declared.front.Front.{Front}
use Rattle.py_tokens.specs.declared.front.Front.TheVariants as front
use Rattle.py_tokens.specs.declared.front.Flaw.TheVariants as flaw
use Rattle.py_tokens.specs.declared.numeral.Numeral.{Numeral}
use Rattle.py_tokens.specs.declared.numeral.Numeral.TheVariants as numeral
use Rattle.py_tokens.specs.declared.literal.Prefix.{Prefix}
use Rattle.py_tokens.specs.declared.literal.Literal.{Literal}
use Rattle.py_tokens.specs.declared.literal.Literal.TheVariants as literal
use Rattle.py_tokens.specs.declared.operator.FoundOp.{FoundOp}
use Rattle.py_tokens.specs.Bytes.{is_space_byte, is_line_byte}
use Rattle.py_tokens.specs.Numerals.{starts_numeral, numeral_of}
use Rattle.py_tokens.specs.Literals.{literal_of}
use Rattle.py_tokens.specs.Words.{is_normal, begins_word, word_len, prefix_of}
use Rattle.py_tokens.specs.Keywords.{keyword_of}
use Rattle.py_tokens.specs.Operators.{operator_of}

-- whether a text begins with this byte
abbrev pub begins_with : ℕ → List ℕ → Bool
begins_with byte [] = false
begins_with byte (b ∷ bs) = b == byte

-- how many bytes the line end at the front has: a line feed, a carriage return, or both in this order
abbrev pub line_end_len : List ℕ → ℕ
line_end_len [] = 0
line_end_len (b ∷ bs) = if b == 10 then 1 else (if b == 13 then (if begins_with 10 bs then 2 else 1) else 0)

-- how many bytes the join has whose backslash stands before these bytes
abbrev pub joined_len : List ℕ → ℕ
joined_len after = if line_end_len after == 0 then 0 else 1 + line_end_len after

-- how many bytes the join at the front has: a backslash directly before a line end, and that
abbrev pub join_len : List ℕ → ℕ
join_len text = if begins_with 92 text then joined_len (drop 1 text) else 0

-- how many bytes the separator at the front has: a comment, which ends before the line end, a join, or a run of space
abbrev pub separator_len : List ℕ → ℕ
separator_len text =
    if begins_with 35 text then prefix_len is_line_byte text
    else (if begins_with 92 text then join_len text else prefix_len is_space_byte text)

-- how many bytes the first character has
abbrev pub char_len : List ℕ → ℕ
char_len text = len_utf8 (get_or (chars text) 0 0)

abbrev pub begins_with_quote : List ℕ → Bool
begins_with_quote text = begins_with 34 text || begins_with 39 text

-- the literal that follows a prefix of these many bytes
abbrev pub closed_front : Prefix → ℕ → List ℕ → Literal → Front
closed_front prefix len text (literal.Closed more empty) = front.Token (if prefix.bytes then kind.Bytes empty else kind.Str empty) (len + more)
closed_front prefix len text (literal.Open more) = front.Flawed flaw.OpenString 0 (len + more)
closed_front prefix len text (literal.Bad at) = front.Flawed flaw.BadCharacter (len + at) (char_len (drop (len + at) text))

abbrev pub literal_front : Prefix → ℕ → List ℕ → Front
literal_front prefix len text = closed_front prefix len text (literal_of (drop len text) prefix)

-- a name directly before a quote is a prefix
abbrev pub prefixed_front : List ℕ → ℕ → Option Prefix → Front
prefixed_front text len None = front.Flawed flaw.Prefix 0 len
prefixed_front text len (Some prefix) = literal_front prefix len text

-- a word is a keyword or a name
abbrev pub named_front : List ℕ → ℕ → Option Keyword → Front
named_front text len (Some keyword) = front.Token (kind.Keyword keyword) len
named_front text len None = if begins_with_quote (drop len text) then prefixed_front text len (prefix_of (take len text)) else front.Name len

-- a name is in the normal form NFKC
abbrev pub word_front : List ℕ → ℕ → Front
word_front text len = if is_normal (take len text) then named_front text len (keyword_of (take len text)) else front.Flawed flaw.NotNfkc 0 len

abbrev pub numeral_front : Numeral → ℕ → Front
numeral_front (numeral.Int value) len = front.Token (kind.Int value) len
numeral_front numeral.Wide len = front.Flawed flaw.WideInt 0 len
numeral_front numeral.Float len = front.Token kind.Float len
numeral_front numeral.Imaginary len = front.Token kind.Imaginary len
numeral_front numeral.Bad len = front.Flawed flaw.BadNumber 0 len

-- a character that begins nothing is a flaw
abbrev pub operator_front : List ℕ → Option FoundOp → Front
operator_front text None = front.Flawed flaw.BadCharacter 0 (char_len text)
operator_front text (Some found) = front.Token (kind.Op found.op) found.len

abbrev pub token_front : List ℕ → Front
token_front text =
    if begins_with_quote text then literal_front (record { raw = false; bytes = false }) 0 text
    else (if begins_word text then word_front text (word_len text)
    else (if starts_numeral text then numeral_front (numeral_of text).numeral (numeral_of text).len
    else operator_front text (operator_of text)))

-- What stands at the front of a text that isn't empty.
abbrev pub front_of : List ℕ → Front
front_of text =
    if nat_lt 0 (separator_len text) then front.Separator (separator_len text)
    else (if nat_lt 0 (line_end_len text) then front.LineEnd (line_end_len text)
    else token_front text)

-- how many bytes it has, where it is no flaw
abbrev pub width : Front → ℕ
width (front.Separator n) = n
width (front.LineEnd n) = n
width (front.Name n) = n
width (front.Token k n) = n
width (front.Flawed what from n) = 1

-- It ends within the text, between two characters.
abbrev pub Fits : List ℕ → Front → Type 0
Fits text (front.Separator n) = (0 < n) × IsCharBoundary text n
Fits text (front.LineEnd n) = (0 < n) × IsCharBoundary text n
Fits text (front.Name n) = (0 < n) × IsCharBoundary text n
Fits text (front.Token k n) = (0 < n) × IsCharBoundary text n
Fits text (front.Flawed what from n) = from + n ≤ length text
