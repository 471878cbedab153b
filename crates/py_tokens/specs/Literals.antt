-- How a text or bytes literal ends, and how many line ends a text has.
use Rattle.std.specs.Prelude.{◌≡◌, ℕ, ◌+◌, ◌-◌, ◌<◌, ◌≤◌, suc, zero, Bool, true, false, not, ◌&&◌, ◌||◌, ◌==◌, nat_eq, nat_le, if◌then◌else◌, List, [], ◌∷◌, length, take, drop, slice_index, ◌⊎◌}
use Rattle.std.specs.List.{starts_with}
use Rattle.std.specs.Str.{IsUtf8}
use Rattle.py_tokens.specs.declared.literal.Prefix.{Prefix}
use Rattle.py_tokens.specs.declared.literal.Literal.{Literal}
use Rattle.py_tokens.specs.declared.literal.Literal.TheVariants.{Closed, Open, Bad}

-- whether a byte is an LF or a CR
abbrev pub is_line_end : ℕ → Bool
is_line_end b = b == 10 || b == 13

-- whether a text begins with these bytes
abbrev pub begins : List ℕ → List ℕ → Bool
begins front bytes = starts_with nat_eq bytes front

-- whether a text begins with a line end
abbrev pub begins_line_end : List ℕ → Bool
begins_line_end bytes = begins (10 ∷ []) bytes || begins (13 ∷ []) bytes

-- whether a byte is of a character that this literal can't hold
abbrev pub is_foreign : Prefix → ℕ → Bool
is_foreign prefix b = nat_le 128 b && prefix.bytes

-- how many bytes the pair of a backslash has after it: a CR LF counts as one character, and the later bytes of a
-- longer character mean nothing to the literal
abbrev pub pair_len : List ℕ → ℕ
pair_len bytes = if begins (13 ∷ 10 ∷ []) bytes then 2 else 1

-- whether a backslash before these bytes joins two lines
abbrev pub joins : Prefix → List ℕ → Bool
joins prefix bytes = begins_line_end bytes && not prefix.raw

-- How a literal ends, of which these bytes are left. `close` are its closing quotes, `pair` is how many bytes of a
-- pair are left, `empty` says whether nothing but joined lines came, and `at` how many bytes came.
abbrev pub content : Prefix → List ℕ → ℕ → Bool → ℕ → List ℕ → Literal
content prefix close pair empty at [] = Open at
content prefix close (suc more) empty at (b ∷ bs) =
    if is_foreign prefix b then Bad at else content prefix close more empty (at + 1) bs
content prefix close zero empty at (b ∷ bs) =
    if begins close (b ∷ bs) then Closed (at + length close) empty
    else (if b == 92 then content prefix close (pair_len bs) (empty && joins prefix bs) (at + 1) bs
    else (if length close == 1 && is_line_end b then Open at
    else (if is_foreign prefix b then Bad at
    else content prefix close zero false (at + 1) bs)))

-- how many quotes a literal has on each side
abbrev pub quotes : List ℕ → ℕ
quotes [] = 1
quotes (b ∷ bs) = if begins (b ∷ b ∷ []) bs then 3 else 1

-- how the literal ends that begins with the first quote of a text
abbrev pub literal_of : List ℕ → Prefix → Literal
literal_of bytes prefix = content prefix (take (quotes bytes) bytes) 0 true (quotes bytes) (drop (quotes bytes) bytes)

-- where a literal's end lies in a text that begins with it
abbrev pub Lies : List ℕ → Literal → Type 0
Lies bytes (Closed len empty) = (0 < len) × (len ≤ length bytes) × (slice_index bytes (len - 1) ≡ slice_index bytes 0)
Lies bytes (Open len) = (0 < len) × (len ≤ length bytes) × ((len ≡ length bytes) ⊎ (is_line_end (slice_index bytes len) ≡ true))
Lies bytes (Bad at) = (at < length bytes) × (128 ≤ slice_index bytes at) × (IsUtf8 bytes → 192 ≤ slice_index bytes at)

-- whether a text's first byte is the last of a line end: an LF, or a CR that no LF follows
abbrev pub ends_line : List ℕ → Bool
ends_line bytes = begins_line_end bytes && not (begins (13 ∷ 10 ∷ []) bytes)

-- how many line ends a text has
abbrev pub line_ends : List ℕ → ℕ
line_ends [] = 0
line_ends (b ∷ bs) = (if ends_line (b ∷ bs) then 1 else 0) + line_ends bs
