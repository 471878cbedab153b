-- What may lie between two tokens.
use Rattle.std.specs.Prelude.{◌≡◌, ℕ, ◌+◌, ◌⊎◌, List, [], ◌∷◌, ◌++◌, length, drop, true}
use Rattle.std.specs.List.{list_all}
use Rattle.py_tokens.specs.declared.token.Token.{Token}
use Rattle.py_tokens.specs.Bytes.{is_space_byte, is_line_byte}

-- a line feed, a carriage return, or both in this order
abbrev pub IsLineEnd : List ℕ → Type 0
IsLineEnd bytes = (bytes ≡ 10 ∷ []) ⊎ (bytes ≡ 13 ∷ []) ⊎ (bytes ≡ 13 ∷ 10 ∷ [])

-- Space, comments, joins and line ends, one after another.
pub data IsGap : List ℕ → Type 0 where
  no_gap : IsGap []
  space : {bytes rest : List ℕ} (front : List ℕ) → bytes ≡ front ++ rest → list_all is_space_byte front ≡ true → IsGap rest → IsGap bytes
  comment : {bytes rest : List ℕ} (front : List ℕ) → bytes ≡ 35 ∷ front ++ rest → list_all is_line_byte front ≡ true → IsGap rest → IsGap bytes
  join : {bytes rest : List ℕ} (front : List ℕ) → bytes ≡ 92 ∷ front ++ rest → IsLineEnd front → IsGap rest → IsGap bytes
  line_end : {bytes rest : List ℕ} (front : List ℕ) → bytes ≡ front ++ rest → IsLineEnd front → IsGap rest → IsGap bytes

-- The tokens' spans lie one after another in a text that begins at this offset, and what is in none of them is a gap.
pub data AreLaid : ℕ → List ℕ → List Token → Type 0 where
  laid_end : {offset : ℕ} {text : List ℕ} → IsGap text → AreLaid offset text []
  laid_token : {offset : ℕ} {text gap : List ℕ} {token : Token} {more : List Token} (len : ℕ) (rest : List ℕ) →
      text ≡ gap ++ rest → IsGap gap → token.span.start ≡ offset + length gap → token.span.end ≡ token.span.start + len →
      AreLaid token.span.end (drop len rest) more → AreLaid offset text (token ∷ more)
