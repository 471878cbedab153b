-- Which tokens a text has, and which fault a text has that has none.
use Rattle.std.specs.Prelude.{◌≡◌, ◌≢◌, ℕ, ◌-◌, List, [], ◌∷◌, ◌++◌, drop, length, replicate, slice_get, Some}
use Rattle.place_ids.specs.declared.Span.{Span}
use Rattle.py_tokens.specs.declared.token.Token.{Token}
use Rattle.py_tokens.specs.declared.token.TokenKind.TheVariants as kind
use Rattle.py_tokens.specs.declared.fault.TokenFault.{TokenFault}
use Rattle.py_tokens.specs.declared.fault.TokenFault.TheVariants as fault
use Rattle.py_tokens.specs.declared.place.Place.{Place}
use Rattle.py_tokens.specs.declared.place.Place.TheVariants as place
use Rattle.py_tokens.specs.Scans.{Scan, start_at, mark_len, token_of}
use Rattle.py_tokens.specs.Turns.{Move, goes, fails, turn_of}

-- the NEWLINE of a last line that has no line end
abbrev pub last_newline : Place → Scan → List Token
last_newline place.Line scan = token_of kind.Newline 0 [] scan ∷ []
last_newline other scan = []

-- the tokens at the end of the text
abbrev pub last_tokens : Scan → List Token
last_tokens scan = last_newline scan.place scan ++ (replicate (length scan.columns) (token_of kind.Dedent 0 [] scan) ++ token_of kind.End 0 [] scan ∷ [])

-- The text that is left has these tokens, and the module then these names.
pub data Reads : Scan → List ℕ → List Token → List (List ℕ) → Type 0 where
  reads_end : {scan : Scan} {text : List ℕ} {tokens : List Token} {names : List (List ℕ)} →
      text ≡ [] → scan.openers ≡ [] → tokens ≡ last_tokens scan → names ≡ scan.names → Reads scan text tokens names
  reads_step : {scan : Scan} {text : List ℕ} {tokens more : List Token} {names : List (List ℕ)} {move : Move} →
      text ≢ [] → turn_of text scan ≡ goes move → Reads move.after move.rest more names → tokens ≡ move.tokens ++ more → Reads scan text tokens names

-- The scan of the text that is left meets this fault first.
pub data Meets : Scan → List ℕ → TokenFault → Type 0 where
  meets_end : {scan : Scan} {text : List ℕ} {found : TokenFault} {last : Span} →
      text ≡ [] → slice_get scan.openers (length scan.openers - 1) ≡ Some last → found ≡ fault.OpenBracket last → Meets scan text found
  meets_here : {scan : Scan} {text : List ℕ} {found : TokenFault} →
      text ≢ [] → turn_of text scan ≡ fails found → Meets scan text found
  meets_later : {scan : Scan} {text : List ℕ} {found : TokenFault} {move : Move} →
      text ≢ [] → turn_of text scan ≡ goes move → Meets move.after move.rest found → Meets scan text found

-- A text has these tokens and names.
abbrev pub HasTokens : List ℕ → List Token → List (List ℕ) → Type 0
HasTokens text tokens names = Reads (start_at (mark_len text)) (drop (mark_len text) text) tokens names

-- A text has this fault.
abbrev pub HasFault : List ℕ → TokenFault → Type 0
HasFault text found = Meets (start_at (mark_len text)) (drop (mark_len text) text) found
