-- Where a scan of a text stands.
use Rattle.std.specs.Prelude.{chars, get_or, ℕ, ◌+◌, ◌-◌, if◌then◌else◌, List, [], take, length}
use Rattle.place_ids.specs.Names.{with_name}
use Rattle.place_ids.specs.declared.Span.{Span}
use Rattle.py_tokens.specs.declared.token.Token.{Token}
use Rattle.py_tokens.specs.declared.token.TokenKind.{TokenKind}
use Rattle.py_tokens.specs.declared.place.Place.{Place}
use Rattle.py_tokens.specs.declared.place.Place.TheVariants as place
use Rattle.py_tokens.specs.declared.place.Filling.{Filling}
use Rattle.py_tokens.specs.declared.place.Filling.TheVariants as filling
use Rattle.py_tokens.specs.Fronts.{begins_with}
use Rattle.py_tokens.specs.Literals.{line_ends}

-- How many bytes a scan has passed, its line, from 1, and where on the line it stands; the columns of the blocks around
-- it, the outermost first; what the leading space of the first indented line is made of; the openers that aren't closed yet;
-- and the names so far, of which each is a token by its place.
pub record Scan : Type 0 where
  pub offset : ℕ
  pub line : ℕ
  pub place : Place
  pub columns : List ℕ
  pub filling : Filling
  pub openers : List Span
  pub names : List (List ℕ)

-- the scan at the start of what follows these many bytes
abbrev pub start_at : ℕ → Scan
start_at offset = record { offset = offset; line = 1; place = place.Start; columns = []; filling = filling.Nothing; openers = []; names = [] }

-- how many bytes the mark at the start of a text has, the character U+FEFF
abbrev pub mark_len : List ℕ → ℕ
mark_len text = if begins_with 65279 (chars text) then 3 else 0

-- the span of n bytes that begin after these many others
abbrev pub span_at : ℕ → ℕ → List ℕ → Scan → Span
span_at from n text scan = record { start = scan.offset + from; end = scan.offset + from + n; line = scan.line + line_ends (take from text) }

-- the token of the next n bytes
abbrev pub token_of : TokenKind → ℕ → List ℕ → Scan → Token
token_of k n text scan = record { kind = k; span = span_at 0 n text scan }

-- the scan past the next n bytes
abbrev pub past : ℕ → List ℕ → Scan → Scan
past n text scan = record scan { offset = scan.offset + n; line = scan.line + line_ends (take n text) }

-- the scan at this place
abbrev pub at_place : Place → Scan → Scan
at_place where_ scan = record scan { place = where_ }

-- the scan with this name among its names
abbrev pub naming : List ℕ → Scan → Scan
naming name scan = record scan { names = with_name scan.names name }

-- the last number of a list, or 0
abbrev pub top_of : List ℕ → ℕ
top_of columns = get_or columns (length columns - 1) 0

-- a list without its last element
abbrev pub popped : {X : Type 0} → List X → List X
popped xs = take (length xs - 1) xs
