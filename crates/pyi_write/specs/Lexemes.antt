-- Tokens without their places, each name by its text.
use Rattle.std.specs.Prelude.{◌≢◌, ℕ, ◌+◌, ◌-◌, Bool, true, ◌&&◌, nat_lt, List, [], ◌∷◌, slice_get, map}
use Rattle.std.specs.Option.{unwrap_or}
use Rattle.py_tokens.specs.declared.token.Token.{Token}
use Rattle.py_tokens.specs.declared.token.TokenKind.{TokenKind}
use Rattle.py_tokens.specs.declared.token.TokenKind.TheVariants as kind
use Rattle.py_tokens.specs.declared.token.Keyword.{Keyword}
use Rattle.py_tokens.specs.declared.token.Op.{Op}
use Rattle.py_tokens.specs.declared.token.Op.TheVariants as variant

pub data Lexeme : Type 0 where
  name : List ℕ → Lexeme
  -- any token but a name
  mark : TokenKind → Lexeme

abbrev pub op : Op → Lexeme
op o = mark (kind.Op o)

abbrev pub word : Keyword → Lexeme
word k = mark (kind.Keyword k)

abbrev pub newline : Lexeme
newline = mark kind.Newline

abbrev pub lexeme_of : List (List ℕ) → TokenKind → Lexeme
lexeme_of names (kind.Name id) = name (unwrap_or (slice_get names id) [])
lexeme_of names other = mark other

-- the tokens of a text that has these names
abbrev pub lexemes : List (List ℕ) → List Token → List Lexeme
lexemes names tokens = map (λ token. lexeme_of names token.kind) tokens

-- the lexemes don't go on with this operator
abbrev pub Stops : Op → List Lexeme → Type 0
Stops o ls = (more : List Lexeme) → ls ≢ op o ∷ more

pub data Bracket : Type 0 where
  opens : Bracket
  closes : Bracket
  neither : Bracket

abbrev pub op_bracket : Op → Bracket
op_bracket variant.LeftParen = opens
op_bracket variant.LeftSquare = opens
op_bracket variant.LeftBrace = opens
op_bracket variant.RightParen = closes
op_bracket variant.RightSquare = closes
op_bracket variant.RightBrace = closes
op_bracket _ = neither

abbrev pub bracket_of : Lexeme → Bracket
bracket_of (mark (kind.Op o)) = op_bracket o
bracket_of _ = neither

-- how many brackets are open behind a lexeme
abbrev pub open_behind : Bracket → ℕ → ℕ
open_behind opens n = n + 1
open_behind closes n = n - 1
open_behind neither n = n

-- whether a lexeme may stand where so many brackets are open, of which at most 64 may be
abbrev pub may_stand : Bracket → ℕ → Bool
may_stand opens n = nat_lt n 64
may_stand _ n = true

abbrev pub brackets_fit : ℕ → List Lexeme → Bool
brackets_fit n [] = true
brackets_fit n (l ∷ ls) = may_stand (bracket_of l) n && brackets_fit (open_behind (bracket_of l) n) ls
