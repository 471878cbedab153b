-- The first token that is nested too deep.
use Rattle.std.specs.Prelude.{◌≡◌, ℕ, ◌+◌, ◌-◌, ◌<◌, ◌≤◌, [], ◌∷◌, List, length, slice_get, Option, Some, None}
use Rattle.py_tokens.specs.declared.token.Token.{Token}
use Rattle.py_grammar.specs.Nesting.{Nest, after, closed, depths}
use Rattle.py_parse.specs.declared.nesting.Turn.{Turn}
use Rattle.py_parse.specs.declared.nesting.Turn.TheVariants.{Opens, Closes, Resets, Adds, Indents, Dedents, Nothing}

-- before any token
abbrev pub flat : Nest
flat = record { blocks = 0; count = 0; around = [] }

-- after the token at a place, if there is one
abbrev pub after_in : Option Token → Nest → Nest
after_in None n = n
after_in (Some t) n = after t.kind n

-- what each turn does
abbrev pub turned : Turn → Nest → Nest
turned Opens n = record { blocks = n.blocks; count = 0; around = n.count ∷ n.around }
turned Closes n = closed n.blocks n.count n.around
turned Resets n = record { blocks = n.blocks; count = 0; around = n.around }
turned Adds n = record { blocks = n.blocks; count = n.count + 1; around = n.around }
turned Indents n = record { blocks = n.blocks + 1; count = n.count; around = n.around }
turned Dedents n = record { blocks = n.blocks - 1; count = n.count; around = n.around }
turned Nothing n = n

-- the nesting at a place reaches 65
pub record IsDeepAt (tokens : List Token) (place : ℕ) : Type 0 where
  pub nesting : ℕ
  pub there : slice_get (depths tokens) place ≡ Some nesting
  pub deep : 65 ≤ nesting

-- no nesting before a place reaches 65
pub data IsShallow (tokens : List Token) (place : ℕ) : Type 0 where
  is_shallow : ((i d : ℕ) → i < place → slice_get (depths tokens) i ≡ Some d → d < 65) → IsShallow tokens place

-- The nesting reaches 65 at a place and not before it, or nowhere, where the place is the number of the tokens.
pub record IsFirstDeep (tokens : List Token) (place : ℕ) : Type 0 where
  pub within : place ≤ length tokens
  pub before : IsShallow tokens place
  pub here : place < length tokens → IsDeepAt tokens place
