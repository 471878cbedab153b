-- How deep the tokens of a text are nested (the profile's bound is 64).
use Rattle.std.specs.Prelude.{◌≡◌, ℕ, ◌+◌, ◌-◌, ◌≤◌, List, [], ◌∷◌, slice_get, length, sum, Some}
use Rattle.py_tokens.specs.declared.token.Token.{Token}
use Rattle.py_tokens.specs.declared.token.TokenKind.{TokenKind}
use Rattle.py_tokens.specs.declared.token.TokenKind.TheVariants as kind
use Rattle.py_tokens.specs.declared.token.Keyword.{Keyword}
use Rattle.py_tokens.specs.declared.token.Keyword.TheVariants as word
use Rattle.py_tokens.specs.declared.token.Op.{Op}
use Rattle.py_tokens.specs.declared.token.Op.TheVariants as op

-- the open blocks, the count of the innermost open bracket or else of the statement, and the counts of those around it
pub record Nest : Type 0 where
  pub blocks : ℕ
  pub count : ℕ
  pub around : List ℕ

-- A closer goes back to the bracket or the statement around, and adds one to its count; where no bracket is open, to the statement's.
abbrev pub closed : ℕ → ℕ → List ℕ → Nest
closed blocks count [] = record { blocks = blocks; count = count + 1; around = [] }
closed blocks count (c ∷ cs) = record { blocks = blocks; count = c + 1; around = cs }

abbrev pub after_op : Op → Nest → Nest
after_op op.LeftParen n = record { blocks = n.blocks; count = 0; around = n.count ∷ n.around }
after_op op.LeftSquare n = record { blocks = n.blocks; count = 0; around = n.count ∷ n.around }
after_op op.LeftBrace n = record { blocks = n.blocks; count = 0; around = n.count ∷ n.around }
after_op op.RightParen n = closed n.blocks n.count n.around
after_op op.RightSquare n = closed n.blocks n.count n.around
after_op op.RightBrace n = closed n.blocks n.count n.around
after_op op.Comma n = record { blocks = n.blocks; count = 0; around = n.around }
after_op op.Colon n = record { blocks = n.blocks; count = 0; around = n.around }
after_op op.Assign n = record { blocks = n.blocks; count = 0; around = n.around }
after_op op.Semi n = record { blocks = n.blocks; count = 0; around = n.around }
after_op _ n = record { blocks = n.blocks; count = n.count + 1; around = n.around }

abbrev pub after_word : Keyword → Nest → Nest
after_word word.KwAnd n = record { blocks = n.blocks; count = n.count + 1; around = n.around }
after_word word.KwOr n = record { blocks = n.blocks; count = n.count + 1; around = n.around }
after_word word.KwNot n = record { blocks = n.blocks; count = n.count + 1; around = n.around }
after_word word.KwIf n = record { blocks = n.blocks; count = n.count + 1; around = n.around }
after_word word.KwElse n = record { blocks = n.blocks; count = n.count + 1; around = n.around }
after_word word.KwIn n = record { blocks = n.blocks; count = n.count + 1; around = n.around }
after_word word.KwIs n = record { blocks = n.blocks; count = n.count + 1; around = n.around }
after_word _ n = n

-- A NEWLINE ends the statement, and the next one counts from 0.
abbrev pub after : TokenKind → Nest → Nest
after (kind.Op o) n = after_op o n
after (kind.Keyword w) n = after_word w n
after kind.Newline n = record { blocks = n.blocks; count = 0; around = n.around }
after kind.Indent n = record { blocks = n.blocks + 1; count = n.count; around = n.around }
after kind.Dedent n = record { blocks = n.blocks - 1; count = n.count; around = n.around }
after _ n = n

-- the open blocks, the open brackets and all counts
abbrev pub depth : Nest → ℕ
depth n = n.blocks + length n.around + (n.count + sum n.around)

-- the nesting of each token is that after it
abbrev pub depths_from : Nest → List Token → List ℕ
depths_from n [] = []
depths_from n (t ∷ ts) = depth (after t.kind n) ∷ depths_from (after t.kind n) ts

abbrev pub depths : List Token → List ℕ
depths tokens = depths_from (record { blocks = 0; count = 0; around = [] }) tokens

-- the nesting reaches 65 at some token
pub data IsTooDeep (tokens : List Token) : Type 0 where
  too_deep : (i d : ℕ) → slice_get (depths tokens) i ≡ Some d → 65 ≤ d → IsTooDeep tokens
