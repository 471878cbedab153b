-- A place in a list of tokens, as the grammar goes through them.
use Rattle.std.specs.Prelude.{◌≡◌, ℕ, ◌+◌, Bool, List, slice_get, Option, Some, None}
use Rattle.std.specs.Option.{option_and_then}
use Rattle.py_tokens.specs.declared.token.Token.{Token}
use Rattle.py_tokens.specs.declared.token.TokenKind.{TokenKind}
use Rattle.py_tokens.specs.declared.token.TokenKind.TheVariants as kind
use Rattle.py_tokens.specs.declared.token.Keyword.{Keyword}
use Rattle.py_tokens.specs.declared.token.Op.{Op}
use Rattle.py_tree.specs.Tree.{Expr, ExprKind, node, Stmt, StmtKind, statement}

-- the tokens and the texts of their names, how many tokens are behind, whether a class is around, and the numbers that
-- the next function, class and expression get
pub record Cursor : Type 0 where
  pub tokens : List Token
  pub names : List (List ℕ)
  pub place : ℕ
  pub in_class : Bool
  pub funs : ℕ
  pub classes : ℕ
  pub sites : ℕ

-- the next token's kind, if there is a next token
abbrev pub kind_in : Option Token → Option TokenKind
kind_in None = None
kind_in (Some token) = Some token.kind

abbrev pub next : Cursor → Option TokenKind
next c = kind_in (slice_get c.tokens c.place)

-- the next token is of this kind, is this operator or is this keyword
abbrev pub Begins : TokenKind → Cursor → Type 0
Begins k c = next c ≡ Some k

abbrev pub BeginsOp : Op → Cursor → Type 0
BeginsOp op c = next c ≡ Some (kind.Op op)

abbrev pub BeginsWord : Keyword → Cursor → Type 0
BeginsWord word c = next c ≡ Some (kind.Keyword word)

-- the line of the next token
abbrev pub line_in : Option Token → ℕ
line_in None = 0
line_in (Some token) = token.span.line

abbrev pub line_of : Cursor → ℕ
line_of c = line_in (slice_get c.tokens c.place)

-- behind the next token
abbrev pub past : Cursor → Cursor
past c = record { tokens = c.tokens; names = c.names; place = c.place + 1; in_class = c.in_class; funs = c.funs; classes = c.classes; sites = c.sites }

-- behind the next two tokens
abbrev pub past_two : Cursor → Cursor
past_two c = past (past c)

-- at the same token, with a number taken
abbrev pub with_site : Cursor → Cursor
with_site c = record { tokens = c.tokens; names = c.names; place = c.place; in_class = c.in_class; funs = c.funs; classes = c.classes; sites = c.sites + 1 }

abbrev pub with_fun : Cursor → Cursor
with_fun c = record { tokens = c.tokens; names = c.names; place = c.place; in_class = c.in_class; funs = c.funs + 1; classes = c.classes; sites = c.sites }

abbrev pub with_class : Cursor → Cursor
with_class c = record { tokens = c.tokens; names = c.names; place = c.place; in_class = c.in_class; funs = c.funs; classes = c.classes + 1; sites = c.sites }

-- at the same token, within a class or not
abbrev pub within : Bool → Cursor → Cursor
within b c = record { tokens = c.tokens; names = c.names; place = c.place; in_class = b; funs = c.funs; classes = c.classes; sites = c.sites }

-- An expression's node is numbered after its parts; it has the line of its first token.
abbrev pub made : ExprKind → Cursor → Cursor → Expr
made kind from to = node kind (line_of from) to.sites

-- a statement has the line of its first token
abbrev pub stated : StmtKind → Cursor → Stmt
stated kind from = statement kind (line_of from)
