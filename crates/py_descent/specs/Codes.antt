-- The tokens that are told apart by their kind alone, by numbers.
use Rattle.std.specs.Prelude.{◌≡◌, ℕ, ◌+◌, ◌==◌, Bool, true, false, List, slice_get, Option, Some, None}
use Rattle.py_tokens.specs.declared.token.TokenKind.{TokenKind}
use Rattle.py_tokens.specs.declared.token.TokenKind.TheVariants as kind
use Rattle.py_tokens.specs.declared.token.Keyword.{Keyword}
use Rattle.py_tokens.specs.declared.token.Keyword.TheVariants as word
use Rattle.py_tokens.specs.declared.token.Op.{Op}
use Rattle.py_tokens.specs.declared.token.Op.TheVariants as op
use Rattle.py_grammar.specs.Cursor.{Cursor, next}

abbrev pub op_code : Op → ℕ
op_code op.Plus = 0
op_code op.Minus = 1
op_code op.Star = 2
op_code op.DoubleStar = 3
op_code op.Slash = 4
op_code op.DoubleSlash = 5
op_code op.Percent = 6
op_code op.At = 7
op_code op.ShiftLeft = 8
op_code op.ShiftRight = 9
op_code op.Amper = 10
op_code op.Bar = 11
op_code op.Caret = 12
op_code op.Tilde = 13
op_code op.Less = 14
op_code op.Greater = 15
op_code op.LessEq = 16
op_code op.GreaterEq = 17
op_code op.EqEq = 18
op_code op.NotEq = 19
op_code op.LeftParen = 20
op_code op.RightParen = 21
op_code op.LeftSquare = 22
op_code op.RightSquare = 23
op_code op.LeftBrace = 24
op_code op.RightBrace = 25
op_code op.Comma = 26
op_code op.Colon = 27
op_code op.Dot = 28
op_code op.Semi = 29
op_code op.Assign = 30
op_code op.Arrow = 31
op_code op.Walrus = 32
op_code op.Ellipsis = 33
op_code op.PlusAssign = 34
op_code op.MinusAssign = 35
op_code op.StarAssign = 36
op_code op.SlashAssign = 37
op_code op.DoubleSlashAssign = 38
op_code op.PercentAssign = 39
op_code op.AtAssign = 40
op_code op.AmperAssign = 41
op_code op.BarAssign = 42
op_code op.CaretAssign = 43
op_code op.ShiftRightAssign = 44
op_code op.ShiftLeftAssign = 45
op_code op.DoubleStarAssign = 46

abbrev pub word_code : Keyword → ℕ
word_code word.KwFalse = 0
word_code word.KwNone = 1
word_code word.KwTrue = 2
word_code word.KwAnd = 3
word_code word.KwAs = 4
word_code word.KwAssert = 5
word_code word.KwAsync = 6
word_code word.KwAwait = 7
word_code word.KwBreak = 8
word_code word.KwClass = 9
word_code word.KwContinue = 10
word_code word.KwDef = 11
word_code word.KwDel = 12
word_code word.KwElif = 13
word_code word.KwElse = 14
word_code word.KwExcept = 15
word_code word.KwFinally = 16
word_code word.KwFor = 17
word_code word.KwFrom = 18
word_code word.KwGlobal = 19
word_code word.KwIf = 20
word_code word.KwImport = 21
word_code word.KwIn = 22
word_code word.KwIs = 23
word_code word.KwLambda = 24
word_code word.KwNonlocal = 25
word_code word.KwNot = 26
word_code word.KwOr = 27
word_code word.KwPass = 28
word_code word.KwRaise = 29
word_code word.KwReturn = 30
word_code word.KwTry = 31
word_code word.KwWhile = 32
word_code word.KwWith = 33
word_code word.KwYield = 34

-- a token that is told by its kind alone
pub data Mark : Type 0 where
  symbol : Op → Mark
  keyword : Keyword → Mark
  newline indent dedent end : Mark

-- whether a kind is the marked one
abbrev pub is : Mark → TokenKind → Bool
is (symbol o) (kind.Op p) = op_code p == op_code o
is (keyword w) (kind.Keyword v) = word_code v == word_code w
is newline kind.Newline = true
is indent kind.Indent = true
is dedent kind.Dedent = true
is end kind.End = true
is _ _ = false

abbrev pub is_in : Mark → Option TokenKind → Bool
is_in m None = false
is_in m (Some k) = is m k

-- whether the next token is the marked one
unfoldable pub at : Mark → Cursor → Bool
at m c = is_in m (next c)
