-- What a token says, where it says more than its kind.
use Rattle.std.specs.Prelude.{◌≡◌, ℕ, ◌==◌, ◌||◌, ◌&&◌, nat_lt, not, Bool, true, false, if◌then◌else◌, List, Option, Some, None}
use Rattle.place_ids.specs.declared.operators.BinOp.{BinOp}
use Rattle.place_ids.specs.declared.operators.BinOp.TheVariants as bin
use Rattle.place_ids.specs.declared.operators.CompareOp.{CompareOp}
use Rattle.place_ids.specs.declared.operators.CompareOp.TheVariants as cmp
use Rattle.place_ids.specs.declared.operators.UnaryOp.{UnaryOp}
use Rattle.place_ids.specs.declared.operators.UnaryOp.TheVariants as un
use Rattle.py_tokens.specs.declared.token.TokenKind.{TokenKind}
use Rattle.py_tokens.specs.declared.token.TokenKind.TheVariants as kind
use Rattle.py_tokens.specs.declared.token.Keyword.TheVariants as word
use Rattle.py_tokens.specs.declared.token.Op.{Op}
use Rattle.py_tokens.specs.declared.token.Op.TheVariants as op
use Rattle.py_tree.specs.declared.literal.Literal.{Literal}
use Rattle.py_tree.specs.declared.literal.Literal.TheVariants as lit
use Rattle.py_grammar.specs.Cursor.{Cursor, next, past}
use Rattle.py_grammar.specs.Names.{text_of, is_private, is_special, is_super}

abbrev pub name_in : Option TokenKind → Option ℕ
name_in (Some (kind.Name n)) = Some n
name_in _ = None

abbrev pub str_in : Option TokenKind → Option Bool
str_in (Some (kind.Str empty)) = Some empty
str_in _ = None

abbrev pub octets_in : Option TokenKind → Option Bool
octets_in (Some (kind.Bytes empty)) = Some empty
octets_in _ = None

-- a number, as it stands in an expression
abbrev pub number_in : Option TokenKind → Option Literal
number_in (Some (kind.Int n)) = Some (lit.Int false n)
number_in (Some kind.Float) = Some lit.Float
number_in _ = None

-- a number behind a `-`
abbrev pub negative_in : Option TokenKind → Option Literal
negative_in (Some (kind.Int n)) = Some (lit.Int true n)
negative_in (Some kind.Float) = Some lit.Float
negative_in _ = None

abbrev pub constant_in : Option TokenKind → Option Literal
constant_in (Some (kind.Keyword word.KwNone)) = Some lit.NoneValue
constant_in (Some (kind.Keyword word.KwTrue)) = Some lit.TrueValue
constant_in (Some (kind.Keyword word.KwFalse)) = Some lit.FalseValue
constant_in _ = None

abbrev pub unary_of : Op → Option UnaryOp
unary_of op.Plus = Some un.Plus
unary_of op.Minus = Some un.Minus
unary_of op.Tilde = Some un.Invert
unary_of _ = None

-- a binary operator: its level, and what it is
abbrev pub binary_of : Op → Option (ℕ × BinOp)
binary_of op.Bar = Some (0, bin.BitOr)
binary_of op.Caret = Some (1, bin.BitXor)
binary_of op.Amper = Some (2, bin.BitAnd)
binary_of op.ShiftLeft = Some (3, bin.ShiftLeft)
binary_of op.ShiftRight = Some (3, bin.ShiftRight)
binary_of op.Plus = Some (4, bin.Add)
binary_of op.Minus = Some (4, bin.Sub)
binary_of op.Star = Some (5, bin.Mul)
binary_of op.Slash = Some (5, bin.Div)
binary_of op.DoubleSlash = Some (5, bin.FloorDiv)
binary_of op.Percent = Some (5, bin.Mod)
binary_of op.At = Some (5, bin.MatMul)
binary_of _ = None

abbrev pub compare_of : Op → Option CompareOp
compare_of op.Less = Some cmp.Less
compare_of op.Greater = Some cmp.Greater
compare_of op.LessEq = Some cmp.LessEq
compare_of op.GreaterEq = Some cmp.GreaterEq
compare_of op.EqEq = Some cmp.Equal
compare_of op.NotEq = Some cmp.NotEqual
compare_of _ = None

abbrev pub augment_of : Op → Option BinOp
augment_of op.PlusAssign = Some bin.Add
augment_of op.MinusAssign = Some bin.Sub
augment_of op.StarAssign = Some bin.Mul
augment_of op.SlashAssign = Some bin.Div
augment_of op.DoubleSlashAssign = Some bin.FloorDiv
augment_of op.PercentAssign = Some bin.Mod
augment_of op.AtAssign = Some bin.MatMul
augment_of op.AmperAssign = Some bin.BitAnd
augment_of op.BarAssign = Some bin.BitOr
augment_of op.CaretAssign = Some bin.BitXor
augment_of op.ShiftRightAssign = Some bin.ShiftRight
augment_of op.ShiftLeftAssign = Some bin.ShiftLeft
augment_of op.DoubleStarAssign = Some bin.Pow
augment_of _ = None

abbrev pub unary_in : Option TokenKind → Option UnaryOp
unary_in (Some (kind.Op o)) = unary_of o
unary_in _ = None

abbrev pub compare_in : Option TokenKind → Option CompareOp
compare_in (Some (kind.Op o)) = compare_of o
compare_in _ = None

abbrev pub augment_in : Option TokenKind → Option BinOp
augment_in (Some (kind.Op o)) = augment_of o
augment_in _ = None

-- a binary operator of this level or a tighter one
abbrev pub of_level : ℕ → Option (ℕ × BinOp) → Option (ℕ × BinOp)
of_level least None = None
of_level least (Some row) = if nat_lt row.0 least then None else Some row

abbrev pub binary_in : ℕ → Option TokenKind → Option (ℕ × BinOp)
binary_in least (Some (kind.Op o)) = of_level least (binary_of o)
binary_in least _ = None

-- whether a test begins with the token
abbrev pub begins_op : Op → Bool
begins_op op.LeftParen = true
begins_op op.LeftSquare = true
begins_op op.LeftBrace = true
begins_op op.Plus = true
begins_op op.Minus = true
begins_op op.Tilde = true
begins_op _ = false

abbrev pub begins_in : Option TokenKind → Bool
begins_in (Some (kind.Name n)) = true
begins_in (Some (kind.Int n)) = true
begins_in (Some kind.Float) = true
begins_in (Some (kind.Str empty)) = true
begins_in (Some (kind.Bytes empty)) = true
begins_in (Some (kind.Keyword word.KwNone)) = true
begins_in (Some (kind.Keyword word.KwTrue)) = true
begins_in (Some (kind.Keyword word.KwFalse)) = true
begins_in (Some (kind.Keyword word.KwNot)) = true
begins_in (Some (kind.Op o)) = begins_op o
begins_in _ = false

unfoldable pub begins_test : Cursor → Bool
begins_test c = begins_in (next c)

-- whether a name at this cursor is private in a class, special, or `super`
unfoldable pub is_barred : Cursor → ℕ → Bool
is_barred c n = c.in_class && is_private (text_of c n)

unfoldable pub is_named_specially : Cursor → ℕ → Bool
is_named_specially c n = is_special (text_of c n)

unfoldable pub is_named_super : Cursor → ℕ → Bool
is_named_super c n = is_super (text_of c n)

-- the token before the cursor is a name
abbrev pub is_name_in : Option TokenKind → Bool
is_name_in (Some (kind.Name n)) = true
is_name_in _ = false
