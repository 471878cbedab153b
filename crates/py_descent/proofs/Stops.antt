-- Where an expression ends: the next token doesn't draw it on.
use Rattle.std.proofs.Common.{◌≡◌, ℕ, ◌+◌, ◌<◌, ◌≤◌, Bool, true, false, Option, Some, None, refl, sym, ap, ◌∙◌, subst, arith}
use Rattle.place_ids.specs.declared.operators.BinOp.{BinOp}
use Rattle.place_ids.specs.declared.operators.CompareOp.{CompareOp}
use Rattle.py_tokens.specs.declared.token.TokenKind.{TokenKind}
use Rattle.py_tokens.specs.declared.token.TokenKind.TheVariants as kind
use Rattle.py_tokens.specs.declared.token.Keyword.{Keyword}
use Rattle.py_tokens.specs.declared.token.Keyword.TheVariants as word
use Rattle.py_tokens.specs.declared.token.Op.{Op}
use Rattle.py_tokens.specs.declared.token.Op.TheVariants as op
use Rattle.py_grammar.specs.Cursor.{Cursor, next, past, Begins, BeginsOp, BeginsWord}
use Rattle.py_grammar.specs.Operators
use Rattle.py_grammar.specs.Operators.{IsBinary}
use Rattle.py_grammar.specs.Expressions.{IsComparison, comparison_less, comparison_greater, comparison_less_eq, comparison_greater_eq, comparison_equal, comparison_not_equal, comparison_is, comparison_is_not, comparison_within, comparison_not_within}
use Rattle.py_descent.specs.Codes.{symbol, keyword, at}
use Rattle.py_descent.specs.Programs.{said}
use Rattle.py_descent.specs.Takings.{str_in, octets_in, compare_in, binary_in}
use Rattle.py_descent.proofs.Seeing.{at_symbol, at_keyword, said_str, said_octets, said_binary, said_compare, SaysBinary, says_binary}

-- how tightly an operator draws on what stands before it
abbrev pub op_pull : Op → ℕ
op_pull op.Comma = 1
op_pull op.LeftBrace = 1
op_pull op.Tilde = 1
op_pull op.Less = 5
op_pull op.Greater = 5
op_pull op.LessEq = 5
op_pull op.GreaterEq = 5
op_pull op.EqEq = 5
op_pull op.NotEq = 5
op_pull op.Bar = 6
op_pull op.Caret = 7
op_pull op.Amper = 8
op_pull op.ShiftLeft = 9
op_pull op.ShiftRight = 9
op_pull op.Plus = 10
op_pull op.Minus = 10
op_pull op.Star = 11
op_pull op.Slash = 11
op_pull op.DoubleSlash = 11
op_pull op.Percent = 11
op_pull op.At = 11
op_pull op.DoubleStar = 12
op_pull op.Dot = 13
op_pull op.LeftParen = 13
op_pull op.LeftSquare = 13
op_pull _ = 0

abbrev pub word_pull : Keyword → ℕ
word_pull word.KwNone = 1
word_pull word.KwTrue = 1
word_pull word.KwFalse = 1
word_pull word.KwIf = 2
word_pull word.KwOr = 3
word_pull word.KwAnd = 4
word_pull word.KwIs = 5
word_pull word.KwIn = 5
word_pull word.KwNot = 5
word_pull _ = 0

abbrev pub pull : Option TokenKind → ℕ
pull (Some (kind.Op o)) = op_pull o
pull (Some (kind.Keyword w)) = word_pull w
pull (Some (kind.Name n)) = 1
pull (Some (kind.Int n)) = 1
pull (Some kind.Float) = 1
pull (Some (kind.Str b)) = 14
pull (Some (kind.Bytes b)) = 14
pull _ = 0

-- the next token draws less than this
abbrev pub Stops : ℕ → Cursor → Type 0
Stops n c = pull (next c) < n

pub stops_less : (n m : ℕ) (c : Cursor) → n ≤ m → Stops n c → Stops m c
stops_less n m c le s = omega (arith, le, s)

-- where a token stands, its pull is known
pub stops_at : (n : ℕ) (c : Cursor) (k : TokenKind) → next c ≡ Some k → pull (Some k) < n → Stops n c
stops_at n c k h less = subst (λ (z : Option TokenKind). pull z < n) (sym h) less

pulled : (n : ℕ) (c : Cursor) (k : TokenKind) → Stops n c → next c ≡ Some k → pull (Some k) < n
pulled n c k s h = subst (λ (z : Option TokenKind). pull z < n) h s

pub no_symbol : (o : Op) (n : ℕ) (c : Cursor) → Stops n c → n ≤ op_pull o → at (symbol o) c ≡ false
no_symbol o n c s le = by_test (at (symbol o) c) refl where
  by_test : (z : Bool) → at (symbol o) c ≡ z → z ≡ false
  by_test true e = absurd (omega (arith, le, pulled n c (kind.Op o) s (at_symbol o c e)))
  by_test false e = refl

pub no_keyword : (w : Keyword) (n : ℕ) (c : Cursor) → Stops n c → n ≤ word_pull w → at (keyword w) c ≡ false
no_keyword w n c s le = by_test (at (keyword w) c) refl where
  by_test : (z : Bool) → at (keyword w) c ≡ z → z ≡ false
  by_test true e = absurd (omega (arith, le, pulled n c (kind.Keyword w) s (at_keyword w c e)))
  by_test false e = refl

pub no_str : (n : ℕ) (c : Cursor) → Stops n c → n ≤ 14 → said str_in c ≡ None
no_str n c s le = by_said (said str_in c) refl where
  by_said : (o : Option Bool) → said str_in c ≡ o → o ≡ None
  by_said None e = refl
  by_said (Some b) e = absurd (omega (arith, le, pulled n c (kind.Str b) s (said_str b c e)))

pub no_octets : (n : ℕ) (c : Cursor) → Stops n c → n ≤ 14 → said octets_in c ≡ None
no_octets n c s le = by_said (said octets_in c) refl where
  by_said : (o : Option Bool) → said octets_in c ≡ o → o ≡ None
  by_said None e = refl
  by_said (Some b) e = absurd (omega (arith, le, pulled n c (kind.Bytes b) s (said_octets b c e)))

binary_pull : (o : Op) (n : ℕ) (u : BinOp) → IsBinary o n u → op_pull o ≡ 6 + n
binary_pull _ _ _ Operators.binary_or = refl
binary_pull _ _ _ Operators.binary_xor = refl
binary_pull _ _ _ Operators.binary_and = refl
binary_pull _ _ _ Operators.binary_shift_left = refl
binary_pull _ _ _ Operators.binary_shift_right = refl
binary_pull _ _ _ Operators.binary_add = refl
binary_pull _ _ _ Operators.binary_sub = refl
binary_pull _ _ _ Operators.binary_mul = refl
binary_pull _ _ _ Operators.binary_div = refl
binary_pull _ _ _ Operators.binary_floor_div = refl
binary_pull _ _ _ Operators.binary_mod = refl
binary_pull _ _ _ Operators.binary_mat_mul = refl

-- no binary operator of this level or a tighter one is next
pub no_binary : (least : ℕ) (c : Cursor) → Stops (6 + least) c → said (binary_in least) c ≡ None
no_binary least c s = by_said (said (binary_in least) c) refl where
  by_said : (o : Option (ℕ × BinOp)) → said (binary_in least) c ≡ o → o ≡ None
  by_said None e = refl
  by_said (Some row) e = by_row (said_binary least row c e) where
    by_row : SaysBinary least row c → Some row ≡ None
    by_row (says_binary o h is le) = absurd (omega (arith, le, binary_pull o _ _ is, pulled (6 + least) c (kind.Op o) s h))

-- a binary operator of this level draws no tighter than its level
pub stops_binary : (o : Op) (n m : ℕ) (u : BinOp) (c : Cursor) → BeginsOp o c → IsBinary o n u → 6 + n < m → Stops m c
stops_binary o n m u c h is less = stops_at m c (kind.Op o) h (omega (arith, less, binary_pull o n u is))

-- a comparison draws no operand
pub comparison_pull : (c : Cursor) (u : CompareOp) (d : Cursor) → IsComparison c u d → pull (next c) ≡ 5
comparison_pull _ _ _ (comparison_less h) = ap pull h
comparison_pull _ _ _ (comparison_greater h) = ap pull h
comparison_pull _ _ _ (comparison_less_eq h) = ap pull h
comparison_pull _ _ _ (comparison_greater_eq h) = ap pull h
comparison_pull _ _ _ (comparison_equal h) = ap pull h
comparison_pull _ _ _ (comparison_not_equal h) = ap pull h
comparison_pull _ _ _ (comparison_is h k) = ap pull h
comparison_pull _ _ _ (comparison_is_not h k) = ap pull h
comparison_pull _ _ _ (comparison_within h) = ap pull h
comparison_pull _ _ _ (comparison_not_within h k) = ap pull h

pub no_compare : (c : Cursor) → Stops 5 c → said compare_in c ≡ None
no_compare c s = by_said (said compare_in c) refl where
  by_said : (o : Option CompareOp) → said compare_in c ≡ o → o ≡ None
  by_said None e = refl
  by_said (Some u) e = absurd (omega (arith, s, comparison_pull c u (past c) (said_compare u c e)))
