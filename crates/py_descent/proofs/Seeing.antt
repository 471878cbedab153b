-- What the next token is, from what is seen of it, and back.
use Rattle.std.proofs.Common.{◌≡◌, ℕ, ◌≤◌, ◌==◌, nat_lt, Bool, true, false, if◌then◌else◌, List, Option, Some, None, refl, sym, ap, ◌∙◌, subst, arith}
use Rattle.std.proofs.lemmas.Bool.Decides.{nat_tests}
use Rattle.place_ids.specs.declared.operators.BinOp.{BinOp}
use Rattle.place_ids.specs.declared.operators.BinOp.TheVariants as bin
use Rattle.place_ids.specs.declared.operators.CompareOp.{CompareOp}
use Rattle.place_ids.specs.declared.operators.CompareOp.TheVariants as cmp
use Rattle.place_ids.specs.declared.operators.UnaryOp.{UnaryOp}
use Rattle.place_ids.specs.declared.operators.UnaryOp.TheVariants as un
use Rattle.py_tokens.specs.declared.token.TokenKind.{TokenKind}
use Rattle.py_tokens.specs.declared.token.TokenKind.TheVariants as kind
use Rattle.py_tokens.specs.declared.token.Keyword.{Keyword}
use Rattle.py_tokens.specs.declared.token.Keyword.TheVariants as word
use Rattle.py_tokens.specs.declared.token.Op.{Op}
use Rattle.py_tokens.specs.declared.token.Op.TheVariants as op
use Rattle.py_tree.specs.declared.literal.Literal.{Literal}
use Rattle.py_tree.specs.declared.literal.Literal.TheVariants as lit
use Rattle.py_grammar.specs.Cursor.{Cursor, next, past, Begins, BeginsOp, BeginsWord}
use Rattle.py_grammar.specs.Expressions.{IsComparison, comparison_less, comparison_greater, comparison_less_eq, comparison_greater_eq, comparison_equal, comparison_not_equal}
use Rattle.py_grammar.specs.Operators
use Rattle.py_grammar.specs.Operators.{IsBinary, IsUnary, IsAugmenting}
use Rattle.py_descent.specs.Codes.{op_code, word_code, Mark, symbol, keyword, newline, indent, dedent, end, is, is_in, at}
use Rattle.py_descent.specs.Programs.{said, said_of}
use Rattle.py_descent.specs.Takings.{name_in, str_in, octets_in, number_in, negative_in, constant_in, unary_of, binary_of, compare_of, augment_of, unary_in, binary_in, compare_in, augment_in, of_level}

-- ---- From the token to what is seen

pub at_is : (m : Mark) (c : Cursor) (k : TokenKind) → next c ≡ Some k → at m c ≡ is m k
unfolding at
at_is m c k h = ap (is_in m) h

pub at_nothing : (m : Mark) (c : Cursor) → next c ≡ None → at m c ≡ false
unfolding at
at_nothing m c h = ap (is_in m) h

pub said_is : {B : Type 0} (f : Option TokenKind → Option B) (c : Cursor) (k : TokenKind) → next c ≡ Some k → said f c ≡ f (Some k)
unfolding said
said_is f c k h = ap (said_of f) h

pub said_nothing : {B : Type 0} (f : Option TokenKind → Option B) (c : Cursor) → next c ≡ None → said f c ≡ None
unfolding said
said_nothing f c h = ap (said_of f) h

-- ---- Kinds from their numbers

op_numbered : ℕ → Op
op_numbered n =
    if n == 0 then op.Plus else
    if n == 1 then op.Minus else
    if n == 2 then op.Star else
    if n == 3 then op.DoubleStar else
    if n == 4 then op.Slash else
    if n == 5 then op.DoubleSlash else
    if n == 6 then op.Percent else
    if n == 7 then op.At else
    if n == 8 then op.ShiftLeft else
    if n == 9 then op.ShiftRight else
    if n == 10 then op.Amper else
    if n == 11 then op.Bar else
    if n == 12 then op.Caret else
    if n == 13 then op.Tilde else
    if n == 14 then op.Less else
    if n == 15 then op.Greater else
    if n == 16 then op.LessEq else
    if n == 17 then op.GreaterEq else
    if n == 18 then op.EqEq else
    if n == 19 then op.NotEq else
    if n == 20 then op.LeftParen else
    if n == 21 then op.RightParen else
    if n == 22 then op.LeftSquare else
    if n == 23 then op.RightSquare else
    if n == 24 then op.LeftBrace else
    if n == 25 then op.RightBrace else
    if n == 26 then op.Comma else
    if n == 27 then op.Colon else
    if n == 28 then op.Dot else
    if n == 29 then op.Semi else
    if n == 30 then op.Assign else
    if n == 31 then op.Arrow else
    if n == 32 then op.Walrus else
    if n == 33 then op.Ellipsis else
    if n == 34 then op.PlusAssign else
    if n == 35 then op.MinusAssign else
    if n == 36 then op.StarAssign else
    if n == 37 then op.SlashAssign else
    if n == 38 then op.DoubleSlashAssign else
    if n == 39 then op.PercentAssign else
    if n == 40 then op.AtAssign else
    if n == 41 then op.AmperAssign else
    if n == 42 then op.BarAssign else
    if n == 43 then op.CaretAssign else
    if n == 44 then op.ShiftRightAssign else
    if n == 45 then op.ShiftLeftAssign else
    op.DoubleStarAssign

op_number : (o : Op) → op_numbered (op_code o) ≡ o
unfolding op_numbered
op_number op.Plus = refl
op_number op.Minus = refl
op_number op.Star = refl
op_number op.DoubleStar = refl
op_number op.Slash = refl
op_number op.DoubleSlash = refl
op_number op.Percent = refl
op_number op.At = refl
op_number op.ShiftLeft = refl
op_number op.ShiftRight = refl
op_number op.Amper = refl
op_number op.Bar = refl
op_number op.Caret = refl
op_number op.Tilde = refl
op_number op.Less = refl
op_number op.Greater = refl
op_number op.LessEq = refl
op_number op.GreaterEq = refl
op_number op.EqEq = refl
op_number op.NotEq = refl
op_number op.LeftParen = refl
op_number op.RightParen = refl
op_number op.LeftSquare = refl
op_number op.RightSquare = refl
op_number op.LeftBrace = refl
op_number op.RightBrace = refl
op_number op.Comma = refl
op_number op.Colon = refl
op_number op.Dot = refl
op_number op.Semi = refl
op_number op.Assign = refl
op_number op.Arrow = refl
op_number op.Walrus = refl
op_number op.Ellipsis = refl
op_number op.PlusAssign = refl
op_number op.MinusAssign = refl
op_number op.StarAssign = refl
op_number op.SlashAssign = refl
op_number op.DoubleSlashAssign = refl
op_number op.PercentAssign = refl
op_number op.AtAssign = refl
op_number op.AmperAssign = refl
op_number op.BarAssign = refl
op_number op.CaretAssign = refl
op_number op.ShiftRightAssign = refl
op_number op.ShiftLeftAssign = refl
op_number op.DoubleStarAssign = refl

word_numbered : ℕ → Keyword
word_numbered n =
    if n == 0 then word.KwFalse else
    if n == 1 then word.KwNone else
    if n == 2 then word.KwTrue else
    if n == 3 then word.KwAnd else
    if n == 4 then word.KwAs else
    if n == 5 then word.KwAssert else
    if n == 6 then word.KwAsync else
    if n == 7 then word.KwAwait else
    if n == 8 then word.KwBreak else
    if n == 9 then word.KwClass else
    if n == 10 then word.KwContinue else
    if n == 11 then word.KwDef else
    if n == 12 then word.KwDel else
    if n == 13 then word.KwElif else
    if n == 14 then word.KwElse else
    if n == 15 then word.KwExcept else
    if n == 16 then word.KwFinally else
    if n == 17 then word.KwFor else
    if n == 18 then word.KwFrom else
    if n == 19 then word.KwGlobal else
    if n == 20 then word.KwIf else
    if n == 21 then word.KwImport else
    if n == 22 then word.KwIn else
    if n == 23 then word.KwIs else
    if n == 24 then word.KwLambda else
    if n == 25 then word.KwNonlocal else
    if n == 26 then word.KwNot else
    if n == 27 then word.KwOr else
    if n == 28 then word.KwPass else
    if n == 29 then word.KwRaise else
    if n == 30 then word.KwReturn else
    if n == 31 then word.KwTry else
    if n == 32 then word.KwWhile else
    if n == 33 then word.KwWith else
    word.KwYield

word_number : (w : Keyword) → word_numbered (word_code w) ≡ w
unfolding word_numbered
word_number word.KwFalse = refl
word_number word.KwNone = refl
word_number word.KwTrue = refl
word_number word.KwAnd = refl
word_number word.KwAs = refl
word_number word.KwAssert = refl
word_number word.KwAsync = refl
word_number word.KwAwait = refl
word_number word.KwBreak = refl
word_number word.KwClass = refl
word_number word.KwContinue = refl
word_number word.KwDef = refl
word_number word.KwDel = refl
word_number word.KwElif = refl
word_number word.KwElse = refl
word_number word.KwExcept = refl
word_number word.KwFinally = refl
word_number word.KwFor = refl
word_number word.KwFrom = refl
word_number word.KwGlobal = refl
word_number word.KwIf = refl
word_number word.KwImport = refl
word_number word.KwIn = refl
word_number word.KwIs = refl
word_number word.KwLambda = refl
word_number word.KwNonlocal = refl
word_number word.KwNot = refl
word_number word.KwOr = refl
word_number word.KwPass = refl
word_number word.KwRaise = refl
word_number word.KwReturn = refl
word_number word.KwTry = refl
word_number word.KwWhile = refl
word_number word.KwWith = refl
word_number word.KwYield = refl

same_op : (o p : Op) → (op_code p == op_code o) ≡ true → p ≡ o
same_op o p h = let same : op_code p ≡ op_code o = grind (arith, nat_tests, h) in sym (op_number p) ∙ ap op_numbered same ∙ op_number o

same_word : (v w : Keyword) → (word_code w == word_code v) ≡ true → w ≡ v
same_word v w h = let same : word_code w ≡ word_code v = grind (arith, nat_tests, h) in sym (word_number w) ∙ ap word_numbered same ∙ word_number v

-- ---- From what is seen to the token

is_symbol : (o : Op) (k : Option TokenKind) → is_in (symbol o) k ≡ true → k ≡ Some (kind.Op o)
is_symbol o None h = absurd cc
is_symbol o (Some (kind.Name n)) h = absurd cc
is_symbol o (Some (kind.Keyword w)) h = absurd cc
is_symbol o (Some (kind.Int n)) h = absurd cc
is_symbol o (Some kind.Float) h = absurd cc
is_symbol o (Some kind.Imaginary) h = absurd cc
is_symbol o (Some (kind.Str e)) h = absurd cc
is_symbol o (Some (kind.Bytes e)) h = absurd cc
is_symbol o (Some (kind.Op p)) h = ap (λ z. Some (kind.Op z)) (same_op o p h)
is_symbol o (Some kind.Newline) h = absurd cc
is_symbol o (Some kind.Indent) h = absurd cc
is_symbol o (Some kind.Dedent) h = absurd cc
is_symbol o (Some kind.End) h = absurd cc

is_keyword : (v : Keyword) (k : Option TokenKind) → is_in (keyword v) k ≡ true → k ≡ Some (kind.Keyword v)
is_keyword v None h = absurd cc
is_keyword v (Some (kind.Name n)) h = absurd cc
is_keyword v (Some (kind.Keyword w)) h = ap (λ z. Some (kind.Keyword z)) (same_word v w h)
is_keyword v (Some (kind.Int n)) h = absurd cc
is_keyword v (Some kind.Float) h = absurd cc
is_keyword v (Some kind.Imaginary) h = absurd cc
is_keyword v (Some (kind.Str e)) h = absurd cc
is_keyword v (Some (kind.Bytes e)) h = absurd cc
is_keyword v (Some (kind.Op p)) h = absurd cc
is_keyword v (Some kind.Newline) h = absurd cc
is_keyword v (Some kind.Indent) h = absurd cc
is_keyword v (Some kind.Dedent) h = absurd cc
is_keyword v (Some kind.End) h = absurd cc

is_newline : (k : Option TokenKind) → is_in newline k ≡ true → k ≡ Some kind.Newline
is_newline None h = absurd cc
is_newline (Some (kind.Name n)) h = absurd cc
is_newline (Some (kind.Keyword w)) h = absurd cc
is_newline (Some (kind.Int n)) h = absurd cc
is_newline (Some kind.Float) h = absurd cc
is_newline (Some kind.Imaginary) h = absurd cc
is_newline (Some (kind.Str e)) h = absurd cc
is_newline (Some (kind.Bytes e)) h = absurd cc
is_newline (Some (kind.Op p)) h = absurd cc
is_newline (Some kind.Newline) h = refl
is_newline (Some kind.Indent) h = absurd cc
is_newline (Some kind.Dedent) h = absurd cc
is_newline (Some kind.End) h = absurd cc

is_indent : (k : Option TokenKind) → is_in indent k ≡ true → k ≡ Some kind.Indent
is_indent None h = absurd cc
is_indent (Some (kind.Name n)) h = absurd cc
is_indent (Some (kind.Keyword w)) h = absurd cc
is_indent (Some (kind.Int n)) h = absurd cc
is_indent (Some kind.Float) h = absurd cc
is_indent (Some kind.Imaginary) h = absurd cc
is_indent (Some (kind.Str e)) h = absurd cc
is_indent (Some (kind.Bytes e)) h = absurd cc
is_indent (Some (kind.Op p)) h = absurd cc
is_indent (Some kind.Newline) h = absurd cc
is_indent (Some kind.Indent) h = refl
is_indent (Some kind.Dedent) h = absurd cc
is_indent (Some kind.End) h = absurd cc

is_dedent : (k : Option TokenKind) → is_in dedent k ≡ true → k ≡ Some kind.Dedent
is_dedent None h = absurd cc
is_dedent (Some (kind.Name n)) h = absurd cc
is_dedent (Some (kind.Keyword w)) h = absurd cc
is_dedent (Some (kind.Int n)) h = absurd cc
is_dedent (Some kind.Float) h = absurd cc
is_dedent (Some kind.Imaginary) h = absurd cc
is_dedent (Some (kind.Str e)) h = absurd cc
is_dedent (Some (kind.Bytes e)) h = absurd cc
is_dedent (Some (kind.Op p)) h = absurd cc
is_dedent (Some kind.Newline) h = absurd cc
is_dedent (Some kind.Indent) h = absurd cc
is_dedent (Some kind.Dedent) h = refl
is_dedent (Some kind.End) h = absurd cc

is_end : (k : Option TokenKind) → is_in end k ≡ true → k ≡ Some kind.End
is_end None h = absurd cc
is_end (Some (kind.Name n)) h = absurd cc
is_end (Some (kind.Keyword w)) h = absurd cc
is_end (Some (kind.Int n)) h = absurd cc
is_end (Some kind.Float) h = absurd cc
is_end (Some kind.Imaginary) h = absurd cc
is_end (Some (kind.Str e)) h = absurd cc
is_end (Some (kind.Bytes e)) h = absurd cc
is_end (Some (kind.Op p)) h = absurd cc
is_end (Some kind.Newline) h = absurd cc
is_end (Some kind.Indent) h = absurd cc
is_end (Some kind.Dedent) h = absurd cc
is_end (Some kind.End) h = refl

pub at_symbol : (o : Op) (c : Cursor) → at (symbol o) c ≡ true → BeginsOp o c
unfolding at
at_symbol o c h = is_symbol o (next c) h

pub at_keyword : (o : Keyword) (c : Cursor) → at (keyword o) c ≡ true → BeginsWord o c
unfolding at
at_keyword o c h = is_keyword o (next c) h

pub at_newline : (c : Cursor) → at newline c ≡ true → Begins kind.Newline c
unfolding at
at_newline c h = is_newline (next c) h

pub at_indent : (c : Cursor) → at indent c ≡ true → Begins kind.Indent c
unfolding at
at_indent c h = is_indent (next c) h

pub at_dedent : (c : Cursor) → at dedent c ≡ true → Begins kind.Dedent c
unfolding at
at_dedent c h = is_dedent (next c) h

pub at_end : (c : Cursor) → at end c ≡ true → Begins kind.End c
unfolding at
at_end c h = is_end (next c) h

name_of_kind : (m : ℕ) (k : Option TokenKind) → name_in k ≡ Some m → k ≡ Some (kind.Name m)
name_of_kind m None h = absurd cc
name_of_kind m (Some (kind.Name n)) h = cc
name_of_kind m (Some (kind.Keyword w)) h = absurd cc
name_of_kind m (Some (kind.Int n)) h = absurd cc
name_of_kind m (Some kind.Float) h = absurd cc
name_of_kind m (Some kind.Imaginary) h = absurd cc
name_of_kind m (Some (kind.Str e)) h = absurd cc
name_of_kind m (Some (kind.Bytes e)) h = absurd cc
name_of_kind m (Some (kind.Op p)) h = absurd cc
name_of_kind m (Some kind.Newline) h = absurd cc
name_of_kind m (Some kind.Indent) h = absurd cc
name_of_kind m (Some kind.Dedent) h = absurd cc
name_of_kind m (Some kind.End) h = absurd cc

str_of_kind : (b : Bool) (k : Option TokenKind) → str_in k ≡ Some b → k ≡ Some (kind.Str b)
str_of_kind b None h = absurd cc
str_of_kind b (Some (kind.Name n)) h = absurd cc
str_of_kind b (Some (kind.Keyword w)) h = absurd cc
str_of_kind b (Some (kind.Int n)) h = absurd cc
str_of_kind b (Some kind.Float) h = absurd cc
str_of_kind b (Some kind.Imaginary) h = absurd cc
str_of_kind b (Some (kind.Str e)) h = cc
str_of_kind b (Some (kind.Bytes e)) h = absurd cc
str_of_kind b (Some (kind.Op p)) h = absurd cc
str_of_kind b (Some kind.Newline) h = absurd cc
str_of_kind b (Some kind.Indent) h = absurd cc
str_of_kind b (Some kind.Dedent) h = absurd cc
str_of_kind b (Some kind.End) h = absurd cc

octets_of_kind : (b : Bool) (k : Option TokenKind) → octets_in k ≡ Some b → k ≡ Some (kind.Bytes b)
octets_of_kind b None h = absurd cc
octets_of_kind b (Some (kind.Name n)) h = absurd cc
octets_of_kind b (Some (kind.Keyword w)) h = absurd cc
octets_of_kind b (Some (kind.Int n)) h = absurd cc
octets_of_kind b (Some kind.Float) h = absurd cc
octets_of_kind b (Some kind.Imaginary) h = absurd cc
octets_of_kind b (Some (kind.Str e)) h = absurd cc
octets_of_kind b (Some (kind.Bytes e)) h = cc
octets_of_kind b (Some (kind.Op p)) h = absurd cc
octets_of_kind b (Some kind.Newline) h = absurd cc
octets_of_kind b (Some kind.Indent) h = absurd cc
octets_of_kind b (Some kind.Dedent) h = absurd cc
octets_of_kind b (Some kind.End) h = absurd cc

-- what is said is said of the next token
pub said_next : {B : Type 0} (f : Option TokenKind → Option B) (x : B) (c : Cursor) → said f c ≡ Some x → f (next c) ≡ Some x
unfolding said
said_next f x c h = by_token (next c) h where
  by_token : (k : Option TokenKind) → said_of f k ≡ Some x → f k ≡ Some x
  by_token None e = absurd cc
  by_token (Some k) e = e

pub said_name : (n : ℕ) (c : Cursor) → said name_in c ≡ Some n → Begins (kind.Name n) c
said_name n c h = name_of_kind n (next c) (said_next name_in n c h)

pub said_str : (b : Bool) (c : Cursor) → said str_in c ≡ Some b → Begins (kind.Str b) c
said_str b c h = str_of_kind b (next c) (said_next str_in b c h)

pub said_octets : (b : Bool) (c : Cursor) → said octets_in c ≡ Some b → Begins (kind.Bytes b) c
said_octets b c h = octets_of_kind b (next c) (said_next octets_in b c h)

-- the token is this kind of a number
pub data SaysNumber (minus : Bool) (l : Literal) (c : Cursor) : Type 0 where
  says_int : (n : ℕ) → Begins (kind.Int n) c → l ≡ lit.Int minus n → SaysNumber minus l c
  says_float : Begins kind.Float c → l ≡ lit.Float → SaysNumber minus l c

number_says : (l : Literal) (c : Cursor) (k : Option TokenKind) → next c ≡ k → number_in k ≡ Some l → SaysNumber false l c
number_says l c None e h = absurd cc
number_says l c (Some (kind.Name n)) e h = absurd cc
number_says l c (Some (kind.Keyword w)) e h = absurd cc
number_says l c (Some (kind.Int n)) e h = says_int n e cc
number_says l c (Some kind.Float) e h = says_float e cc
number_says l c (Some kind.Imaginary) e h = absurd cc
number_says l c (Some (kind.Str b)) e h = absurd cc
number_says l c (Some (kind.Bytes b)) e h = absurd cc
number_says l c (Some (kind.Op p)) e h = absurd cc
number_says l c (Some kind.Newline) e h = absurd cc
number_says l c (Some kind.Indent) e h = absurd cc
number_says l c (Some kind.Dedent) e h = absurd cc
number_says l c (Some kind.End) e h = absurd cc

pub said_number : (l : Literal) (c : Cursor) → said number_in c ≡ Some l → SaysNumber false l c
said_number l c h = number_says l c (next c) refl (said_next number_in l c h)

negative_says : (l : Literal) (c : Cursor) (k : Option TokenKind) → next c ≡ k → negative_in k ≡ Some l → SaysNumber true l c
negative_says l c None e h = absurd cc
negative_says l c (Some (kind.Name n)) e h = absurd cc
negative_says l c (Some (kind.Keyword w)) e h = absurd cc
negative_says l c (Some (kind.Int n)) e h = says_int n e cc
negative_says l c (Some kind.Float) e h = says_float e cc
negative_says l c (Some kind.Imaginary) e h = absurd cc
negative_says l c (Some (kind.Str b)) e h = absurd cc
negative_says l c (Some (kind.Bytes b)) e h = absurd cc
negative_says l c (Some (kind.Op p)) e h = absurd cc
negative_says l c (Some kind.Newline) e h = absurd cc
negative_says l c (Some kind.Indent) e h = absurd cc
negative_says l c (Some kind.Dedent) e h = absurd cc
negative_says l c (Some kind.End) e h = absurd cc

pub said_negative : (l : Literal) (c : Cursor) → said negative_in c ≡ Some l → SaysNumber true l c
said_negative l c h = negative_says l c (next c) refl (said_next negative_in l c h)

-- the token is this constant
pub data SaysConstant (l : Literal) (c : Cursor) : Type 0 where
  says_none : BeginsWord word.KwNone c → l ≡ lit.NoneValue → SaysConstant l c
  says_true : BeginsWord word.KwTrue c → l ≡ lit.TrueValue → SaysConstant l c
  says_false : BeginsWord word.KwFalse c → l ≡ lit.FalseValue → SaysConstant l c

word_says : (l : Literal) (c : Cursor) (w : Keyword) → next c ≡ Some (kind.Keyword w) → constant_in (Some (kind.Keyword w)) ≡ Some l → SaysConstant l c
word_says l c word.KwFalse e h = says_false e cc
word_says l c word.KwNone e h = says_none e cc
word_says l c word.KwTrue e h = says_true e cc
word_says l c word.KwAnd e h = absurd cc
word_says l c word.KwAs e h = absurd cc
word_says l c word.KwAssert e h = absurd cc
word_says l c word.KwAsync e h = absurd cc
word_says l c word.KwAwait e h = absurd cc
word_says l c word.KwBreak e h = absurd cc
word_says l c word.KwClass e h = absurd cc
word_says l c word.KwContinue e h = absurd cc
word_says l c word.KwDef e h = absurd cc
word_says l c word.KwDel e h = absurd cc
word_says l c word.KwElif e h = absurd cc
word_says l c word.KwElse e h = absurd cc
word_says l c word.KwExcept e h = absurd cc
word_says l c word.KwFinally e h = absurd cc
word_says l c word.KwFor e h = absurd cc
word_says l c word.KwFrom e h = absurd cc
word_says l c word.KwGlobal e h = absurd cc
word_says l c word.KwIf e h = absurd cc
word_says l c word.KwImport e h = absurd cc
word_says l c word.KwIn e h = absurd cc
word_says l c word.KwIs e h = absurd cc
word_says l c word.KwLambda e h = absurd cc
word_says l c word.KwNonlocal e h = absurd cc
word_says l c word.KwNot e h = absurd cc
word_says l c word.KwOr e h = absurd cc
word_says l c word.KwPass e h = absurd cc
word_says l c word.KwRaise e h = absurd cc
word_says l c word.KwReturn e h = absurd cc
word_says l c word.KwTry e h = absurd cc
word_says l c word.KwWhile e h = absurd cc
word_says l c word.KwWith e h = absurd cc
word_says l c word.KwYield e h = absurd cc

constant_says : (l : Literal) (c : Cursor) (k : Option TokenKind) → next c ≡ k → constant_in k ≡ Some l → SaysConstant l c
constant_says l c None e h = absurd cc
constant_says l c (Some (kind.Name n)) e h = absurd cc
constant_says l c (Some (kind.Keyword w)) e h = word_says l c w e h
constant_says l c (Some (kind.Int n)) e h = absurd cc
constant_says l c (Some kind.Float) e h = absurd cc
constant_says l c (Some kind.Imaginary) e h = absurd cc
constant_says l c (Some (kind.Str b)) e h = absurd cc
constant_says l c (Some (kind.Bytes b)) e h = absurd cc
constant_says l c (Some (kind.Op p)) e h = absurd cc
constant_says l c (Some kind.Newline) e h = absurd cc
constant_says l c (Some kind.Indent) e h = absurd cc
constant_says l c (Some kind.Dedent) e h = absurd cc
constant_says l c (Some kind.End) e h = absurd cc

pub said_constant : (l : Literal) (c : Cursor) → said constant_in c ≡ Some l → SaysConstant l c
said_constant l c h = constant_says l c (next c) refl (said_next constant_in l c h)

unary_row : (u : UnaryOp) (o : Op) → unary_of o ≡ Some u → IsUnary o u
unary_row u op.Plus h = let same : un.Plus ≡ u = cc in subst (IsUnary op.Plus) same Operators.unary_plus
unary_row u op.Minus h = let same : un.Minus ≡ u = cc in subst (IsUnary op.Minus) same Operators.unary_minus
unary_row u op.Star h = absurd cc
unary_row u op.DoubleStar h = absurd cc
unary_row u op.Slash h = absurd cc
unary_row u op.DoubleSlash h = absurd cc
unary_row u op.Percent h = absurd cc
unary_row u op.At h = absurd cc
unary_row u op.ShiftLeft h = absurd cc
unary_row u op.ShiftRight h = absurd cc
unary_row u op.Amper h = absurd cc
unary_row u op.Bar h = absurd cc
unary_row u op.Caret h = absurd cc
unary_row u op.Tilde h = let same : un.Invert ≡ u = cc in subst (IsUnary op.Tilde) same Operators.unary_invert
unary_row u op.Less h = absurd cc
unary_row u op.Greater h = absurd cc
unary_row u op.LessEq h = absurd cc
unary_row u op.GreaterEq h = absurd cc
unary_row u op.EqEq h = absurd cc
unary_row u op.NotEq h = absurd cc
unary_row u op.LeftParen h = absurd cc
unary_row u op.RightParen h = absurd cc
unary_row u op.LeftSquare h = absurd cc
unary_row u op.RightSquare h = absurd cc
unary_row u op.LeftBrace h = absurd cc
unary_row u op.RightBrace h = absurd cc
unary_row u op.Comma h = absurd cc
unary_row u op.Colon h = absurd cc
unary_row u op.Dot h = absurd cc
unary_row u op.Semi h = absurd cc
unary_row u op.Assign h = absurd cc
unary_row u op.Arrow h = absurd cc
unary_row u op.Walrus h = absurd cc
unary_row u op.Ellipsis h = absurd cc
unary_row u op.PlusAssign h = absurd cc
unary_row u op.MinusAssign h = absurd cc
unary_row u op.StarAssign h = absurd cc
unary_row u op.SlashAssign h = absurd cc
unary_row u op.DoubleSlashAssign h = absurd cc
unary_row u op.PercentAssign h = absurd cc
unary_row u op.AtAssign h = absurd cc
unary_row u op.AmperAssign h = absurd cc
unary_row u op.BarAssign h = absurd cc
unary_row u op.CaretAssign h = absurd cc
unary_row u op.ShiftRightAssign h = absurd cc
unary_row u op.ShiftLeftAssign h = absurd cc
unary_row u op.DoubleStarAssign h = absurd cc

pub unary_from : (u : UnaryOp) (o : Op) → IsUnary o u → unary_of o ≡ Some u
unary_from _ _ Operators.unary_plus = refl
unary_from _ _ Operators.unary_minus = refl
unary_from _ _ Operators.unary_invert = refl

-- the token is this operator
pub data SaysUnary (u : UnaryOp) (c : Cursor) : Type 0 where
  says_unary : (o : Op) → BeginsOp o c → IsUnary o u → SaysUnary u c

unary_says : (u : UnaryOp) (c : Cursor) (k : Option TokenKind) → next c ≡ k → unary_in k ≡ Some u → SaysUnary u c
unary_says u c None e h = absurd cc
unary_says u c (Some (kind.Name n)) e h = absurd cc
unary_says u c (Some (kind.Keyword w)) e h = absurd cc
unary_says u c (Some (kind.Int n)) e h = absurd cc
unary_says u c (Some kind.Float) e h = absurd cc
unary_says u c (Some kind.Imaginary) e h = absurd cc
unary_says u c (Some (kind.Str b)) e h = absurd cc
unary_says u c (Some (kind.Bytes b)) e h = absurd cc
unary_says u c (Some (kind.Op p)) e h = says_unary p e (unary_row u p h)
unary_says u c (Some kind.Newline) e h = absurd cc
unary_says u c (Some kind.Indent) e h = absurd cc
unary_says u c (Some kind.Dedent) e h = absurd cc
unary_says u c (Some kind.End) e h = absurd cc

pub said_unary : (u : UnaryOp) (c : Cursor) → said unary_in c ≡ Some u → SaysUnary u c
said_unary u c h = unary_says u c (next c) refl (said_next unary_in u c h)

augment_row : (u : BinOp) (o : Op) → augment_of o ≡ Some u → IsAugmenting o u
augment_row u op.Plus h = absurd cc
augment_row u op.Minus h = absurd cc
augment_row u op.Star h = absurd cc
augment_row u op.DoubleStar h = absurd cc
augment_row u op.Slash h = absurd cc
augment_row u op.DoubleSlash h = absurd cc
augment_row u op.Percent h = absurd cc
augment_row u op.At h = absurd cc
augment_row u op.ShiftLeft h = absurd cc
augment_row u op.ShiftRight h = absurd cc
augment_row u op.Amper h = absurd cc
augment_row u op.Bar h = absurd cc
augment_row u op.Caret h = absurd cc
augment_row u op.Tilde h = absurd cc
augment_row u op.Less h = absurd cc
augment_row u op.Greater h = absurd cc
augment_row u op.LessEq h = absurd cc
augment_row u op.GreaterEq h = absurd cc
augment_row u op.EqEq h = absurd cc
augment_row u op.NotEq h = absurd cc
augment_row u op.LeftParen h = absurd cc
augment_row u op.RightParen h = absurd cc
augment_row u op.LeftSquare h = absurd cc
augment_row u op.RightSquare h = absurd cc
augment_row u op.LeftBrace h = absurd cc
augment_row u op.RightBrace h = absurd cc
augment_row u op.Comma h = absurd cc
augment_row u op.Colon h = absurd cc
augment_row u op.Dot h = absurd cc
augment_row u op.Semi h = absurd cc
augment_row u op.Assign h = absurd cc
augment_row u op.Arrow h = absurd cc
augment_row u op.Walrus h = absurd cc
augment_row u op.Ellipsis h = absurd cc
augment_row u op.PlusAssign h = let same : bin.Add ≡ u = cc in subst (IsAugmenting op.PlusAssign) same Operators.augmenting_add
augment_row u op.MinusAssign h = let same : bin.Sub ≡ u = cc in subst (IsAugmenting op.MinusAssign) same Operators.augmenting_sub
augment_row u op.StarAssign h = let same : bin.Mul ≡ u = cc in subst (IsAugmenting op.StarAssign) same Operators.augmenting_mul
augment_row u op.SlashAssign h = let same : bin.Div ≡ u = cc in subst (IsAugmenting op.SlashAssign) same Operators.augmenting_div
augment_row u op.DoubleSlashAssign h = let same : bin.FloorDiv ≡ u = cc in subst (IsAugmenting op.DoubleSlashAssign) same Operators.augmenting_floor_div
augment_row u op.PercentAssign h = let same : bin.Mod ≡ u = cc in subst (IsAugmenting op.PercentAssign) same Operators.augmenting_mod
augment_row u op.AtAssign h = let same : bin.MatMul ≡ u = cc in subst (IsAugmenting op.AtAssign) same Operators.augmenting_mat_mul
augment_row u op.AmperAssign h = let same : bin.BitAnd ≡ u = cc in subst (IsAugmenting op.AmperAssign) same Operators.augmenting_and
augment_row u op.BarAssign h = let same : bin.BitOr ≡ u = cc in subst (IsAugmenting op.BarAssign) same Operators.augmenting_or
augment_row u op.CaretAssign h = let same : bin.BitXor ≡ u = cc in subst (IsAugmenting op.CaretAssign) same Operators.augmenting_xor
augment_row u op.ShiftRightAssign h = let same : bin.ShiftRight ≡ u = cc in subst (IsAugmenting op.ShiftRightAssign) same Operators.augmenting_shift_right
augment_row u op.ShiftLeftAssign h = let same : bin.ShiftLeft ≡ u = cc in subst (IsAugmenting op.ShiftLeftAssign) same Operators.augmenting_shift_left
augment_row u op.DoubleStarAssign h = let same : bin.Pow ≡ u = cc in subst (IsAugmenting op.DoubleStarAssign) same Operators.augmenting_pow

pub augment_from : (u : BinOp) (o : Op) → IsAugmenting o u → augment_of o ≡ Some u
augment_from _ _ Operators.augmenting_add = refl
augment_from _ _ Operators.augmenting_sub = refl
augment_from _ _ Operators.augmenting_mul = refl
augment_from _ _ Operators.augmenting_div = refl
augment_from _ _ Operators.augmenting_floor_div = refl
augment_from _ _ Operators.augmenting_mod = refl
augment_from _ _ Operators.augmenting_mat_mul = refl
augment_from _ _ Operators.augmenting_and = refl
augment_from _ _ Operators.augmenting_or = refl
augment_from _ _ Operators.augmenting_xor = refl
augment_from _ _ Operators.augmenting_shift_right = refl
augment_from _ _ Operators.augmenting_shift_left = refl
augment_from _ _ Operators.augmenting_pow = refl

-- the token is this operator
pub data SaysAugmenting (u : BinOp) (c : Cursor) : Type 0 where
  says_augment : (o : Op) → BeginsOp o c → IsAugmenting o u → SaysAugmenting u c

augment_says : (u : BinOp) (c : Cursor) (k : Option TokenKind) → next c ≡ k → augment_in k ≡ Some u → SaysAugmenting u c
augment_says u c None e h = absurd cc
augment_says u c (Some (kind.Name n)) e h = absurd cc
augment_says u c (Some (kind.Keyword w)) e h = absurd cc
augment_says u c (Some (kind.Int n)) e h = absurd cc
augment_says u c (Some kind.Float) e h = absurd cc
augment_says u c (Some kind.Imaginary) e h = absurd cc
augment_says u c (Some (kind.Str b)) e h = absurd cc
augment_says u c (Some (kind.Bytes b)) e h = absurd cc
augment_says u c (Some (kind.Op p)) e h = says_augment p e (augment_row u p h)
augment_says u c (Some kind.Newline) e h = absurd cc
augment_says u c (Some kind.Indent) e h = absurd cc
augment_says u c (Some kind.Dedent) e h = absurd cc
augment_says u c (Some kind.End) e h = absurd cc

pub said_augment : (u : BinOp) (c : Cursor) → said augment_in c ≡ Some u → SaysAugmenting u c
said_augment u c h = augment_says u c (next c) refl (said_next augment_in u c h)

-- the token is this binary operator, of this level or a tighter one
pub data SaysBinary (least : ℕ) (row : ℕ × BinOp) (c : Cursor) : Type 0 where
  says_binary : (o : Op) → BeginsOp o c → IsBinary o row.0 row.1 → least ≤ row.0 → SaysBinary least row c

level_is : (least : ℕ) (q : Option (ℕ × BinOp)) (row : ℕ × BinOp) → of_level least q ≡ Some row → (q ≡ Some row) × (least ≤ row.0)
level_is least None row h = absurd cc
level_is least (Some r) row h = by_test (nat_lt r.0 least) refl h where
  by_test : (z : Bool) → nat_lt r.0 least ≡ z → (if z then None else Some r) ≡ Some row → (Some r ≡ Some row) × (least ≤ row.0)
  by_test true e g = absurd cc
  by_test false e g = let same : r ≡ row = cc in let le : least ≤ r.0 = grind (arith, nat_tests, e) in (g, subst (λ z. least ≤ z.0) same le)

binary_row : (o : Op) (row : ℕ × BinOp) → binary_of o ≡ Some row → IsBinary o row.0 row.1
binary_row op.Plus row h = let same : (4, bin.Add) ≡ row = cc in subst (λ (z : ℕ × BinOp). IsBinary op.Plus z.0 z.1) same Operators.binary_add
binary_row op.Minus row h = let same : (4, bin.Sub) ≡ row = cc in subst (λ (z : ℕ × BinOp). IsBinary op.Minus z.0 z.1) same Operators.binary_sub
binary_row op.Star row h = let same : (5, bin.Mul) ≡ row = cc in subst (λ (z : ℕ × BinOp). IsBinary op.Star z.0 z.1) same Operators.binary_mul
binary_row op.DoubleStar row h = absurd cc
binary_row op.Slash row h = let same : (5, bin.Div) ≡ row = cc in subst (λ (z : ℕ × BinOp). IsBinary op.Slash z.0 z.1) same Operators.binary_div
binary_row op.DoubleSlash row h = let same : (5, bin.FloorDiv) ≡ row = cc in subst (λ (z : ℕ × BinOp). IsBinary op.DoubleSlash z.0 z.1) same Operators.binary_floor_div
binary_row op.Percent row h = let same : (5, bin.Mod) ≡ row = cc in subst (λ (z : ℕ × BinOp). IsBinary op.Percent z.0 z.1) same Operators.binary_mod
binary_row op.At row h = let same : (5, bin.MatMul) ≡ row = cc in subst (λ (z : ℕ × BinOp). IsBinary op.At z.0 z.1) same Operators.binary_mat_mul
binary_row op.ShiftLeft row h = let same : (3, bin.ShiftLeft) ≡ row = cc in subst (λ (z : ℕ × BinOp). IsBinary op.ShiftLeft z.0 z.1) same Operators.binary_shift_left
binary_row op.ShiftRight row h = let same : (3, bin.ShiftRight) ≡ row = cc in subst (λ (z : ℕ × BinOp). IsBinary op.ShiftRight z.0 z.1) same Operators.binary_shift_right
binary_row op.Amper row h = let same : (2, bin.BitAnd) ≡ row = cc in subst (λ (z : ℕ × BinOp). IsBinary op.Amper z.0 z.1) same Operators.binary_and
binary_row op.Bar row h = let same : (0, bin.BitOr) ≡ row = cc in subst (λ (z : ℕ × BinOp). IsBinary op.Bar z.0 z.1) same Operators.binary_or
binary_row op.Caret row h = let same : (1, bin.BitXor) ≡ row = cc in subst (λ (z : ℕ × BinOp). IsBinary op.Caret z.0 z.1) same Operators.binary_xor
binary_row op.Tilde row h = absurd cc
binary_row op.Less row h = absurd cc
binary_row op.Greater row h = absurd cc
binary_row op.LessEq row h = absurd cc
binary_row op.GreaterEq row h = absurd cc
binary_row op.EqEq row h = absurd cc
binary_row op.NotEq row h = absurd cc
binary_row op.LeftParen row h = absurd cc
binary_row op.RightParen row h = absurd cc
binary_row op.LeftSquare row h = absurd cc
binary_row op.RightSquare row h = absurd cc
binary_row op.LeftBrace row h = absurd cc
binary_row op.RightBrace row h = absurd cc
binary_row op.Comma row h = absurd cc
binary_row op.Colon row h = absurd cc
binary_row op.Dot row h = absurd cc
binary_row op.Semi row h = absurd cc
binary_row op.Assign row h = absurd cc
binary_row op.Arrow row h = absurd cc
binary_row op.Walrus row h = absurd cc
binary_row op.Ellipsis row h = absurd cc
binary_row op.PlusAssign row h = absurd cc
binary_row op.MinusAssign row h = absurd cc
binary_row op.StarAssign row h = absurd cc
binary_row op.SlashAssign row h = absurd cc
binary_row op.DoubleSlashAssign row h = absurd cc
binary_row op.PercentAssign row h = absurd cc
binary_row op.AtAssign row h = absurd cc
binary_row op.AmperAssign row h = absurd cc
binary_row op.BarAssign row h = absurd cc
binary_row op.CaretAssign row h = absurd cc
binary_row op.ShiftRightAssign row h = absurd cc
binary_row op.ShiftLeftAssign row h = absurd cc
binary_row op.DoubleStarAssign row h = absurd cc

pub binary_from : (o : Op) (n : ℕ) (u : BinOp) → IsBinary o n u → binary_of o ≡ Some (n, u)
binary_from _ _ _ Operators.binary_or = refl
binary_from _ _ _ Operators.binary_xor = refl
binary_from _ _ _ Operators.binary_and = refl
binary_from _ _ _ Operators.binary_shift_left = refl
binary_from _ _ _ Operators.binary_shift_right = refl
binary_from _ _ _ Operators.binary_add = refl
binary_from _ _ _ Operators.binary_sub = refl
binary_from _ _ _ Operators.binary_mul = refl
binary_from _ _ _ Operators.binary_div = refl
binary_from _ _ _ Operators.binary_floor_div = refl
binary_from _ _ _ Operators.binary_mod = refl
binary_from _ _ _ Operators.binary_mat_mul = refl

binary_says : (least : ℕ) (row : ℕ × BinOp) (c : Cursor) (k : Option TokenKind) → next c ≡ k → binary_in least k ≡ Some row → SaysBinary least row c
binary_says least row c None e h = absurd cc
binary_says least row c (Some (kind.Name n)) e h = absurd cc
binary_says least row c (Some (kind.Keyword w)) e h = absurd cc
binary_says least row c (Some (kind.Int n)) e h = absurd cc
binary_says least row c (Some kind.Float) e h = absurd cc
binary_says least row c (Some kind.Imaginary) e h = absurd cc
binary_says least row c (Some (kind.Str b)) e h = absurd cc
binary_says least row c (Some (kind.Bytes b)) e h = absurd cc
binary_says least row c (Some (kind.Op p)) e h = let both = level_is least (binary_of p) row h in says_binary p e (binary_row p row both.0) both.1
binary_says least row c (Some kind.Newline) e h = absurd cc
binary_says least row c (Some kind.Indent) e h = absurd cc
binary_says least row c (Some kind.Dedent) e h = absurd cc
binary_says least row c (Some kind.End) e h = absurd cc

pub said_binary : (least : ℕ) (row : ℕ × BinOp) (c : Cursor) → said (binary_in least) c ≡ Some row → SaysBinary least row c
said_binary least row c h = binary_says least row c (next c) refl (said_next (binary_in least) row c h)

compare_row : (o : Op) (u : CompareOp) (c : Cursor) → BeginsOp o c → compare_of o ≡ Some u → IsComparison c u (past c)
compare_row op.Plus u c e h = absurd cc
compare_row op.Minus u c e h = absurd cc
compare_row op.Star u c e h = absurd cc
compare_row op.DoubleStar u c e h = absurd cc
compare_row op.Slash u c e h = absurd cc
compare_row op.DoubleSlash u c e h = absurd cc
compare_row op.Percent u c e h = absurd cc
compare_row op.At u c e h = absurd cc
compare_row op.ShiftLeft u c e h = absurd cc
compare_row op.ShiftRight u c e h = absurd cc
compare_row op.Amper u c e h = absurd cc
compare_row op.Bar u c e h = absurd cc
compare_row op.Caret u c e h = absurd cc
compare_row op.Tilde u c e h = absurd cc
compare_row op.Less u c e h = let same : cmp.Less ≡ u = cc in subst (λ z. IsComparison c z (past c)) same (comparison_less e)
compare_row op.Greater u c e h = let same : cmp.Greater ≡ u = cc in subst (λ z. IsComparison c z (past c)) same (comparison_greater e)
compare_row op.LessEq u c e h = let same : cmp.LessEq ≡ u = cc in subst (λ z. IsComparison c z (past c)) same (comparison_less_eq e)
compare_row op.GreaterEq u c e h = let same : cmp.GreaterEq ≡ u = cc in subst (λ z. IsComparison c z (past c)) same (comparison_greater_eq e)
compare_row op.EqEq u c e h = let same : cmp.Equal ≡ u = cc in subst (λ z. IsComparison c z (past c)) same (comparison_equal e)
compare_row op.NotEq u c e h = let same : cmp.NotEqual ≡ u = cc in subst (λ z. IsComparison c z (past c)) same (comparison_not_equal e)
compare_row op.LeftParen u c e h = absurd cc
compare_row op.RightParen u c e h = absurd cc
compare_row op.LeftSquare u c e h = absurd cc
compare_row op.RightSquare u c e h = absurd cc
compare_row op.LeftBrace u c e h = absurd cc
compare_row op.RightBrace u c e h = absurd cc
compare_row op.Comma u c e h = absurd cc
compare_row op.Colon u c e h = absurd cc
compare_row op.Dot u c e h = absurd cc
compare_row op.Semi u c e h = absurd cc
compare_row op.Assign u c e h = absurd cc
compare_row op.Arrow u c e h = absurd cc
compare_row op.Walrus u c e h = absurd cc
compare_row op.Ellipsis u c e h = absurd cc
compare_row op.PlusAssign u c e h = absurd cc
compare_row op.MinusAssign u c e h = absurd cc
compare_row op.StarAssign u c e h = absurd cc
compare_row op.SlashAssign u c e h = absurd cc
compare_row op.DoubleSlashAssign u c e h = absurd cc
compare_row op.PercentAssign u c e h = absurd cc
compare_row op.AtAssign u c e h = absurd cc
compare_row op.AmperAssign u c e h = absurd cc
compare_row op.BarAssign u c e h = absurd cc
compare_row op.CaretAssign u c e h = absurd cc
compare_row op.ShiftRightAssign u c e h = absurd cc
compare_row op.ShiftLeftAssign u c e h = absurd cc
compare_row op.DoubleStarAssign u c e h = absurd cc

compare_says : (u : CompareOp) (c : Cursor) (k : Option TokenKind) → next c ≡ k → compare_in k ≡ Some u → IsComparison c u (past c)
compare_says u c None e h = absurd cc
compare_says u c (Some (kind.Name n)) e h = absurd cc
compare_says u c (Some (kind.Keyword w)) e h = absurd cc
compare_says u c (Some (kind.Int n)) e h = absurd cc
compare_says u c (Some kind.Float) e h = absurd cc
compare_says u c (Some kind.Imaginary) e h = absurd cc
compare_says u c (Some (kind.Str b)) e h = absurd cc
compare_says u c (Some (kind.Bytes b)) e h = absurd cc
compare_says u c (Some (kind.Op p)) e h = compare_row p u c e h
compare_says u c (Some kind.Newline) e h = absurd cc
compare_says u c (Some kind.Indent) e h = absurd cc
compare_says u c (Some kind.Dedent) e h = absurd cc
compare_says u c (Some kind.End) e h = absurd cc

pub said_compare : (u : CompareOp) (c : Cursor) → said compare_in c ≡ Some u → IsComparison c u (past c)
said_compare u c h = compare_says u c (next c) refl (said_next compare_in u c h)
