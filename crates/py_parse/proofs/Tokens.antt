-- What the token at a place says of the place.
use Rattle.std.proofs.Common.{◌≡◌, ℕ, zero, suc, ◌+◌, ◌-◌, ◌^◌, ◌<◌, ◌≤◌, ◌==◌, ◌&&◌, ◌⊎◌, inl, inr, min, Bool, true, false, List, [], ◌∷◌, length, take, slice_get, Option, Some, None, IsTrue, refl, sym, ap, ◌∙◌, subst, arith}
use Rattle.std.specs.Option.{is_some}
use Rattle.std.proofs.lemmas.List.{length-take}
use Rattle.std.proofs.lemmas.Option.{slice_get_past}
use Rattle.py_tokens.specs.declared.token.Token.{Token}
use Rattle.py_tokens.specs.declared.token.TokenKind.{TokenKind}
use Rattle.py_tokens.specs.declared.token.TokenKind.TheVariants as kind
use Rattle.py_tokens.specs.declared.token.Keyword.{Keyword}
use Rattle.py_tokens.specs.declared.token.Op.{Op}
use Rattle.py_tokens.specs.declared.token.Op.TheVariants as op
use Rattle.py_tokens.specs.declared.token.Keyword.TheVariants as word
use Rattle.py_tokens.specs.contracts.token.Op as op_type
use Rattle.py_tokens.specs.contracts.token.Keyword as word_type
use denote.Enum.Bare.{sameb}
use denote.Enum.Declared.{tag_of}
use Rattle.py_grammar.specs.Cursor.{Cursor, next, kind_in, past}
use Rattle.py_descent.specs.Bodies.{at_named}
use Rattle.py_descent.specs.Codes.{Mark, symbol, keyword, is_in, at, op_code, word_code}
use Rattle.py_descent.specs.Programs.{said, said_of}
use Rattle.py_descent.specs.Takings.{name_in}
use Rattle.py_parse.specs.Gives.{op_in, word_in}

-- ---- Where something is seen, there is a token

kind_within : (ts : List Token) (p : ℕ) (k : TokenKind) → kind_in (slice_get ts p) ≡ Some k → p < length ts
kind_within [] p k h = absurd cc
kind_within (t ∷ ts) zero k h = omega arith
kind_within (t ∷ ts) (suc p) k h = let less : p < length ts = kind_within ts p k h in omega arith

next_within : (c : Cursor) (o : Option TokenKind) → next c ≡ o → is_some o ≡ true → c.place < length c.tokens
next_within c None e h = absurd cc
next_within c (Some k) e h = kind_within c.tokens c.place k e

is_there : (m : Mark) (o : Option TokenKind) → is_in m o ≡ true → is_some o ≡ true
is_there m None h = absurd cc
is_there m (Some k) h = refl

said_there : {B : Type 0} (f : Option TokenKind → Option B) (o : Option TokenKind) → is_some (said_of f o) ≡ true → is_some o ≡ true
said_there f None h = absurd cc
said_there f (Some k) h = refl

pub at_within : (b : Bool) (m : Mark) (c : Cursor) → b ≡ at m c → IsTrue b → c.place < length c.tokens
unfolding at
at_within b m c e h = next_within c (next c) refl (is_there m (next c) (sym e ∙ h))

pub said_within : {B : Type 0} (b : Bool) (o : Option B) (f : Option TokenKind → Option B) (c : Cursor) → b ≡ is_some o → o ≡ said f c → IsTrue b → c.place < length c.tokens
unfolding said
said_within b o f c e s h = next_within c (next c) refl (said_there f (next c) (ap is_some (sym s) ∙ sym e ∙ h))

-- ---- Places that a parser can hold

pub place_fits : (ts : List Token) (n p : ℕ) (c : Cursor) → take n ts ≡ c.tokens → p ≡ c.place → c.place < length c.tokens → n < 2 ^ 64 → p + 1 < 2 ^ 64
place_fits ts n p c e s less small = omega (arith, length-take n ts, ap length e)

behind_place : (ts : List Token) (n p q : ℕ) → n < 2 ^ 64 → q ≡ min (p + 1) (2 ^ 64 - 1) → (q ≡ p + 1) ⊎ ((length (take n ts) ≤ q) × (length (take n ts) ≤ p + 1))
behind_place ts n p q small e = grind (arith, length-take n ts)

same_behind : (ts : List Token) (p q : ℕ) → (q ≡ p + 1) ⊎ ((length ts ≤ q) × (length ts ≤ p + 1)) → slice_get ts q ≡ slice_get ts (p + 1)
same_behind ts p q (inl e) = ap (slice_get ts) e
same_behind ts p q (inr h) = slice_get_past ts q h.0 ∙ sym (slice_get_past ts (p + 1) h.1)

pub at_behind : (m : Mark) (c : Cursor) (ts : List Token) (n p q : ℕ) → take n ts ≡ c.tokens → p ≡ c.place → n < 2 ^ 64 → q ≡ min (p + 1) (2 ^ 64 - 1) → is_in m (kind_in (slice_get c.tokens q)) ≡ at m (past c)
unfolding at
at_behind m c ts n p q e s small least =
    let same : slice_get (take n ts) q ≡ slice_get (take n ts) (p + 1) = same_behind (take n ts) p q (behind_place ts n p q small least) in
    let there : slice_get c.tokens q ≡ slice_get c.tokens (p + 1) = subst (λ (l : List Token). slice_get l q ≡ slice_get l (p + 1)) e same in
    ap (λ (o : Option Token). is_in m (kind_in o)) (there ∙ ap (λ (i : ℕ). slice_get c.tokens (i + 1)) s)

-- ---- Operators and keywords

op_at : (o p : Op) (k : Option TokenKind) → Some p ≡ said_of op_in k → is_in (symbol o) k ≡ (op_code p == op_code o)
op_at o p None h = absurd cc
op_at o p (Some (kind.Name n)) h = absurd cc
op_at o p (Some (kind.Keyword w)) h = absurd cc
op_at o p (Some (kind.Int n)) h = absurd cc
op_at o p (Some kind.Float) h = absurd cc
op_at o p (Some kind.Imaginary) h = absurd cc
op_at o p (Some (kind.Str e)) h = absurd cc
op_at o p (Some (kind.Bytes e)) h = absurd cc
op_at o p (Some (kind.Op q)) h = (let same : p ≡ q = cc in ap (λ (z : Op). op_code z == op_code o) (sym same))
op_at o p (Some kind.Newline) h = absurd cc
op_at o p (Some kind.Indent) h = absurd cc
op_at o p (Some kind.Dedent) h = absurd cc
op_at o p (Some kind.End) h = absurd cc

no_op_at : (o : Op) (k : Option TokenKind) → None ≡ said_of op_in k → is_in (symbol o) k ≡ false
no_op_at o None h = refl
no_op_at o (Some (kind.Name n)) h = refl
no_op_at o (Some (kind.Keyword w)) h = refl
no_op_at o (Some (kind.Int n)) h = refl
no_op_at o (Some kind.Float) h = refl
no_op_at o (Some kind.Imaginary) h = refl
no_op_at o (Some (kind.Str e)) h = refl
no_op_at o (Some (kind.Bytes e)) h = refl
no_op_at o (Some (kind.Op q)) h = absurd cc
no_op_at o (Some kind.Newline) h = refl
no_op_at o (Some kind.Indent) h = refl
no_op_at o (Some kind.Dedent) h = refl
no_op_at o (Some kind.End) h = refl

word_at : (v u : Keyword) (k : Option TokenKind) → Some u ≡ said_of word_in k → is_in (keyword v) k ≡ (word_code u == word_code v)
word_at v u None h = absurd cc
word_at v u (Some (kind.Name n)) h = absurd cc
word_at v u (Some (kind.Keyword w)) h = (let same : u ≡ w = cc in ap (λ (z : Keyword). word_code z == word_code v) (sym same))
word_at v u (Some (kind.Int n)) h = absurd cc
word_at v u (Some kind.Float) h = absurd cc
word_at v u (Some kind.Imaginary) h = absurd cc
word_at v u (Some (kind.Str e)) h = absurd cc
word_at v u (Some (kind.Bytes e)) h = absurd cc
word_at v u (Some (kind.Op q)) h = absurd cc
word_at v u (Some kind.Newline) h = absurd cc
word_at v u (Some kind.Indent) h = absurd cc
word_at v u (Some kind.Dedent) h = absurd cc
word_at v u (Some kind.End) h = absurd cc

no_word_at : (v : Keyword) (k : Option TokenKind) → None ≡ said_of word_in k → is_in (keyword v) k ≡ false
no_word_at v None h = refl
no_word_at v (Some (kind.Name n)) h = refl
no_word_at v (Some (kind.Keyword w)) h = absurd cc
no_word_at v (Some (kind.Int n)) h = refl
no_word_at v (Some kind.Float) h = refl
no_word_at v (Some kind.Imaginary) h = refl
no_word_at v (Some (kind.Str e)) h = refl
no_word_at v (Some (kind.Bytes e)) h = refl
no_word_at v (Some (kind.Op q)) h = refl
no_word_at v (Some kind.Newline) h = refl
no_word_at v (Some kind.Indent) h = refl
no_word_at v (Some kind.Dedent) h = refl
no_word_at v (Some kind.End) h = refl

pub at_op_is : (o p : Op) (c : Cursor) → Some p ≡ said op_in c → at (symbol o) c ≡ (op_code p == op_code o)
unfolding at said
at_op_is o p c h = op_at o p (next c) h

pub at_no_op : (o : Op) (c : Cursor) → None ≡ said op_in c → at (symbol o) c ≡ false
unfolding at said
at_no_op o c h = no_op_at o (next c) h

pub at_word_is : (v u : Keyword) (c : Cursor) → Some u ≡ said word_in c → at (keyword v) c ≡ (word_code u == word_code v)
unfolding at said
at_word_is v u c h = word_at v u (next c) h

pub at_no_word : (v : Keyword) (c : Cursor) → None ≡ said word_in c → at (keyword v) c ≡ false
unfolding at said
at_no_word v c h = no_word_at v (next c) h

-- ---- Operators and keywords are numbered in their order

op_tag : (a : Op) → tag_of op_type.the_type a ≡ op_code a
op_tag op.Plus = refl
op_tag op.Minus = refl
op_tag op.Star = refl
op_tag op.DoubleStar = refl
op_tag op.Slash = refl
op_tag op.DoubleSlash = refl
op_tag op.Percent = refl
op_tag op.At = refl
op_tag op.ShiftLeft = refl
op_tag op.ShiftRight = refl
op_tag op.Amper = refl
op_tag op.Bar = refl
op_tag op.Caret = refl
op_tag op.Tilde = refl
op_tag op.Less = refl
op_tag op.Greater = refl
op_tag op.LessEq = refl
op_tag op.GreaterEq = refl
op_tag op.EqEq = refl
op_tag op.NotEq = refl
op_tag op.LeftParen = refl
op_tag op.RightParen = refl
op_tag op.LeftSquare = refl
op_tag op.RightSquare = refl
op_tag op.LeftBrace = refl
op_tag op.RightBrace = refl
op_tag op.Comma = refl
op_tag op.Colon = refl
op_tag op.Dot = refl
op_tag op.Semi = refl
op_tag op.Assign = refl
op_tag op.Arrow = refl
op_tag op.Walrus = refl
op_tag op.Ellipsis = refl
op_tag op.PlusAssign = refl
op_tag op.MinusAssign = refl
op_tag op.StarAssign = refl
op_tag op.SlashAssign = refl
op_tag op.DoubleSlashAssign = refl
op_tag op.PercentAssign = refl
op_tag op.AtAssign = refl
op_tag op.AmperAssign = refl
op_tag op.BarAssign = refl
op_tag op.CaretAssign = refl
op_tag op.ShiftRightAssign = refl
op_tag op.ShiftLeftAssign = refl
op_tag op.DoubleStarAssign = refl

pub same_op : (a b : Op) → sameb op_type.the_type a b ≡ (op_code a == op_code b)
same_op a b = ap (λ (n : ℕ). n == tag_of op_type.the_type b) (op_tag a) ∙ ap (λ (n : ℕ). op_code a == n) (op_tag b)

word_tag : (a : Keyword) → tag_of word_type.the_type a ≡ word_code a
word_tag word.KwFalse = refl
word_tag word.KwNone = refl
word_tag word.KwTrue = refl
word_tag word.KwAnd = refl
word_tag word.KwAs = refl
word_tag word.KwAssert = refl
word_tag word.KwAsync = refl
word_tag word.KwAwait = refl
word_tag word.KwBreak = refl
word_tag word.KwClass = refl
word_tag word.KwContinue = refl
word_tag word.KwDef = refl
word_tag word.KwDel = refl
word_tag word.KwElif = refl
word_tag word.KwElse = refl
word_tag word.KwExcept = refl
word_tag word.KwFinally = refl
word_tag word.KwFor = refl
word_tag word.KwFrom = refl
word_tag word.KwGlobal = refl
word_tag word.KwIf = refl
word_tag word.KwImport = refl
word_tag word.KwIn = refl
word_tag word.KwIs = refl
word_tag word.KwLambda = refl
word_tag word.KwNonlocal = refl
word_tag word.KwNot = refl
word_tag word.KwOr = refl
word_tag word.KwPass = refl
word_tag word.KwRaise = refl
word_tag word.KwReturn = refl
word_tag word.KwTry = refl
word_tag word.KwWhile = refl
word_tag word.KwWith = refl
word_tag word.KwYield = refl

pub same_word : (a b : Keyword) → sameb word_type.the_type a b ≡ (word_code a == word_code b)
same_word a b = ap (λ (n : ℕ). n == tag_of word_type.the_type b) (word_tag a) ∙ ap (λ (n : ℕ). word_code a == n) (word_tag b)

-- ---- A name and `=`

name_said : (k : Option TokenKind) → name_in k ≡ said_of name_in k
name_said None = refl
name_said (Some k) = refl

pub at_named_is : (c : Cursor) → at_named c ≡ (is_some (said name_in c) && at (symbol op.Assign) (past c))
unfolding at_named said
at_named_is c = ap (λ (o : Option ℕ). is_some o && at (symbol op.Assign) (past c)) (name_said (next c))
