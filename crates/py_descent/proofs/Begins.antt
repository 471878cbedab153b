-- What an expression begins with.
use Rattle.std.proofs.Common.{◌≡◌, ℕ, suc, ◌+◌, ◌<◌, ◌≤◌, Bool, true, false, Option, Some, None, refl, sym, ap, ◌∙◌, subst, arith}
use Rattle.py_tokens.specs.declared.token.TokenKind.{TokenKind}
use Rattle.py_tokens.specs.declared.token.TokenKind.TheVariants as kind
use Rattle.py_tokens.specs.declared.token.Keyword.{Keyword}
use Rattle.py_tokens.specs.declared.token.Keyword.TheVariants as word
use Rattle.py_tokens.specs.declared.token.Op.{Op}
use Rattle.py_tokens.specs.declared.token.Op.TheVariants as op
use Rattle.place_ids.specs.declared.operators.UnaryOp.{UnaryOp}
use Rattle.py_tree.specs.Tree.{Expr, Exprs}
use Rattle.py_grammar.specs.Cursor.{Cursor, next, past, Begins, BeginsOp, BeginsWord}
use Rattle.py_grammar.specs.Operators.{IsUnary, unary_plus, unary_minus, unary_invert}
use Rattle.py_grammar.specs.Expressions
use Rattle.py_grammar.specs.Expressions.{AreStrs, strs_one, strs_more, AreOctets, octets_one, octets_more, IsTest, test_or, test_choice, IsOr, or_and, or_or, IsAnd, and_not, and_and, IsNot, not_compare, not_not, IsCompare, compare_one, compare_two, IsOperation, operation_factor, operation_next, operation_binary, IsFactor, factor_power, factor_unary, IsPower, power_primary, power_pow, IsPrimary, primary_atom, primary_attr, primary_call, primary_item, primary_slice, IsAtom, atom_name, atom_int, atom_float, atom_strs, atom_octets, atom_none, atom_true, atom_false, atom_unit, atom_group, atom_empty_list, atom_list, atom_dict, atom_super, AreTests, tests_last, tests_comma, tests_more, IsTests, tests_one, tests_single, tests_tuple}
use Rattle.py_descent.specs.Codes.{symbol, keyword, at}
use Rattle.py_descent.specs.Programs.{said}
use Rattle.py_descent.specs.Takings.{unary_in, begins_in, begins_op, begins_test}
use Rattle.py_descent.proofs.Seeing.{at_is, said_is, at_symbol, at_keyword}
use Rattle.py_descent.proofs.Stops.{pull, op_pull, word_pull, Stops}

-- what an atom begins with
abbrev pub opens_op : Op → Bool
opens_op op.LeftParen = true
opens_op op.LeftSquare = true
opens_op op.LeftBrace = true
opens_op _ = false

abbrev pub opens : TokenKind → Bool
opens (kind.Name n) = true
opens (kind.Int n) = true
opens kind.Float = true
opens (kind.Str b) = true
opens (kind.Bytes b) = true
opens (kind.Keyword word.KwNone) = true
opens (kind.Keyword word.KwTrue) = true
opens (kind.Keyword word.KwFalse) = true
opens (kind.Op o) = opens_op o
opens _ = false

-- what an operand begins with: an atom or an operator before it
abbrev pub operand : TokenKind → Bool
operand (kind.Name n) = true
operand (kind.Int n) = true
operand kind.Float = true
operand (kind.Str b) = true
operand (kind.Bytes b) = true
operand (kind.Keyword word.KwNone) = true
operand (kind.Keyword word.KwTrue) = true
operand (kind.Keyword word.KwFalse) = true
operand (kind.Op o) = begins_op o
operand _ = false

-- the next token is of such a kind
pub data First (f : TokenKind → Bool) (c : Cursor) : Type 0 where
  first : (k : TokenKind) → next c ≡ Some k → f k ≡ true → First f c

opens_operand_op : (o : Op) → opens_op o ≡ true → begins_op o ≡ true
opens_operand_op op.Plus h = absurd cc
opens_operand_op op.Minus h = absurd cc
opens_operand_op op.Star h = absurd cc
opens_operand_op op.DoubleStar h = absurd cc
opens_operand_op op.Slash h = absurd cc
opens_operand_op op.DoubleSlash h = absurd cc
opens_operand_op op.Percent h = absurd cc
opens_operand_op op.At h = absurd cc
opens_operand_op op.ShiftLeft h = absurd cc
opens_operand_op op.ShiftRight h = absurd cc
opens_operand_op op.Amper h = absurd cc
opens_operand_op op.Bar h = absurd cc
opens_operand_op op.Caret h = absurd cc
opens_operand_op op.Tilde h = absurd cc
opens_operand_op op.Less h = absurd cc
opens_operand_op op.Greater h = absurd cc
opens_operand_op op.LessEq h = absurd cc
opens_operand_op op.GreaterEq h = absurd cc
opens_operand_op op.EqEq h = absurd cc
opens_operand_op op.NotEq h = absurd cc
opens_operand_op op.LeftParen h = refl
opens_operand_op op.RightParen h = absurd cc
opens_operand_op op.LeftSquare h = refl
opens_operand_op op.RightSquare h = absurd cc
opens_operand_op op.LeftBrace h = refl
opens_operand_op op.RightBrace h = absurd cc
opens_operand_op op.Comma h = absurd cc
opens_operand_op op.Colon h = absurd cc
opens_operand_op op.Dot h = absurd cc
opens_operand_op op.Semi h = absurd cc
opens_operand_op op.Assign h = absurd cc
opens_operand_op op.Arrow h = absurd cc
opens_operand_op op.Walrus h = absurd cc
opens_operand_op op.Ellipsis h = absurd cc
opens_operand_op op.PlusAssign h = absurd cc
opens_operand_op op.MinusAssign h = absurd cc
opens_operand_op op.StarAssign h = absurd cc
opens_operand_op op.SlashAssign h = absurd cc
opens_operand_op op.DoubleSlashAssign h = absurd cc
opens_operand_op op.PercentAssign h = absurd cc
opens_operand_op op.AtAssign h = absurd cc
opens_operand_op op.AmperAssign h = absurd cc
opens_operand_op op.BarAssign h = absurd cc
opens_operand_op op.CaretAssign h = absurd cc
opens_operand_op op.ShiftRightAssign h = absurd cc
opens_operand_op op.ShiftLeftAssign h = absurd cc
opens_operand_op op.DoubleStarAssign h = absurd cc

opens_operand : (k : TokenKind) → opens k ≡ true → operand k ≡ true
opens_operand (kind.Name n) h = refl
opens_operand (kind.Keyword word.KwFalse) h = refl
opens_operand (kind.Keyword word.KwNone) h = refl
opens_operand (kind.Keyword word.KwTrue) h = refl
opens_operand (kind.Keyword word.KwAnd) h = absurd cc
opens_operand (kind.Keyword word.KwAs) h = absurd cc
opens_operand (kind.Keyword word.KwAssert) h = absurd cc
opens_operand (kind.Keyword word.KwAsync) h = absurd cc
opens_operand (kind.Keyword word.KwAwait) h = absurd cc
opens_operand (kind.Keyword word.KwBreak) h = absurd cc
opens_operand (kind.Keyword word.KwClass) h = absurd cc
opens_operand (kind.Keyword word.KwContinue) h = absurd cc
opens_operand (kind.Keyword word.KwDef) h = absurd cc
opens_operand (kind.Keyword word.KwDel) h = absurd cc
opens_operand (kind.Keyword word.KwElif) h = absurd cc
opens_operand (kind.Keyword word.KwElse) h = absurd cc
opens_operand (kind.Keyword word.KwExcept) h = absurd cc
opens_operand (kind.Keyword word.KwFinally) h = absurd cc
opens_operand (kind.Keyword word.KwFor) h = absurd cc
opens_operand (kind.Keyword word.KwFrom) h = absurd cc
opens_operand (kind.Keyword word.KwGlobal) h = absurd cc
opens_operand (kind.Keyword word.KwIf) h = absurd cc
opens_operand (kind.Keyword word.KwImport) h = absurd cc
opens_operand (kind.Keyword word.KwIn) h = absurd cc
opens_operand (kind.Keyword word.KwIs) h = absurd cc
opens_operand (kind.Keyword word.KwLambda) h = absurd cc
opens_operand (kind.Keyword word.KwNonlocal) h = absurd cc
opens_operand (kind.Keyword word.KwNot) h = absurd cc
opens_operand (kind.Keyword word.KwOr) h = absurd cc
opens_operand (kind.Keyword word.KwPass) h = absurd cc
opens_operand (kind.Keyword word.KwRaise) h = absurd cc
opens_operand (kind.Keyword word.KwReturn) h = absurd cc
opens_operand (kind.Keyword word.KwTry) h = absurd cc
opens_operand (kind.Keyword word.KwWhile) h = absurd cc
opens_operand (kind.Keyword word.KwWith) h = absurd cc
opens_operand (kind.Keyword word.KwYield) h = absurd cc
opens_operand (kind.Int n) h = refl
opens_operand kind.Float h = refl
opens_operand kind.Imaginary h = absurd cc
opens_operand (kind.Str b) h = refl
opens_operand (kind.Bytes b) h = refl
opens_operand (kind.Op p) h = opens_operand_op p h
opens_operand kind.Newline h = absurd cc
opens_operand kind.Indent h = absurd cc
opens_operand kind.Dedent h = absurd cc
opens_operand kind.End h = absurd cc

operand_begins : (k : TokenKind) → operand k ≡ true → begins_in (Some k) ≡ true
operand_begins (kind.Name n) h = refl
operand_begins (kind.Keyword word.KwFalse) h = refl
operand_begins (kind.Keyword word.KwNone) h = refl
operand_begins (kind.Keyword word.KwTrue) h = refl
operand_begins (kind.Keyword word.KwAnd) h = absurd cc
operand_begins (kind.Keyword word.KwAs) h = absurd cc
operand_begins (kind.Keyword word.KwAssert) h = absurd cc
operand_begins (kind.Keyword word.KwAsync) h = absurd cc
operand_begins (kind.Keyword word.KwAwait) h = absurd cc
operand_begins (kind.Keyword word.KwBreak) h = absurd cc
operand_begins (kind.Keyword word.KwClass) h = absurd cc
operand_begins (kind.Keyword word.KwContinue) h = absurd cc
operand_begins (kind.Keyword word.KwDef) h = absurd cc
operand_begins (kind.Keyword word.KwDel) h = absurd cc
operand_begins (kind.Keyword word.KwElif) h = absurd cc
operand_begins (kind.Keyword word.KwElse) h = absurd cc
operand_begins (kind.Keyword word.KwExcept) h = absurd cc
operand_begins (kind.Keyword word.KwFinally) h = absurd cc
operand_begins (kind.Keyword word.KwFor) h = absurd cc
operand_begins (kind.Keyword word.KwFrom) h = absurd cc
operand_begins (kind.Keyword word.KwGlobal) h = absurd cc
operand_begins (kind.Keyword word.KwIf) h = absurd cc
operand_begins (kind.Keyword word.KwImport) h = absurd cc
operand_begins (kind.Keyword word.KwIn) h = absurd cc
operand_begins (kind.Keyword word.KwIs) h = absurd cc
operand_begins (kind.Keyword word.KwLambda) h = absurd cc
operand_begins (kind.Keyword word.KwNonlocal) h = absurd cc
operand_begins (kind.Keyword word.KwNot) h = absurd cc
operand_begins (kind.Keyword word.KwOr) h = absurd cc
operand_begins (kind.Keyword word.KwPass) h = absurd cc
operand_begins (kind.Keyword word.KwRaise) h = absurd cc
operand_begins (kind.Keyword word.KwReturn) h = absurd cc
operand_begins (kind.Keyword word.KwTry) h = absurd cc
operand_begins (kind.Keyword word.KwWhile) h = absurd cc
operand_begins (kind.Keyword word.KwWith) h = absurd cc
operand_begins (kind.Keyword word.KwYield) h = absurd cc
operand_begins (kind.Int n) h = refl
operand_begins kind.Float h = refl
operand_begins kind.Imaginary h = absurd cc
operand_begins (kind.Str b) h = refl
operand_begins (kind.Bytes b) h = refl
operand_begins (kind.Op p) h = h
operand_begins kind.Newline h = absurd cc
operand_begins kind.Indent h = absurd cc
operand_begins kind.Dedent h = absurd cc
operand_begins kind.End h = absurd cc

begins_pulls_op : (o : Op) → begins_op o ≡ true → 1 ≤ op_pull o
begins_pulls_op op.Plus h = omega arith
begins_pulls_op op.Minus h = omega arith
begins_pulls_op op.Star h = absurd cc
begins_pulls_op op.DoubleStar h = absurd cc
begins_pulls_op op.Slash h = absurd cc
begins_pulls_op op.DoubleSlash h = absurd cc
begins_pulls_op op.Percent h = absurd cc
begins_pulls_op op.At h = absurd cc
begins_pulls_op op.ShiftLeft h = absurd cc
begins_pulls_op op.ShiftRight h = absurd cc
begins_pulls_op op.Amper h = absurd cc
begins_pulls_op op.Bar h = absurd cc
begins_pulls_op op.Caret h = absurd cc
begins_pulls_op op.Tilde h = omega arith
begins_pulls_op op.Less h = absurd cc
begins_pulls_op op.Greater h = absurd cc
begins_pulls_op op.LessEq h = absurd cc
begins_pulls_op op.GreaterEq h = absurd cc
begins_pulls_op op.EqEq h = absurd cc
begins_pulls_op op.NotEq h = absurd cc
begins_pulls_op op.LeftParen h = omega arith
begins_pulls_op op.RightParen h = absurd cc
begins_pulls_op op.LeftSquare h = omega arith
begins_pulls_op op.RightSquare h = absurd cc
begins_pulls_op op.LeftBrace h = omega arith
begins_pulls_op op.RightBrace h = absurd cc
begins_pulls_op op.Comma h = absurd cc
begins_pulls_op op.Colon h = absurd cc
begins_pulls_op op.Dot h = absurd cc
begins_pulls_op op.Semi h = absurd cc
begins_pulls_op op.Assign h = absurd cc
begins_pulls_op op.Arrow h = absurd cc
begins_pulls_op op.Walrus h = absurd cc
begins_pulls_op op.Ellipsis h = absurd cc
begins_pulls_op op.PlusAssign h = absurd cc
begins_pulls_op op.MinusAssign h = absurd cc
begins_pulls_op op.StarAssign h = absurd cc
begins_pulls_op op.SlashAssign h = absurd cc
begins_pulls_op op.DoubleSlashAssign h = absurd cc
begins_pulls_op op.PercentAssign h = absurd cc
begins_pulls_op op.AtAssign h = absurd cc
begins_pulls_op op.AmperAssign h = absurd cc
begins_pulls_op op.BarAssign h = absurd cc
begins_pulls_op op.CaretAssign h = absurd cc
begins_pulls_op op.ShiftRightAssign h = absurd cc
begins_pulls_op op.ShiftLeftAssign h = absurd cc
begins_pulls_op op.DoubleStarAssign h = absurd cc

begins_pulls : (k : Option TokenKind) → begins_in k ≡ true → 1 ≤ pull k
begins_pulls None h = absurd cc
begins_pulls (Some (kind.Name n)) h = omega arith
begins_pulls (Some (kind.Keyword word.KwFalse)) h = omega arith
begins_pulls (Some (kind.Keyword word.KwNone)) h = omega arith
begins_pulls (Some (kind.Keyword word.KwTrue)) h = omega arith
begins_pulls (Some (kind.Keyword word.KwAnd)) h = absurd cc
begins_pulls (Some (kind.Keyword word.KwAs)) h = absurd cc
begins_pulls (Some (kind.Keyword word.KwAssert)) h = absurd cc
begins_pulls (Some (kind.Keyword word.KwAsync)) h = absurd cc
begins_pulls (Some (kind.Keyword word.KwAwait)) h = absurd cc
begins_pulls (Some (kind.Keyword word.KwBreak)) h = absurd cc
begins_pulls (Some (kind.Keyword word.KwClass)) h = absurd cc
begins_pulls (Some (kind.Keyword word.KwContinue)) h = absurd cc
begins_pulls (Some (kind.Keyword word.KwDef)) h = absurd cc
begins_pulls (Some (kind.Keyword word.KwDel)) h = absurd cc
begins_pulls (Some (kind.Keyword word.KwElif)) h = absurd cc
begins_pulls (Some (kind.Keyword word.KwElse)) h = absurd cc
begins_pulls (Some (kind.Keyword word.KwExcept)) h = absurd cc
begins_pulls (Some (kind.Keyword word.KwFinally)) h = absurd cc
begins_pulls (Some (kind.Keyword word.KwFor)) h = absurd cc
begins_pulls (Some (kind.Keyword word.KwFrom)) h = absurd cc
begins_pulls (Some (kind.Keyword word.KwGlobal)) h = absurd cc
begins_pulls (Some (kind.Keyword word.KwIf)) h = absurd cc
begins_pulls (Some (kind.Keyword word.KwImport)) h = absurd cc
begins_pulls (Some (kind.Keyword word.KwIn)) h = absurd cc
begins_pulls (Some (kind.Keyword word.KwIs)) h = absurd cc
begins_pulls (Some (kind.Keyword word.KwLambda)) h = absurd cc
begins_pulls (Some (kind.Keyword word.KwNonlocal)) h = absurd cc
begins_pulls (Some (kind.Keyword word.KwNot)) h = omega arith
begins_pulls (Some (kind.Keyword word.KwOr)) h = absurd cc
begins_pulls (Some (kind.Keyword word.KwPass)) h = absurd cc
begins_pulls (Some (kind.Keyword word.KwRaise)) h = absurd cc
begins_pulls (Some (kind.Keyword word.KwReturn)) h = absurd cc
begins_pulls (Some (kind.Keyword word.KwTry)) h = absurd cc
begins_pulls (Some (kind.Keyword word.KwWhile)) h = absurd cc
begins_pulls (Some (kind.Keyword word.KwWith)) h = absurd cc
begins_pulls (Some (kind.Keyword word.KwYield)) h = absurd cc
begins_pulls (Some (kind.Int n)) h = omega arith
begins_pulls (Some kind.Float) h = omega arith
begins_pulls (Some kind.Imaginary) h = absurd cc
begins_pulls (Some (kind.Str b)) h = omega arith
begins_pulls (Some (kind.Bytes b)) h = omega arith
begins_pulls (Some (kind.Op p)) h = begins_pulls_op p h
begins_pulls (Some kind.Newline) h = absurd cc
begins_pulls (Some kind.Indent) h = absurd cc
begins_pulls (Some kind.Dedent) h = absurd cc
begins_pulls (Some kind.End) h = absurd cc

-- where an expression has ended, no test begins
pub no_test : (c : Cursor) → Stops 1 c → begins_test c ≡ false
unfolding begins_test
no_test c s = by_test (begins_in (next c)) refl where
  by_test : (z : Bool) → begins_in (next c) ≡ z → z ≡ false
  by_test true e = absurd (omega (arith, s, begins_pulls (next c) e))
  by_test false e = refl

-- where a test begins, no other token stands
pub test_no_symbol : (o : Op) (c : Cursor) → begins_test c ≡ true → begins_op o ≡ false → at (symbol o) c ≡ false
unfolding begins_test
test_no_symbol o c h other = by_test (at (symbol o) c) refl where
  by_test : (z : Bool) → at (symbol o) c ≡ z → z ≡ false
  by_test true e = absurd (differs (sym h ∙ (ap begins_in (at_symbol o c e) ∙ other))) where
    differs : true ≡ false → ⊥
    differs g = cc
  by_test false e = refl

pub test_no_keyword : (w : Keyword) (c : Cursor) → begins_test c ≡ true → begins_in (Some (kind.Keyword w)) ≡ false → at (keyword w) c ≡ false
unfolding begins_test
test_no_keyword w c h other = by_test (at (keyword w) c) refl where
  by_test : (z : Bool) → at (keyword w) c ≡ z → z ≡ false
  by_test true e = absurd (differs (sym h ∙ (ap begins_in (at_keyword w c e) ∙ other))) where
    differs : true ≡ false → ⊥
    differs g = cc
  by_test false e = refl

strs_begin : (c : Cursor) (b : Bool) (d : Cursor) → AreStrs c b d → First opens c
strs_begin _ _ _ (strs_one h) = first _ h refl
strs_begin _ _ _ (strs_more h k) = first _ h refl

octets_begin : (c : Cursor) (b : Bool) (d : Cursor) → AreOctets c b d → First opens c
octets_begin _ _ _ (octets_one h) = first _ h refl
octets_begin _ _ _ (octets_more h k) = first _ h refl

pub atom_begins : (c : Cursor) (e : Expr) (d : Cursor) → IsAtom c e d → First opens c
atom_begins _ _ _ (atom_name h) = first _ h.name.begins refl
atom_begins _ _ _ (atom_int h) = first _ h refl
atom_begins _ _ _ (atom_float h) = first _ h refl
atom_begins _ _ _ (atom_strs h) = strs_begin _ _ _ h
atom_begins _ _ _ (atom_octets h) = octets_begin _ _ _ h
atom_begins _ _ _ (atom_none h) = first _ h refl
atom_begins _ _ _ (atom_true h) = first _ h refl
atom_begins _ _ _ (atom_false h) = first _ h refl
atom_begins _ _ _ (atom_unit h k) = first _ h refl
atom_begins _ _ _ (atom_group h k l) = first _ h refl
atom_begins _ _ _ (atom_empty_list h k) = first _ h refl
atom_begins _ _ _ (atom_list h k l) = first _ h refl
atom_begins _ _ _ (atom_dict h k l) = first _ h refl
atom_begins _ _ _ (atom_super h i j k l m) = first _ h.begins refl

pub primary_begins : (c : Cursor) (e : Expr) (d : Cursor) → IsPrimary c e d → First opens c
primary_begins _ _ _ (primary_atom h) = atom_begins _ _ _ h
primary_begins _ _ _ (primary_attr h i j) = primary_begins _ _ _ h
primary_begins _ _ _ (primary_call h i j k) = primary_begins _ _ _ h
primary_begins _ _ _ (primary_item h i j k) = primary_begins _ _ _ h
primary_begins _ _ _ (primary_slice h i j k) = primary_begins _ _ _ h

pub power_begins : (c : Cursor) (e : Expr) (d : Cursor) → IsPower c e d → First opens c
power_begins _ _ _ (power_primary h) = primary_begins _ _ _ h
power_begins _ _ _ (power_pow h i j) = primary_begins _ _ _ h

as_operand : (c : Cursor) → First opens c → First operand c
as_operand c (first k h o) = first k h (opens_operand k o)

unary_begins : (o : Op) (u : UnaryOp) → IsUnary o u → begins_op o ≡ true
unary_begins _ _ unary_plus = refl
unary_begins _ _ unary_minus = refl
unary_begins _ _ unary_invert = refl

pub factor_begins : (c : Cursor) (e : Expr) (d : Cursor) → IsFactor c e d → First operand c
factor_begins _ _ _ (factor_power h) = as_operand _ (power_begins _ _ _ h)
factor_begins _ _ _ (factor_unary h i j) = first _ h (unary_begins _ _ i)

pub operation_begins : (n : ℕ) (c : Cursor) (e : Expr) (d : Cursor) → IsOperation n c e d → First operand c
operation_begins _ _ _ _ (operation_factor h) = factor_begins _ _ _ h
operation_begins _ _ _ _ (operation_next h) = operation_begins _ _ _ _ h
operation_begins _ _ _ _ (operation_binary h i j k) = operation_begins _ _ _ _ h

pub compare_begins : (c : Cursor) (e : Expr) (d : Cursor) → IsCompare c e d → First operand c
compare_begins _ _ _ (compare_one h) = operation_begins _ _ _ _ h
compare_begins _ _ _ (compare_two h i j) = operation_begins _ _ _ _ h

pub first_begins : (c : Cursor) → First operand c → begins_test c ≡ true
unfolding begins_test
first_begins c (first k h o) = ap begins_in h ∙ operand_begins k o

pub opens_begins : (c : Cursor) → First opens c → begins_test c ≡ true
opens_begins c f = first_begins c (as_operand c f)

pub not_begins : (c : Cursor) (e : Expr) (d : Cursor) → IsNot c e d → begins_test c ≡ true
unfolding begins_test
not_begins _ _ _ (not_compare h) = first_begins _ (compare_begins _ _ _ h)
not_begins _ _ _ (not_not h i) = ap begins_in h

pub and_begins : (c : Cursor) (e : Expr) (d : Cursor) → IsAnd c e d → begins_test c ≡ true
and_begins _ _ _ (and_not h) = not_begins _ _ _ h
and_begins _ _ _ (and_and h i j) = and_begins _ _ _ h

pub or_begins : (c : Cursor) (e : Expr) (d : Cursor) → IsOr c e d → begins_test c ≡ true
or_begins _ _ _ (or_and h) = and_begins _ _ _ h
or_begins _ _ _ (or_or h i j) = or_begins _ _ _ h

pub test_begins : (c : Cursor) (e : Expr) (d : Cursor) → IsTest c e d → begins_test c ≡ true
test_begins _ _ _ (test_or h) = or_begins _ _ _ h
test_begins _ _ _ (test_choice h i j k l) = or_begins _ _ _ h

pub are_tests_begin : (c : Cursor) (es : Exprs) (d : Cursor) → AreTests c es d → begins_test c ≡ true
are_tests_begin _ _ _ (tests_last h) = test_begins _ _ _ h
are_tests_begin _ _ _ (tests_comma h i) = test_begins _ _ _ h
are_tests_begin _ _ _ (tests_more h i j) = test_begins _ _ _ h

pub tests_begin : (c : Cursor) (e : Expr) (d : Cursor) → IsTests c e d → begins_test c ≡ true
tests_begin _ _ _ (tests_one h) = test_begins _ _ _ h
tests_begin _ _ _ (tests_single h i) = test_begins _ _ _ h
tests_begin _ _ _ (tests_tuple h i j) = test_begins _ _ _ h

-- an operand begins with no `not`, an atom with no operator
pub operand_no_not : (c : Cursor) → First operand c → at (keyword word.KwNot) c ≡ false
operand_no_not c (first k h o) = by_test (at (keyword word.KwNot) c) refl where
  by_test : (z : Bool) → at (keyword word.KwNot) c ≡ z → z ≡ false
  by_test true e = absurd (differs (sym o ∙ ap operand' (sym h ∙ at_keyword word.KwNot c e))) where
    operand' : Option TokenKind → Bool
    operand' None = false
    operand' (Some k) = operand k

    differs : true ≡ false → ⊥
    differs g = cc
  by_test false e = refl

opens_no_unary_op : (o : Op) → opens_op o ≡ true → unary_in (Some (kind.Op o)) ≡ None
opens_no_unary_op op.Plus h = absurd cc
opens_no_unary_op op.Minus h = absurd cc
opens_no_unary_op op.Star h = refl
opens_no_unary_op op.DoubleStar h = refl
opens_no_unary_op op.Slash h = refl
opens_no_unary_op op.DoubleSlash h = refl
opens_no_unary_op op.Percent h = refl
opens_no_unary_op op.At h = refl
opens_no_unary_op op.ShiftLeft h = refl
opens_no_unary_op op.ShiftRight h = refl
opens_no_unary_op op.Amper h = refl
opens_no_unary_op op.Bar h = refl
opens_no_unary_op op.Caret h = refl
opens_no_unary_op op.Tilde h = absurd cc
opens_no_unary_op op.Less h = refl
opens_no_unary_op op.Greater h = refl
opens_no_unary_op op.LessEq h = refl
opens_no_unary_op op.GreaterEq h = refl
opens_no_unary_op op.EqEq h = refl
opens_no_unary_op op.NotEq h = refl
opens_no_unary_op op.LeftParen h = refl
opens_no_unary_op op.RightParen h = refl
opens_no_unary_op op.LeftSquare h = refl
opens_no_unary_op op.RightSquare h = refl
opens_no_unary_op op.LeftBrace h = refl
opens_no_unary_op op.RightBrace h = refl
opens_no_unary_op op.Comma h = refl
opens_no_unary_op op.Colon h = refl
opens_no_unary_op op.Dot h = refl
opens_no_unary_op op.Semi h = refl
opens_no_unary_op op.Assign h = refl
opens_no_unary_op op.Arrow h = refl
opens_no_unary_op op.Walrus h = refl
opens_no_unary_op op.Ellipsis h = refl
opens_no_unary_op op.PlusAssign h = refl
opens_no_unary_op op.MinusAssign h = refl
opens_no_unary_op op.StarAssign h = refl
opens_no_unary_op op.SlashAssign h = refl
opens_no_unary_op op.DoubleSlashAssign h = refl
opens_no_unary_op op.PercentAssign h = refl
opens_no_unary_op op.AtAssign h = refl
opens_no_unary_op op.AmperAssign h = refl
opens_no_unary_op op.BarAssign h = refl
opens_no_unary_op op.CaretAssign h = refl
opens_no_unary_op op.ShiftRightAssign h = refl
opens_no_unary_op op.ShiftLeftAssign h = refl
opens_no_unary_op op.DoubleStarAssign h = refl

opens_no_unary : (k : TokenKind) → opens k ≡ true → unary_in (Some k) ≡ None
opens_no_unary (kind.Name n) h = refl
opens_no_unary (kind.Keyword w) h = refl
opens_no_unary (kind.Int n) h = refl
opens_no_unary kind.Float h = refl
opens_no_unary kind.Imaginary h = refl
opens_no_unary (kind.Str b) h = refl
opens_no_unary (kind.Bytes b) h = refl
opens_no_unary (kind.Op p) h = opens_no_unary_op p h
opens_no_unary kind.Newline h = refl
opens_no_unary kind.Indent h = refl
opens_no_unary kind.Dedent h = refl
opens_no_unary kind.End h = refl

pub atom_no_unary : (c : Cursor) → First opens c → said unary_in c ≡ None
atom_no_unary c (first k h o) = said_is unary_in c k h ∙ opens_no_unary k o
