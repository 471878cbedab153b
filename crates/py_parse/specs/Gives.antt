-- What the parser's calls say of the descent.
use Rattle.std.specs.Prelude.{◌≡◌, ℕ, Bool, true, false, Result, Ok, Err, Option, Some, None}
use Rattle.py_tokens.specs.declared.token.TokenKind.{TokenKind}
use Rattle.py_tokens.specs.declared.token.TokenKind.TheVariants as kind
use Rattle.py_tokens.specs.declared.token.Keyword.{Keyword}
use Rattle.py_tokens.specs.declared.token.Op.{Op}
use Rattle.py_parse.specs.declared.fault.ParseFault.{ParseFault}
use Rattle.py_parse.specs.declared.fault.ParseFault.TheVariants.{Unexpected, OutOfProfile, TooDeep, Memory}
use Rattle.py_grammar.specs.Cursor.{Cursor, past}
use Rattle.py_descent.specs.Programs.{Answer, gives, refuses, Program, exec}
use Rattle.py_descent.specs.Descent.{descent}
use Rattle.py_descent.specs.Takings.{number_in, negative_in}
use Rattle.py_tree.specs.declared.expression.Expr as rust_expr
use Rattle.py_tree.specs.Tree.{Bound, no_bound, bound}
use Rattle.py_tree.specs.View.{expr_view, bound_view}
use Rattle.std.specs.Prelude.{Box}
use Rattle.std.specs.Global.{Global}
use Rattle.py_tree.specs.declared.literal.Literal.{Literal}

-- a call's result and the cursor that it left are the answer, unless memory ran out
abbrev pub Gives : {A B : Type 0} → (A → B) → Result A ParseFault → Cursor → Answer B → Type 0
Gives view (Ok a) c r = r ≡ gives (view a) c
Gives view (Err (Unexpected span)) c r = r ≡ refuses
Gives view (Err (OutOfProfile form span)) c r = r ≡ refuses
Gives view (Err (TooDeep span)) c r = r ≡ refuses
Gives view (Err Memory) c r = Unit {0}

-- a part of a goal's program, run from a cursor on
abbrev pub run : {A : Type 0} → Program A → Cursor → Answer A
run p c = exec descent 64 true p c

-- the cursor behind what a token said, if it said anything
abbrev pub behind : {B : Type 0} → Option B → Cursor → Cursor
behind None c = c
behind (Some x) c = past c

-- a number, a literal or a truth value is seen as it is
abbrev pub number : ℕ → ℕ
number n = n

abbrev pub same : {A : Type 0} → A → A
same a = a

abbrev pub op_in : Option TokenKind → Option Op
op_in (Some (kind.Op o)) = Some o
op_in _ = None

abbrev pub word_in : Option TokenKind → Option Keyword
word_in (Some (kind.Keyword w)) = Some w
word_in _ = None

abbrev pub unit : {A : Type 0} → A → Unit {0}
unit a = tt

-- a fault that is no want of memory
abbrev pub IsRefusal : ParseFault → Type 0
IsRefusal (Unexpected span) = Unit {0}
IsRefusal (OutOfProfile form span) = Unit {0}
IsRefusal (TooDeep span) = Unit {0}
IsRefusal Memory = ⊥

-- a number, behind a `-` that is part of it or not
abbrev pub number_of : Bool → Option TokenKind → Option Literal
number_of true k = negative_in k
number_of false k = number_in k

-- a part of a slice, as far as it is written
abbrev pub part_view : Option rust_expr.Expr → Bound
part_view None = no_bound
part_view (Some e) = bound (expr_view e)

-- the same in a box, unless memory ran out
abbrev pub IsBoxed : Option rust_expr.Expr → Result (Option (Box rust_expr.Expr Global)) ParseFault → Type 0
IsBoxed part (Ok boxed) = bound_view boxed ≡ part_view part
IsBoxed part (Err fault) = fault ≡ Memory

-- a part behind a mark, with what its goal has behind that, or no part where the mark is not next
abbrev pub GivesPart : {A B : Type 0} → (A → B) → Result (Option A) ParseFault → Bool → Cursor → Cursor → Answer B → Type 0
GivesPart view (Ok None) found before after r = (found ≡ false) × (after ≡ before)
GivesPart view (Ok (Some a)) found before after r = (found ≡ true) × (r ≡ gives (view a) after)
GivesPart view (Err (Unexpected span)) found before after r = (found ≡ true) × (r ≡ refuses)
GivesPart view (Err (OutOfProfile form span)) found before after r = (found ≡ true) × (r ≡ refuses)
GivesPart view (Err (TooDeep span)) found before after r = (found ≡ true) × (r ≡ refuses)
GivesPart view (Err Memory) found before after r = Unit {0}
