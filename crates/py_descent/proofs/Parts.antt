-- What stands between two cursors, where the grammar has no family of its own for it.
use Rattle.std.proofs.Common.{◌≡◌, ℕ, ◌&&◌, Bool, true, List, ◌++◌, Option, Some, None, subst}
use Rattle.place_ids.specs.declared.operators.CompareOp.{CompareOp}
use Rattle.py_tokens.specs.declared.token.Op.TheVariants as op
use Rattle.py_tree.specs.Tree as tree
use Rattle.py_tree.specs.Tree.{Expr, Exprs, no_exprs, expr, Bound, no_bound, FromPart, Stmt, StmtKind, FunDef}
use Rattle.py_grammar.specs.Cursor.{Cursor, BeginsOp, line_of, past, stated}
use Rattle.py_grammar.specs.Names.{IsName, IsPlainName}
use Rattle.py_grammar.specs.Expressions.{AreStrs, AreOctets, IsComparison, IsOperation, IsPrimary, IsBound, IsTests}
use Rattle.py_grammar.specs.Statements.{AreFrom, IsAssigned, IsSimple, IsFunction}
use Rattle.py_descent.specs.Takings.{binary_in}
use Rattle.py_descent.specs.Programs.{said}
use Rattle.py_descent.proofs.Means.{Given, given}
use Rattle.py_descent.proofs.Appends.{then_exprs}

-- the second cursor is behind one token
pub data Behind (c : Cursor) : Cursor → Type 0 where
  behind : Behind c (past c)

-- the line is the cursor's
pub data Since (c : Cursor) : ℕ → Type 0 where
  since : Since c (line_of c)

pub data FoundName (c : Cursor) (n : ℕ) : Cursor → Type 0 where
  found_name : IsName c n → FoundName c n (past c)

pub data FoundPlain (c : Cursor) (n : ℕ) : Cursor → Type 0 where
  found_plain : IsPlainName c n → FoundPlain c n (past c)

-- what was there, and more behind it
pub data More {L : Type 0} (join : L → L → L) (xs : L) (R : L → Cursor → Type 0) : L → Cursor → Type 0 where
  more : (ys : L) (d : Cursor) → R ys d → More join xs R (join xs ys) d

pub more_as : {L : Type 0} (join : L → L → L) (xs : L) (R : L → Cursor → Type 0) (ys v : L) (d : Cursor) → R ys d → join xs ys ≡ v → More join xs R v d
more_as join xs R ys v d h e = subst (λ z. More join xs R z d) e (more ys d h)

-- nothing, or something
pub data OrNone {L : Type 0} (xs : L) (c : Cursor) (R : L → Cursor → Type 0) : L → Cursor → Type 0 where
  or_none : OrNone xs c R xs c
  or_more : (v : L) (d : Cursor) → R v d → OrNone xs c R v d

-- texts behind one that is empty or not
pub data FoundStrs (e : Bool) (c : Cursor) : Bool → Cursor → Type 0 where
  no_strs : FoundStrs e c e c
  some_strs : (o : Bool) (d : Cursor) → AreStrs c o d → FoundStrs e c (e && o) d

pub data FoundOctets (e : Bool) (c : Cursor) : Bool → Cursor → Type 0 where
  no_octets : FoundOctets e c e c
  some_octets : (o : Bool) (d : Cursor) → AreOctets c o d → FoundOctets e c (e && o) d

pub data FoundComparison (c : Cursor) : Option CompareOp → Cursor → Type 0 where
  no_comparison : FoundComparison c None c
  some_comparison : (o : CompareOp) (d : Cursor) → IsComparison c o d → FoundComparison c (Some o) d

-- an operation of a level, with no operator of that level or a tighter one behind it
pub record Climbed (m : ℕ) (c : Cursor) (e : Expr) (d : Cursor) : Type 0 where
  pub whole : IsOperation m c e d
  pub ended : said (binary_in m) d ≡ None

-- the step of a slice
pub data FoundStride (c : Cursor) : Bound → Cursor → Type 0 where
  no_stride : FoundStride c no_bound c
  some_stride : (s : Bound) (d : Cursor) → BeginsOp op.Colon c → IsBound (past c) s d → FoundStride c s d

-- names that `from` takes, maybe with a comma before the bracket that closes
pub data FoundFroms (grouped : Bool) (ps : List FromPart) (c : Cursor) : List FromPart → Cursor → Type 0 where
  froms_end : (v : List FromPart) (d : Cursor) → More ◌++◌ ps (AreFrom c) v d → FoundFroms grouped ps c v d
  froms_comma : (v : List FromPart) (d : Cursor) → grouped ≡ true → More ◌++◌ ps (AreFrom c) v d → BeginsOp op.Comma d → BeginsOp op.RightParen (past d) → FoundFroms grouped ps c v (past d)

-- the value behind the targets, or more targets and the value
pub data FoundAssigned (ts : Exprs) (c : Cursor) : StmtKind → Cursor → Type 0 where
  assigned_value : (w : Expr) (d : Cursor) → IsTests c w d → FoundAssigned ts c (tree.assign ts w) d
  assigned_on : (us : Exprs) (w : Expr) (d : Cursor) → IsAssigned c us w d → FoundAssigned ts c (tree.assign (then_exprs ts us) w) d

pub data FoundSimple (c : Cursor) : Stmt → Cursor → Type 0 where
  found_simple : (k : StmtKind) (d : Cursor) → IsSimple c k d → FoundSimple c (stated k c) d

pub data FoundDefinition (c : Cursor) (f : FunDef) (d : Cursor) : Type 0 where
  found_definition : (n : ℕ) → IsName (past c) n → IsFunction c n f d → FoundDefinition c f d

-- primary ("," primary)* ","?
pub data ArePrimaries : Cursor → Exprs → Cursor → Type 0 where
  primaries_last : {c d : Cursor} {e : Expr} → IsPrimary c e d → ArePrimaries c (expr e no_exprs) d
  primaries_comma : {c d : Cursor} {e : Expr} → IsPrimary c e d → BeginsOp op.Comma d → ArePrimaries c (expr e no_exprs) (past d)
  primaries_more : {c d f : Cursor} {e : Expr} {es : Exprs} → IsPrimary c e d → BeginsOp op.Comma d → ArePrimaries (past d) es f → ArePrimaries c (expr e es) f

-- what holds of what is given holds of what was got
pub done : {A : Type 0} (R : A → Cursor → Type 0) (a : A) (c : Cursor) (v : A) (d : Cursor) → R a c → Given a c v d → R v d
done R a c v d h (given e f) = subst (λ z. R v z) f (subst (λ z. R z c) e h)
