-- The code of statements. It begins and ends with the same stack.
use Rattle.std.specs.Prelude.{ℕ, suc, Bool, true, false, cond, List, [], ◌∷◌, Option, Some, None}
use Rattle.place_ids.specs.declared.operators.BinOp.{BinOp}
use Rattle.py_tree.specs.Tree.{Expr, node, name, attr, item, site_of, Exprs, no_exprs, expr, ImportPart, FromPart, Stmt, statement, StmtKind, pass, break, continue, ellipsis, return, raise, assert, import, from, global, assign, augment, annotated, expression, if, while, for, try, def, class, Stmts, no_stmts, stmt, Arms, no_arms, arm, Handlers, no_handlers, handler, FunDef, fun_def, ClassDef, class_def, Member, pass_member, ellipsis_member, text, declared, method, Members, no_members, member}
use Rattle.py_tree.specs.Tree as tree
use Rattle.stack_code.specs.declared.op.Op.TheVariants as op
use Rattle.stack_code.specs.declared.op.ConstKind.TheVariants as kind
use Rattle.tree_code.specs.Pieces.{Piece, nothing, one, ◌⨾◌, over, past, fork, loop, go_again, go_out, guarded}
use Rattle.tree_code.specs.Names.{load, store, forget}
use Rattle.tree_code.specs.Expressions.{value, put}

-- where a statement stands: the locals of its function, the number of the name AssertionError, how deep the stack is, and whether the innermost loop keeps an iterable on it
pub record Place : Type 0 where
  pub locals : List ℕ
  pub error : ℕ
  pub depth : ℕ
  pub keeps : Bool

-- in the body of a `while`, and in that of a `for`, whose iterable lies below
abbrev pub in_while : Place → Place
in_while at = record at { keeps = false }

abbrev pub in_for : Place → Place
in_for at = record at { depth = suc at.depth; keeps = true }

abbrev pub value_or_none : List ℕ → ℕ → Option Expr → Piece
value_or_none locals line None = one (op.Const kind.NoneValue) line
value_or_none locals line (Some x) = value locals x

-- a value that is not used, where there is one
abbrev pub dropped : List ℕ → ℕ → Option Expr → Piece
dropped locals line None = nothing
dropped locals line (Some x) = value locals x ⨾ one op.Pop line

-- `raise e from c`, and `raise` alone ("The raise statement")
abbrev pub raised : List ℕ → ℕ → Option Expr → Option Expr → Piece
raised locals line None cause = one op.Reraise line
raised locals line (Some x) cause = value locals x ⨾ dropped locals line cause ⨾ one (op.MakeRaised (site_of x)) line ⨾ one op.Raise line

abbrev pub first_of : List ℕ → ℕ
first_of [] = 0
first_of (n ∷ ns) = n

-- the name that an import binds: after `as`, or else its own
abbrev pub bound_by : Option ℕ → ℕ → ℕ
bound_by None n = n
bound_by (Some alias) n = alias

abbrev pub imports : List ℕ → ℕ → List ImportPart → Piece
imports locals line [] = nothing
imports locals line (p ∷ ps) = one (op.Import p.path) line ⨾ one (store locals (bound_by p.alias (first_of p.path))) line ⨾ imports locals line ps

abbrev pub froms : List ℕ → ℕ → List ℕ → List FromPart → Piece
froms locals line path [] = nothing
froms locals line path (p ∷ ps) = one (op.ImportFrom path p.name) line ⨾ one (store locals (bound_by p.alias p.name)) line ⨾ froms locals line path ps

-- the value on the top goes into each target from the left, of which all but the last get a copy
abbrev pub put_all : List ℕ → ℕ → Exprs → Piece
put_all locals line no_exprs = one op.Pop line
put_all locals line (expr x no_exprs) = put locals x
put_all locals line (expr x xs) = one (op.Pick 0) line ⨾ put locals x ⨾ put_all locals line xs

-- `target o= x`: the target's parts are evaluated once ("Augmented assignment statements")
abbrev pub augmented : List ℕ → ℕ → Expr → BinOp → Expr → Piece
augmented locals line (node (name n) at site) o x = one (load locals n) at ⨾ value locals x ⨾ one (op.InPlace o site) line ⨾ one (store locals n) at
augmented locals line (node (attr a n) at site) o x = value locals a ⨾ one (op.Pick 0) at ⨾ one (op.Attr n) at ⨾ value locals x ⨾ one (op.InPlace o site) line ⨾ one (op.StoreAttr n) at
augmented locals line (node (item a i) at site) o x =
    value locals a ⨾ value locals i ⨾ one (op.Pick 1) at ⨾ one (op.Pick 1) at ⨾ one op.Item at ⨾ value locals x ⨾ one (op.InPlace o site) line ⨾ one op.StoreItem at
augmented locals line (node _ at site) o x = nothing

-- without a value only an attribute's object is evaluated ("Annotated assignment statements")
abbrev pub annotates : List ℕ → ℕ → Expr → Option Expr → Piece
annotates locals line target (Some x) = value locals x ⨾ put locals target
annotates locals line (node (attr a n) at site) None = value locals a ⨾ one op.Pop line
annotates locals line (node _ at site) None = nothing

-- the exception on the top goes into the name of an `except` clause, which is unbound where the clause ends ("The try statement")
abbrev pub caught : List ℕ → ℕ → Option ℕ → Piece
caught locals line None = one op.Pop line
caught locals line (Some n) = one (store locals n) line

abbrev pub uncaught : List ℕ → ℕ → Option ℕ → Piece
uncaught locals line None = nothing
uncaught locals line (Some n) = one (forget locals n) line

-- the values of a class body's members, in the module's names
abbrev pub member_values : ℕ → Members → Piece
member_values number no_members = nothing
member_values number (member (tree.value n x line) ms) = value [] x ⨾ one (op.StoreMember number n) line ⨾ member_values number ms
member_values number (member (declared n (Some x) line) ms) = value [] x ⨾ one (op.StoreMember number n) line ⨾ member_values number ms
member_values number (member _ ms) = member_values number ms

abbrev pub defines : ℕ → FunDef → Piece
defines line (fun_def id n params body at) = one (op.Fun id) line ⨾ one (op.StoreName n) line

abbrev pub defines_class : ℕ → ClassDef → Piece
defines_class line (class_def id n base inside at) = member_values id inside ⨾ one (op.Class id) line ⨾ one (op.StoreName n) line

abbrev mutual
  pub kind_code : Place → ℕ → StmtKind → Piece
  kind_code at line pass = nothing
  -- the iterable of a `for` goes where it is left
  kind_code at line break = cond at.keeps (one op.Pop line ⨾ go_out line) (go_out line)
  kind_code at line continue = go_again line
  kind_code at line ellipsis = nothing
  kind_code at line (return x) = value_or_none at.locals line x ⨾ one op.Return line
  kind_code at line (raise x cause) = raised at.locals line x cause
  kind_code at line (assert test message) =
      value at.locals test ⨾ over op.JumpIfTrue line (dropped at.locals line message ⨾ one (op.LoadName at.error) line ⨾ one (op.MakeRaised (site_of test)) line ⨾ one op.Raise line)
  kind_code at line (import ps) = imports at.locals line ps
  kind_code at line (from path ps) = froms at.locals line path ps
  kind_code at line (global ns) = nothing
  kind_code at line (assign targets x) = value at.locals x ⨾ put_all at.locals line targets
  kind_code at line (augment target o x) = augmented at.locals line target o x
  kind_code at line (annotated target x) = annotates at.locals line target x
  kind_code at line (expression x) = value at.locals x ⨾ one op.Pop line
  kind_code at line (if arms otherwise) = arms_code at line arms (body_code at otherwise)
  kind_code at line (while test body) = loop op.JumpIfFalse line (value at.locals test) (body_code (in_while at) body)
  kind_code at line (for target through body) = value at.locals through ⨾ loop op.ForNext line nothing (put at.locals target ⨾ body_code (in_for at) body)
  kind_code at line (try body handlers otherwise) =
      guarded at.depth line (body_code at body) (body_code at otherwise) (one op.Caught line ⨾ handlers_code at line handlers)
  kind_code at line (def f) = defines line f
  kind_code at line (class c) = defines_class line c

  pub body_code : Place → Stmts → Piece
  body_code at no_stmts = nothing
  body_code at (stmt (statement kind line) rest) = kind_code at line kind ⨾ body_code at rest

  -- the arms, before the `else` body
  pub arms_code : Place → ℕ → Arms → Piece → Piece
  arms_code at line no_arms otherwise = otherwise
  arms_code at line (arm test body rest) otherwise = value at.locals test ⨾ fork line (body_code at body) (arms_code at line rest otherwise)

  -- the clauses in their order; where none matches, the exception goes on
  pub handlers_code : Place → ℕ → Handlers → Piece
  handlers_code at line no_handlers = one op.Pop line ⨾ one op.Reraise line
  handlers_code at line (handler None n body own rest) = past own (caught at.locals own n ⨾ body_code at body ⨾ uncaught at.locals own n) (handlers_code at line rest)
  handlers_code at line (handler (Some x) n body own rest) =
      value at.locals x ⨾ one op.MatchError own ⨾ fork own (caught at.locals own n ⨾ body_code at body ⨾ uncaught at.locals own n) (handlers_code at line rest)
