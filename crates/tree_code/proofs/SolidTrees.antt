-- Each piece of a tree's code is solid.
use Rattle.std.proofs.Common.{ℕ, suc, zero, Bool, true, false, cond, Option, Some, None, List, [], ◌∷◌}
use Rattle.place_ids.specs.declared.operators.BinOp.{BinOp}
use Rattle.py_tree.specs.Tree.{Expr, node, name, literal, unary, binary, compare, not, and, or, choice, attr, super, item, slice, call, tuple, list, dict, Exprs, no_exprs, expr, Bound, no_bound, bound, Args, no_args, arg, Pairs, no_pairs, pair, ImportPart, FromPart, Param, Stmt, statement, StmtKind, pass, break, continue, ellipsis, return, raise, assert, import, from, global, assign, augment, annotated, expression, if, while, for, try, def, class, Stmts, no_stmts, stmt, Arms, no_arms, arm, Handlers, no_handlers, handler, FunDef, fun_def, ClassDef, class_def, Member, pass_member, ellipsis_member, text, declared, method, Members, no_members, member}
use Rattle.py_tree.specs.Tree as tree
use Rattle.stack_code.specs.declared.op.Op.{Op}
use Rattle.stack_code.specs.declared.op.Op.TheVariants as op
use Rattle.tree_code.specs.Pieces.{Piece, one, ◌⨾◌}
use Rattle.tree_code.specs.Expressions.{count, value, values, bound_value, arguments, pairs, parts, put, puts}
use Rattle.tree_code.specs.Statements.{Place, in_while, in_for, value_or_none, dropped, raised, imports, froms, put_all, augmented, annotates, caught, uncaught, member_values, defines, defines_class, kind_code, body_code, arms_code, handlers_code}
use Rattle.tree_code.specs.Programs.{params_code}
use Rattle.tree_code.specs.Standing.{IsSolid}
use Rattle.tree_code.proofs.Solid.{nothing_solid, one_solid, again_solid, out_solid, then_solid, over_solid, past_solid, fork_solid, loop_solid, guarded_solid}

-- a piece and then an instruction
with_op : {a : Piece} (o : Op) (line : ℕ) → IsSolid a → IsSolid (a ⨾ one o line)
with_op o line s = then_solid s (one_solid o line)

-- ---- expressions

mutual
  pub value_solid : (locals : List ℕ) (e : Expr) → IsSolid (value locals e)
  value_solid locals (node (name n) line site) = one_solid _ line
  value_solid locals (node (literal x) line site) = one_solid _ line
  value_solid locals (node (unary o a) line site) = with_op _ line (value_solid locals a)
  value_solid locals (node (binary o a b) line site) = then_solid (value_solid locals a) (with_op _ line (value_solid locals b))
  value_solid locals (node (compare o a b) line site) = then_solid (value_solid locals a) (with_op _ line (value_solid locals b))
  value_solid locals (node (not a) line site) = with_op _ line (value_solid locals a)
  value_solid locals (node (and a b) line site) = then_solid (value_solid locals a) (over_solid op.JumpIfFalseKeep line (value_solid locals b))
  value_solid locals (node (or a b) line site) = then_solid (value_solid locals a) (over_solid op.JumpIfTrueKeep line (value_solid locals b))
  value_solid locals (node (choice a test b) line site) = then_solid (value_solid locals test) (fork_solid line (value_solid locals a) (value_solid locals b))
  value_solid locals (node (attr a n) line site) = with_op _ line (value_solid locals a)
  value_solid locals (node (super n) line site) = one_solid _ line
  value_solid locals (node (item a i) line site) = then_solid (value_solid locals a) (with_op _ line (value_solid locals i))
  value_solid locals (node (slice a b c d) line site) = then_solid (value_solid locals a) (then_solid (bound_solid locals line b) (then_solid (bound_solid locals line c) (with_op _ line (bound_solid locals line d))))
  value_solid locals (node (call f xs) line site) = then_solid (value_solid locals f) (with_op _ line (arguments_solid locals xs))
  value_solid locals (node (tuple xs) line site) = with_op _ line (values_solid locals xs)
  value_solid locals (node (list xs) line site) = with_op _ line (values_solid locals xs)
  value_solid locals (node (dict ps) line site) = with_op _ line (pairs_solid locals ps)

  pub values_solid : (locals : List ℕ) (xs : Exprs) → IsSolid (values locals xs)
  values_solid locals no_exprs = nothing_solid
  values_solid locals (expr x xs) = then_solid (value_solid locals x) (values_solid locals xs)

  pub bound_solid : (locals : List ℕ) (line : ℕ) (b : Bound) → IsSolid (bound_value locals line b)
  bound_solid locals line no_bound = one_solid _ line
  bound_solid locals line (bound x) = value_solid locals x

  pub arguments_solid : (locals : List ℕ) (xs : Args) → IsSolid (arguments locals xs)
  arguments_solid locals no_args = nothing_solid
  arguments_solid locals (arg n x xs) = then_solid (value_solid locals x) (arguments_solid locals xs)

  pub pairs_solid : (locals : List ℕ) (ps : Pairs) → IsSolid (pairs locals ps)
  pairs_solid locals no_pairs = nothing_solid
  pairs_solid locals (pair k x ps) = then_solid (value_solid locals k) (then_solid (value_solid locals x) (pairs_solid locals ps))

-- ---- targets

pub parts_solid : (line total part : ℕ) → IsSolid (parts line total part)
parts_solid line total zero = nothing_solid
parts_solid line total (suc part) = then_solid (one_solid _ line) (parts_solid line total part)

mutual
  pub put_solid : (locals : List ℕ) (e : Expr) → IsSolid (put locals e)
  put_solid locals (node (name n) line site) = one_solid _ line
  put_solid locals (node (attr a n) line site) = then_solid (value_solid locals a) (then_solid (one_solid _ line) (with_op _ line (one_solid _ line)))
  put_solid locals (node (item a i) line site) = then_solid (value_solid locals a) (then_solid (value_solid locals i) (then_solid (one_solid _ line) (with_op _ line (one_solid _ line))))
  put_solid locals (node (tuple xs) line site) = then_solid (parts_solid line (count xs) (count xs)) (with_op _ line (puts_solid locals xs))
  put_solid locals (node (list xs) line site) = then_solid (parts_solid line (count xs) (count xs)) (with_op _ line (puts_solid locals xs))
  put_solid locals (node (literal x) line site) = one_solid _ line
  put_solid locals (node (unary o a) line site) = one_solid _ line
  put_solid locals (node (binary o a b) line site) = one_solid _ line
  put_solid locals (node (compare o a b) line site) = one_solid _ line
  put_solid locals (node (not a) line site) = one_solid _ line
  put_solid locals (node (and a b) line site) = one_solid _ line
  put_solid locals (node (or a b) line site) = one_solid _ line
  put_solid locals (node (choice a b c) line site) = one_solid _ line
  put_solid locals (node (super n) line site) = one_solid _ line
  put_solid locals (node (slice a b c d) line site) = one_solid _ line
  put_solid locals (node (call f xs) line site) = one_solid _ line
  put_solid locals (node (dict ps) line site) = one_solid _ line

  pub puts_solid : (locals : List ℕ) (xs : Exprs) → IsSolid (puts locals xs)
  puts_solid locals no_exprs = nothing_solid
  puts_solid locals (expr x xs) = then_solid (put_solid locals x) (puts_solid locals xs)

-- ---- simple statements

pub value_or_none_solid : (locals : List ℕ) (line : ℕ) (x : Option Expr) → IsSolid (value_or_none locals line x)
value_or_none_solid locals line None = one_solid _ line
value_or_none_solid locals line (Some x) = value_solid locals x

pub dropped_solid : (locals : List ℕ) (line : ℕ) (x : Option Expr) → IsSolid (dropped locals line x)
dropped_solid locals line None = nothing_solid
dropped_solid locals line (Some x) = with_op _ line (value_solid locals x)

pub raised_solid : (locals : List ℕ) (line : ℕ) (x cause : Option Expr) → IsSolid (raised locals line x cause)
raised_solid locals line None cause = one_solid _ line
raised_solid locals line (Some x) cause = then_solid (value_solid locals x) (then_solid (dropped_solid locals line cause) (with_op _ line (one_solid _ line)))

pub imports_solid : (locals : List ℕ) (line : ℕ) (ps : List ImportPart) → IsSolid (imports locals line ps)
imports_solid locals line [] = nothing_solid
imports_solid locals line (p ∷ ps) = then_solid (one_solid _ line) (then_solid (one_solid _ line) (imports_solid locals line ps))

pub froms_solid : (locals : List ℕ) (line : ℕ) (path : List ℕ) (ps : List FromPart) → IsSolid (froms locals line path ps)
froms_solid locals line path [] = nothing_solid
froms_solid locals line path (p ∷ ps) = then_solid (one_solid _ line) (then_solid (one_solid _ line) (froms_solid locals line path ps))

pub put_all_solid : (locals : List ℕ) (line : ℕ) (xs : Exprs) → IsSolid (put_all locals line xs)
put_all_solid locals line no_exprs = one_solid _ line
put_all_solid locals line (expr x no_exprs) = put_solid locals x
put_all_solid locals line (expr x (expr y ys)) = then_solid (one_solid _ line) (then_solid (put_solid locals x) (put_all_solid locals line (expr y ys)))

pub augmented_solid : (locals : List ℕ) (line : ℕ) (target : Expr) (o : BinOp) (x : Expr) → IsSolid (augmented locals line target o x)
augmented_solid locals line (node (name n) at site) o x = then_solid (one_solid _ at) (then_solid (value_solid locals x) (with_op _ at (one_solid _ line)))
augmented_solid locals line (node (attr a n) at site) o x =
    then_solid (value_solid locals a) (then_solid (one_solid _ at) (then_solid (one_solid _ at) (then_solid (value_solid locals x) (with_op _ at (one_solid _ line)))))
augmented_solid locals line (node (item a i) at site) o x =
    then_solid (value_solid locals a) (then_solid (value_solid locals i) (then_solid (one_solid _ at) (then_solid (one_solid _ at) (then_solid (one_solid _ at) (then_solid (value_solid locals x) (with_op _ at (one_solid _ line)))))))
augmented_solid locals line (node _ at site) o x = nothing_solid

pub annotates_solid : (locals : List ℕ) (line : ℕ) (target : Expr) (x : Option Expr) → IsSolid (annotates locals line target x)
annotates_solid locals line target (Some x) = then_solid (value_solid locals x) (put_solid locals target)
annotates_solid locals line (node (attr a n) at site) None = with_op _ line (value_solid locals a)
annotates_solid locals line (node _ at site) None = nothing_solid

-- ---- definitions

pub members_solid : (number : ℕ) (ms : Members) → IsSolid (member_values number ms)
members_solid number no_members = nothing_solid
members_solid number (member (tree.value n x line) ms) = then_solid (value_solid [] x) (then_solid (one_solid _ line) (members_solid number ms))
members_solid number (member (declared n (Some x) line) ms) = then_solid (value_solid [] x) (then_solid (one_solid _ line) (members_solid number ms))
members_solid number (member (declared n None line) ms) = members_solid number ms
members_solid number (member pass_member ms) = members_solid number ms
members_solid number (member ellipsis_member ms) = members_solid number ms
members_solid number (member text ms) = members_solid number ms
members_solid number (member (method f) ms) = members_solid number ms

pub defines_solid : (line : ℕ) (f : FunDef) → IsSolid (defines line f)
defines_solid line (fun_def id n params body at) = with_op _ line (one_solid _ line)

pub class_solid : (line : ℕ) (c : ClassDef) → IsSolid (defines_class line c)
class_solid line (class_def id n base inside at) = then_solid (members_solid id inside) (with_op _ line (one_solid _ line))

pub params_solid : (line number : ℕ) (ps : List Param) → IsSolid (params_code line number ps)
params_solid line number [] = nothing_solid
params_solid line number (p ∷ ps) = then_solid (one_solid _ line) (params_solid line (suc number) ps)

-- ---- statements

pub caught_solid : (locals : List ℕ) (line : ℕ) (n : Option ℕ) → IsSolid (caught locals line n)
caught_solid locals line None = one_solid _ line
caught_solid locals line (Some n) = one_solid _ line

pub uncaught_solid : (locals : List ℕ) (line : ℕ) (n : Option ℕ) → IsSolid (uncaught locals line n)
uncaught_solid locals line None = nothing_solid
uncaught_solid locals line (Some n) = one_solid _ line

-- what a clause does with an exception that it takes
pub clause_solid : (locals : List ℕ) (line : ℕ) (n : Option ℕ) {body : Piece} → IsSolid body → IsSolid (caught locals line n ⨾ body ⨾ uncaught locals line n)
clause_solid locals line n s = then_solid (caught_solid locals line n) (then_solid s (uncaught_solid locals line n))

-- one piece or another
either_solid : (keeps : Bool) {a b : Piece} → IsSolid a → IsSolid b → IsSolid (cond keeps a b)
either_solid true s t = s
either_solid false s t = t

mutual
  pub kind_solid : (at : Place) (line : ℕ) (kind : StmtKind) → IsSolid (kind_code at line kind)
  kind_solid at line pass = nothing_solid
  kind_solid at line break = either_solid at.keeps (then_solid (one_solid _ line) (out_solid line)) (out_solid line)
  kind_solid at line continue = again_solid line
  kind_solid at line ellipsis = nothing_solid
  kind_solid at line (return x) = with_op _ line (value_or_none_solid at.locals line x)
  kind_solid at line (raise x cause) = raised_solid at.locals line x cause
  kind_solid at line (assert test message) =
      then_solid (value_solid at.locals test) (over_solid op.JumpIfTrue line (then_solid (dropped_solid at.locals line message) (then_solid (one_solid _ line) (with_op _ line (one_solid _ line)))))
  kind_solid at line (import ps) = imports_solid at.locals line ps
  kind_solid at line (from path ps) = froms_solid at.locals line path ps
  kind_solid at line (global ns) = nothing_solid
  kind_solid at line (assign targets x) = then_solid (value_solid at.locals x) (put_all_solid at.locals line targets)
  kind_solid at line (augment target o x) = augmented_solid at.locals line target o x
  kind_solid at line (annotated target x) = annotates_solid at.locals line target x
  kind_solid at line (expression x) = with_op _ line (value_solid at.locals x)
  kind_solid at line (if arms otherwise) = arms_solid at line arms (body_solid at otherwise)
  kind_solid at line (while test body) = loop_solid op.JumpIfFalse line (value_solid at.locals test) (body_solid (in_while at) body)
  kind_solid at line (for target through body) = then_solid (value_solid at.locals through) (loop_solid op.ForNext line nothing_solid (then_solid (put_solid at.locals target) (body_solid (in_for at) body)))
  kind_solid at line (try body handlers otherwise) = guarded_solid at.depth line (body_solid at body) (body_solid at otherwise) (then_solid (one_solid _ line) (handlers_solid at line handlers))
  kind_solid at line (def f) = defines_solid line f
  kind_solid at line (class c) = class_solid line c

  pub body_solid : (at : Place) (body : Stmts) → IsSolid (body_code at body)
  body_solid at no_stmts = nothing_solid
  body_solid at (stmt (statement kind line) rest) = then_solid (kind_solid at line kind) (body_solid at rest)

  pub arms_solid : (at : Place) (line : ℕ) (arms : Arms) {otherwise : Piece} → IsSolid otherwise → IsSolid (arms_code at line arms otherwise)
  arms_solid at line no_arms s = s
  arms_solid at line (arm test body rest) s = then_solid (value_solid at.locals test) (fork_solid line (body_solid at body) (arms_solid at line rest s))

  pub handlers_solid : (at : Place) (line : ℕ) (handlers : Handlers) → IsSolid (handlers_code at line handlers)
  handlers_solid at line no_handlers = with_op _ line (one_solid _ line)
  handlers_solid at line (handler None n body own rest) = past_solid own (clause_solid at.locals own n (body_solid at body)) (handlers_solid at line rest)
  handlers_solid at line (handler (Some x) n body own rest) = then_solid (value_solid at.locals x) (then_solid (one_solid _ own) (fork_solid own (clause_solid at.locals own n (body_solid at body)) (handlers_solid at line rest)))

-- the clauses of a `try`, from the place on where its range leads
pub catch_solid : (at : Place) (line : ℕ) (handlers : Handlers) → IsSolid (one op.Caught line ⨾ handlers_code at line handlers)
catch_solid at line handlers = then_solid (one_solid _ line) (handlers_solid at line handlers)
