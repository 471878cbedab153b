-- The depths at which the instructions of a tree's code stand, in their order, where the first stands at a depth.
use Rattle.std.specs.Prelude.{◌≡◌, ℕ, suc, zero, ◌+◌, ◌-◌, ◌*◌, cond, Option, Some, None, List, [], ◌∷◌, ◌++◌, length}
use Rattle.py_tree.specs.Tree.{Expr, node, name, literal, unary, binary, compare, not, and, or, choice, attr, super, item, slice, call, tuple, list, dict, Exprs, no_exprs, expr, Bound, no_bound, bound, Args, no_args, arg, Pairs, no_pairs, pair, ImportPart, FromPart, Param, Stmt, statement, StmtKind, pass, break, continue, ellipsis, return, raise, assert, import, from, global, assign, augment, annotated, expression, if, while, for, try, def, class, Stmts, no_stmts, stmt, Arms, no_arms, arm, Handlers, no_handlers, handler, FunDef, ClassDef, class_def, Member, declared, Members, no_members, member}
use Rattle.py_tree.specs.Tree as tree
use Rattle.stack_code.specs.declared.code.Code.{Code}
use Rattle.stack_code.specs.Depths.{HasDepth}
use Rattle.tree_code.specs.Expressions.{count, pair_count, positionals, keywords}
use Rattle.tree_code.specs.Statements.{Place, in_while, in_for}
use Rattle.tree_code.specs.Programs.{in_module, in_function, params_of, statements_of}

-- these depths, and then the others
infixr 4 ◌⊕◌
abbrev pub ◌⊕◌ : List ℕ → List ℕ → List ℕ
own ⊕ others = own ++ others

-- each of the places from this one on that has a depth has the listed one
abbrev pub DepthsAt : Code → ℕ → List ℕ → Type 0
DepthsAt code place [] = Unit {0}
DepthsAt code place (d ∷ ds) = ((depth : ℕ) → HasDepth code place depth → depth ≡ d) × DepthsAt code (suc place) ds

-- ---- expressions, from a depth on

abbrev mutual
  pub value_depths : Expr → ℕ → List ℕ
  value_depths (node (name n) line site) d = d ∷ []
  value_depths (node (literal x) line site) d = d ∷ []
  value_depths (node (unary o a) line site) d = value_depths a d ⊕ suc d ∷ []
  value_depths (node (binary o a b) line site) d = value_depths a d ⊕ value_depths b (suc d) ⊕ suc (suc d) ∷ []
  value_depths (node (compare o a b) line site) d = value_depths a d ⊕ value_depths b (suc d) ⊕ suc (suc d) ∷ []
  value_depths (node (not a) line site) d = value_depths a d ⊕ suc d ∷ []
  value_depths (node (and a b) line site) d = value_depths a d ⊕ suc d ∷ value_depths b d
  value_depths (node (or a b) line site) d = value_depths a d ⊕ suc d ∷ value_depths b d
  value_depths (node (choice a test b) line site) d = value_depths test d ⊕ suc d ∷ value_depths a d ⊕ suc d ∷ value_depths b d
  value_depths (node (attr a n) line site) d = value_depths a d ⊕ suc d ∷ []
  value_depths (node (super n) line site) d = d ∷ []
  value_depths (node (item a i) line site) d = value_depths a d ⊕ value_depths i (suc d) ⊕ suc (suc d) ∷ []
  value_depths (node (slice a b c e) line site) d = value_depths a d ⊕ bound_depths b (suc d) ⊕ bound_depths c (suc (suc d)) ⊕ bound_depths e (suc (suc (suc d))) ⊕ suc (suc (suc (suc d))) ∷ []
  value_depths (node (call f xs) line site) d = value_depths f d ⊕ argument_depths xs (suc d) ⊕ (suc d + (positionals xs + length (keywords xs))) ∷ []
  value_depths (node (tuple xs) line site) d = values_depths xs d ⊕ (d + count xs) ∷ []
  value_depths (node (list xs) line site) d = values_depths xs d ⊕ (d + count xs) ∷ []
  value_depths (node (dict ps) line site) d = pairs_depths ps d ⊕ (d + 2 * pair_count ps) ∷ []

  pub values_depths : Exprs → ℕ → List ℕ
  values_depths no_exprs d = []
  values_depths (expr x xs) d = value_depths x d ⊕ values_depths xs (suc d)

  pub bound_depths : Bound → ℕ → List ℕ
  bound_depths no_bound d = d ∷ []
  bound_depths (bound x) d = value_depths x d

  pub argument_depths : Args → ℕ → List ℕ
  argument_depths no_args d = []
  argument_depths (arg n x xs) d = value_depths x d ⊕ argument_depths xs (suc d)

  pub pairs_depths : Pairs → ℕ → List ℕ
  pairs_depths no_pairs d = []
  pairs_depths (pair k x ps) d = value_depths k d ⊕ value_depths x (suc d) ⊕ pairs_depths ps (suc (suc d))

-- ---- targets, where the value to be stored lies on a stack of a depth

abbrev pub parts_depths : ℕ → ℕ → List ℕ
parts_depths zero d = []
parts_depths (suc part) d = d ∷ parts_depths part (suc d)

abbrev mutual
  pub put_depths : Expr → ℕ → List ℕ
  put_depths (node (attr a n) line site) d = value_depths a (suc d) ⊕ suc (suc d) ∷ suc (suc (suc d)) ∷ suc d ∷ []
  put_depths (node (item a i) line site) d = value_depths a (suc d) ⊕ value_depths i (suc (suc d)) ⊕ suc (suc (suc d)) ∷ suc (suc (suc (suc d))) ∷ suc d ∷ []
  put_depths (node (tuple xs) line site) d = parts_depths (count xs) (suc d) ⊕ puts_depths xs (suc d) ⊕ suc d ∷ []
  put_depths (node (list xs) line site) d = parts_depths (count xs) (suc d) ⊕ puts_depths xs (suc d) ⊕ suc d ∷ []
  put_depths (node _ line site) d = suc d ∷ []

  pub puts_depths : Exprs → ℕ → List ℕ
  puts_depths no_exprs d = []
  puts_depths (expr x xs) d = put_depths x (d + count xs) ⊕ puts_depths xs d

-- ---- simple statements, from a depth on

abbrev pub value_or_none_depths : Option Expr → ℕ → List ℕ
value_or_none_depths None d = d ∷ []
value_or_none_depths (Some x) d = value_depths x d

abbrev pub dropped_depths : Option Expr → ℕ → List ℕ
dropped_depths None d = []
dropped_depths (Some x) d = value_depths x d ⊕ suc d ∷ []

abbrev pub raised_depths : Option Expr → Option Expr → ℕ → List ℕ
raised_depths None cause d = d ∷ []
raised_depths (Some x) cause d = value_depths x d ⊕ dropped_depths cause (suc d) ⊕ suc d ∷ suc d ∷ []

abbrev pub imports_depths : List ImportPart → ℕ → List ℕ
imports_depths [] d = []
imports_depths (p ∷ ps) d = d ∷ suc d ∷ imports_depths ps d

abbrev pub froms_depths : List FromPart → ℕ → List ℕ
froms_depths [] d = []
froms_depths (p ∷ ps) d = d ∷ suc d ∷ froms_depths ps d

abbrev pub put_all_depths : Exprs → ℕ → List ℕ
put_all_depths no_exprs d = suc d ∷ []
put_all_depths (expr x no_exprs) d = put_depths x d
put_all_depths (expr x xs) d = suc d ∷ put_depths x (suc d) ⊕ put_all_depths xs d

abbrev pub augmented_depths : Expr → Expr → ℕ → List ℕ
augmented_depths (node (name n) at site) x d = d ∷ value_depths x (suc d) ⊕ suc (suc d) ∷ suc d ∷ []
augmented_depths (node (attr a n) at site) x d = value_depths a d ⊕ suc d ∷ suc (suc d) ∷ value_depths x (suc (suc d)) ⊕ suc (suc (suc d)) ∷ suc (suc d) ∷ []
augmented_depths (node (item a i) at site) x d =
    value_depths a d ⊕ value_depths i (suc d) ⊕ suc (suc d) ∷ suc (suc (suc d)) ∷ suc (suc (suc (suc d))) ∷ value_depths x (suc (suc (suc d))) ⊕ suc (suc (suc (suc d))) ∷ suc (suc (suc d)) ∷ []
augmented_depths (node _ at site) x d = []

abbrev pub annotates_depths : Expr → Option Expr → ℕ → List ℕ
annotates_depths target (Some x) d = value_depths x d ⊕ put_depths target d
annotates_depths (node (attr a n) at site) None d = value_depths a d ⊕ suc d ∷ []
annotates_depths (node _ at site) None d = []

abbrev pub member_depths : Members → ℕ → List ℕ
member_depths no_members d = []
member_depths (member (tree.value n x line) ms) d = value_depths x d ⊕ suc d ∷ member_depths ms d
member_depths (member (declared n (Some x) line) ms) d = value_depths x d ⊕ suc d ∷ member_depths ms d
member_depths (member _ ms) d = member_depths ms d

abbrev pub class_depths : ClassDef → ℕ → List ℕ
class_depths (class_def id n base inside at) d = member_depths inside d ⊕ d ∷ suc d ∷ []

abbrev pub params_depths : List Param → ℕ → List ℕ
params_depths [] d = []
params_depths (p ∷ ps) d = d ∷ params_depths ps d

-- the name of a clause is unbound where it ends
abbrev pub uncaught_depths : Option ℕ → ℕ → List ℕ
uncaught_depths None d = []
uncaught_depths (Some n) d = d ∷ []

-- ---- statements, from the depth of their place on

abbrev mutual
  pub kind_depths : Place → StmtKind → List ℕ
  kind_depths at pass = []
  kind_depths at break = cond at.keeps (at.depth ∷ (at.depth - 1) ∷ []) (at.depth ∷ [])
  kind_depths at continue = at.depth ∷ []
  kind_depths at ellipsis = []
  kind_depths at (return x) = value_or_none_depths x at.depth ⊕ suc at.depth ∷ []
  kind_depths at (raise x cause) = raised_depths x cause at.depth
  kind_depths at (assert test message) = value_depths test at.depth ⊕ suc at.depth ∷ dropped_depths message at.depth ⊕ at.depth ∷ suc at.depth ∷ suc at.depth ∷ []
  kind_depths at (import ps) = imports_depths ps at.depth
  kind_depths at (from path ps) = froms_depths ps at.depth
  kind_depths at (global ns) = []
  kind_depths at (assign targets x) = value_depths x at.depth ⊕ put_all_depths targets at.depth
  kind_depths at (augment target o x) = augmented_depths target x at.depth
  kind_depths at (annotated target x) = annotates_depths target x at.depth
  kind_depths at (expression x) = value_depths x at.depth ⊕ suc at.depth ∷ []
  kind_depths at (if arms otherwise) = arms_depths at arms (body_depths at otherwise)
  kind_depths at (while test body) = value_depths test at.depth ⊕ suc at.depth ∷ body_depths (in_while at) body ⊕ at.depth ∷ []
  kind_depths at (for target through body) = value_depths through at.depth ⊕ suc at.depth ∷ (put_depths target (suc at.depth) ⊕ body_depths (in_for at) body) ⊕ suc at.depth ∷ []
  kind_depths at (try body handlers otherwise) = (body_depths at body ⊕ body_depths at otherwise) ⊕ at.depth ∷ at.depth ∷ handlers_depths at handlers
  kind_depths at (def f) = at.depth ∷ suc at.depth ∷ []
  kind_depths at (class c) = class_depths c at.depth

  pub body_depths : Place → Stmts → List ℕ
  body_depths at no_stmts = []
  body_depths at (stmt (statement kind line) rest) = kind_depths at kind ⊕ body_depths at rest

  pub arms_depths : Place → Arms → List ℕ → List ℕ
  arms_depths at no_arms otherwise = otherwise
  arms_depths at (arm test body rest) otherwise = value_depths test at.depth ⊕ suc at.depth ∷ body_depths at body ⊕ at.depth ∷ arms_depths at rest otherwise

  -- the exception lies on the stack where the clauses begin
  pub handlers_depths : Place → Handlers → List ℕ
  handlers_depths at no_handlers = suc at.depth ∷ at.depth ∷ []
  handlers_depths at (handler None n body own rest) = (suc at.depth ∷ body_depths at body ⊕ uncaught_depths n at.depth) ⊕ at.depth ∷ handlers_depths at rest
  handlers_depths at (handler (Some x) n body own rest) =
      value_depths x (suc at.depth) ⊕ suc (suc at.depth) ∷ suc (suc at.depth) ∷ (suc at.depth ∷ body_depths at body ⊕ uncaught_depths n at.depth) ⊕ at.depth ∷ handlers_depths at rest

-- ---- whole codes

abbrev pub module_depths : ℕ → Stmts → List ℕ
module_depths error body = body_depths (in_module error) body ⊕ 0 ∷ []

-- a function's parameters, its statements, and the return of None
abbrev pub fun_depths : ℕ → FunDef → List ℕ
fun_depths error f = (params_depths (params_of f) 0 ⊕ body_depths (in_function error f) (statements_of f) ⊕ 0 ∷ []) ⊕ 1 ∷ []
