-- The lines of the nodes of a module whose form isn't built, in the order of the text.
use Rattle.std.specs.Prelude.{ℕ, Bool, true, false, List, [], ◌∷◌, ◌++◌, Option, Some, None}
use Rattle.py_tree.specs.Tree.{Expr, node, ExprKind, name, literal, unary, binary, compare, not, and, or, choice, attr, super, item, slice, call, tuple, list, dict, Exprs, no_exprs, expr, Bound, no_bound, bound, Args, no_args, arg, Pairs, no_pairs, pair, Stmt, statement, StmtKind, pass, break, continue, ellipsis, return, raise, assert, import, from, global, assign, augment, annotated, expression, if, while, for, try, def, class, Stmts, no_stmts, stmt, Arms, no_arms, arm, Handlers, no_handlers, handler, FunDef, fun_def, ClassDef, class_def, Member, pass_member, ellipsis_member, text, value, declared, method, Members, no_members, member, Module}
use Rattle.built_forms.specs.Forms.{is_built, is_built_expr, assigned_name}
use Rattle.built_forms.specs.Known.{with_option}

-- the line of a node that isn't built
abbrev pub unless : Bool → ℕ → List ℕ
unless true line = []
unless false line = line ∷ []

-- of an expression and its parts, where these names are assigned
abbrev mutual
  pub in_expr : List ℕ → Expr → List ℕ
  in_expr known (node kind line site) = unless (is_built_expr known kind) line ++ in_parts known kind

  pub in_parts : List ℕ → ExprKind → List ℕ
  in_parts known (name n) = []
  in_parts known (literal l) = []
  in_parts known (unary op a) = in_expr known a
  in_parts known (binary op a b) = in_expr known a ++ in_expr known b
  in_parts known (compare op a b) = in_expr known a ++ in_expr known b
  in_parts known (not a) = in_expr known a
  in_parts known (and a b) = in_expr known a ++ in_expr known b
  in_parts known (or a b) = in_expr known a ++ in_expr known b
  in_parts known (choice a b c) = in_expr known a ++ in_expr known b ++ in_expr known c
  in_parts known (attr a n) = in_expr known a
  in_parts known (super n) = []
  in_parts known (item a b) = in_expr known a ++ in_expr known b
  in_parts known (slice a b c d) = in_expr known a ++ in_bound known b ++ in_bound known c ++ in_bound known d
  in_parts known (call a xs) = in_expr known a ++ in_args known xs
  in_parts known (tuple xs) = in_exprs known xs
  in_parts known (list xs) = in_exprs known xs
  in_parts known (dict xs) = in_pairs known xs

  pub in_exprs : List ℕ → Exprs → List ℕ
  in_exprs known no_exprs = []
  in_exprs known (expr x xs) = in_expr known x ++ in_exprs known xs

  pub in_bound : List ℕ → Bound → List ℕ
  in_bound known no_bound = []
  in_bound known (bound x) = in_expr known x

  pub in_args : List ℕ → Args → List ℕ
  in_args known no_args = []
  in_args known (arg n x xs) = in_expr known x ++ in_args known xs

  pub in_pairs : List ℕ → Pairs → List ℕ
  in_pairs known no_pairs = []
  in_pairs known (pair k x xs) = in_expr known k ++ in_expr known x ++ in_pairs known xs

abbrev pub in_option : List ℕ → Option Expr → List ℕ
in_option known None = []
in_option known (Some x) = in_expr known x

-- Of a target. A name as a target is no read of it; no other target is built.
abbrev mutual
  pub in_target : List ℕ → Expr → List ℕ
  in_target known (node (name n) line site) = []
  in_target known (node (tuple xs) line site) = line ∷ in_targets known xs
  in_target known (node (list xs) line site) = line ∷ in_targets known xs
  in_target known (node kind line site) = line ∷ in_parts known kind

  pub in_targets : List ℕ → Exprs → List ℕ
  in_targets known no_exprs = []
  in_targets known (expr x xs) = in_target known x ++ in_targets known xs

-- of a statement and its parts
abbrev mutual
  pub in_stmt : List ℕ → Stmt → List ℕ
  in_stmt known (statement kind line) = unless (is_built kind) line ++ in_kind known kind

  pub in_kind : List ℕ → StmtKind → List ℕ
  in_kind known pass = []
  in_kind known break = []
  in_kind known continue = []
  in_kind known ellipsis = []
  in_kind known (import parts) = []
  in_kind known (from path parts) = []
  in_kind known (global names) = []
  in_kind known (return o) = in_option known o
  in_kind known (raise o c) = in_option known o ++ in_option known c
  in_kind known (assert x o) = in_expr known x ++ in_option known o
  in_kind known (assign xs x) = in_targets known xs ++ in_expr known x
  in_kind known (augment x op y) = in_expr known x ++ in_expr known y
  in_kind known (annotated x o) = in_target known x ++ in_option known o
  in_kind known (expression x) = in_expr known x
  in_kind known (if arms otherwise) = in_arms known arms ++ in_stmts known otherwise
  in_kind known (while test body) = in_expr known test ++ in_stmts known body
  in_kind known (for target through body) = in_target known target ++ in_expr known through ++ in_stmts known body
  in_kind known (try body handlers otherwise) = in_stmts known body ++ in_handlers known handlers ++ in_stmts known otherwise
  in_kind known (def f) = in_fun known f
  in_kind known (class c) = in_class known c

  pub in_stmts : List ℕ → Stmts → List ℕ
  in_stmts known no_stmts = []
  in_stmts known (stmt s rest) = in_stmt known s ++ in_stmts known rest

  pub in_arms : List ℕ → Arms → List ℕ
  in_arms known no_arms = []
  in_arms known (arm test body rest) = in_expr known test ++ in_stmts known body ++ in_arms known rest

  pub in_handlers : List ℕ → Handlers → List ℕ
  in_handlers known no_handlers = []
  in_handlers known (handler caught n body line rest) = line ∷ [] ++ in_option known caught ++ in_stmts known body ++ in_handlers known rest

  pub in_fun : List ℕ → FunDef → List ℕ
  in_fun known (fun_def id n params body line) = line ∷ in_stmts known body

  pub in_class : List ℕ → ClassDef → List ℕ
  in_class known (class_def id n base members line) = line ∷ in_members known members

  pub in_member : List ℕ → Member → List ℕ
  in_member known pass_member = []
  in_member known ellipsis_member = []
  in_member known text = []
  in_member known (value n x line) = line ∷ in_expr known x
  in_member known (declared n o line) = line ∷ in_option known o
  in_member known (method f) = in_fun known f

  pub in_members : List ℕ → Members → List ℕ
  in_members known no_members = []
  in_members known (member m rest) = in_member known m ++ in_members known rest

-- Of the statements of a module's own body. What is assigned is what earlier ones of them assign; parts of a statement see
-- what those before the statement assign.
abbrev pub kind_of : Stmt → StmtKind
kind_of (statement kind line) = kind

abbrev pub in_body : List ℕ → Stmts → List ℕ
in_body known no_stmts = []
in_body known (stmt s rest) = in_stmt known s ++ in_body (with_option known (assigned_name (kind_of s))) rest

abbrev pub unbuilt : Module → List ℕ
unbuilt m = in_body [] m.body
