-- The forms of which runs are covered: operators, branches and `while`, on names and literals.
use Rattle.std.specs.Prelude.{Some, None}
use Rattle.py_tree.specs.Tree.{Expr, node, name, literal, unary, binary, compare, not, and, or, choice, Exprs, no_exprs, expr, statement, StmtKind, pass, break, continue, ellipsis, raise, global, assign, augment, annotated, expression, if, while, Stmts, no_stmts, stmt, Arms, no_arms, arm}

-- ---- expressions

abbrev pub IsPlain : Expr → Type 0
IsPlain (node (name n) line site) = Unit {0}
IsPlain (node (literal x) line site) = Unit {0}
IsPlain (node (unary o a) line site) = IsPlain a
IsPlain (node (binary o a b) line site) = IsPlain a × IsPlain b
IsPlain (node (compare o a b) line site) = IsPlain a × IsPlain b
IsPlain (node (not a) line site) = IsPlain a
IsPlain (node (and a b) line site) = IsPlain a × IsPlain b
IsPlain (node (or a b) line site) = IsPlain a × IsPlain b
IsPlain (node (choice a test b) line site) = IsPlain a × IsPlain test × IsPlain b
IsPlain (node _ line site) = ⊥

-- each target is a name
abbrev pub AreNames : Exprs → Type 0
AreNames no_exprs = Unit {0}
AreNames (expr (node (name n) line site) rest) = AreNames rest
AreNames (expr (node _ line site) rest) = ⊥

-- ---- statements

abbrev mutual
  pub IsPlainKind : StmtKind → Type 0
  IsPlainKind pass = Unit {0}
  IsPlainKind break = Unit {0}
  IsPlainKind continue = Unit {0}
  IsPlainKind ellipsis = Unit {0}
  IsPlainKind (raise None None) = Unit {0}
  IsPlainKind (global ns) = Unit {0}
  IsPlainKind (assign targets x) = AreNames targets × IsPlain x
  IsPlainKind (augment (node (name n) line site) o x) = IsPlain x
  IsPlainKind (annotated (node (name n) line site) None) = Unit {0}
  IsPlainKind (annotated (node (name n) line site) (Some x)) = IsPlain x
  IsPlainKind (expression x) = IsPlain x
  IsPlainKind (if arms otherwise) = ArePlainArms arms × IsPlainBody otherwise
  IsPlainKind (while test body) = IsPlain test × IsPlainBody body
  IsPlainKind _ = ⊥

  pub IsPlainBody : Stmts → Type 0
  IsPlainBody no_stmts = Unit {0}
  IsPlainBody (stmt (statement kind line) rest) = IsPlainKind kind × IsPlainBody rest

  pub ArePlainArms : Arms → Type 0
  ArePlainArms no_arms = Unit {0}
  ArePlainArms (arm test body rest) = IsPlain test × IsPlainBody body × ArePlainArms rest
