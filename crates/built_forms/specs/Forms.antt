-- Which forms are built so far. They are those of a plain module: `NAME = VALUE`, where VALUE is a literal or a name that an
-- earlier statement assigns (language reference, "Assignment statements", "Literals", "Identifiers (Names)").
use Rattle.std.specs.Prelude.{ℕ, Bool, true, false, List, Option, Some, None}
use Rattle.std.specs.Option.{is_some}
use Rattle.py_tree.specs.Tree.{Expr, node, ExprKind, name, literal, Exprs, no_exprs, expr, StmtKind, assign}
use Rattle.built_forms.specs.Known.{is_known}

-- the name that a node is
abbrev pub name_of : Expr → Option ℕ
name_of (node (name n) line site) = Some n
name_of _ = None

-- one target, which is a name
abbrev pub single_name : Exprs → Option ℕ
single_name (expr target no_exprs) = name_of target
single_name _ = None

-- the name that a statement of a built form assigns
abbrev pub assigned_name : StmtKind → Option ℕ
assigned_name (assign targets value) = single_name targets
assigned_name _ = None

-- a statement's form is built
abbrev pub is_built : StmtKind → Bool
is_built kind = is_some (assigned_name kind)

-- an expression's form is built, where these names are assigned
abbrev pub is_built_expr : List ℕ → ExprKind → Bool
is_built_expr known (literal l) = true
is_built_expr known (name n) = is_known known n
is_built_expr known _ = false
