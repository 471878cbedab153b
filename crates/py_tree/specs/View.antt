-- The tree that a value of the Rust types is.
use Rattle.std.specs.Prelude.{ℕ, List, [], ◌∷◌, Option, Some, None, option_map, map, Box}
use Rattle.std.specs.Global.{Global}
use Rattle.py_tree.specs.declared.definition.ClassDef as rust_class
use Rattle.py_tree.specs.declared.definition.ClassDef.{fold-ClassDef}
use Rattle.py_tree.specs.declared.definition.FunDef as rust_fun
use Rattle.py_tree.specs.declared.definition.FunDef.{fold-FunDef}
use Rattle.py_tree.specs.declared.definition.Member as rust_member
use Rattle.py_tree.specs.declared.definition.Member.{fold-Member}
use Rattle.py_tree.specs.declared.definition.Member.TheOpen.{Member-F, StmtKind-F, ClassDef-F, FunDef-F, Arm-F, Handler-F, Stmt-F}
use Rattle.py_tree.specs.declared.definition.Param as rust_param
use Rattle.py_tree.specs.declared.expression.Arg as rust_arg
use Rattle.py_tree.specs.declared.expression.Arg.{fold-Arg}
use Rattle.py_tree.specs.declared.expression.Expr as rust_expr
use Rattle.py_tree.specs.declared.expression.Expr.{fold-Expr}
use Rattle.py_tree.specs.declared.expression.ExprKind as rust_expr_kind
use Rattle.py_tree.specs.declared.expression.ExprKind.{fold-ExprKind}
use Rattle.py_tree.specs.declared.expression.ExprKind.TheOpen.{ExprKind-F, Arg-F, Expr-F, Pair-F}
use Rattle.py_tree.specs.declared.expression.Pair as rust_pair
use Rattle.py_tree.specs.declared.expression.Pair.{fold-Pair}
use Rattle.py_tree.specs.declared.module.Module as rust_module
use Rattle.py_tree.specs.declared.statement.Arm as rust_arm
use Rattle.py_tree.specs.declared.statement.Arm.{fold-Arm}
use Rattle.py_tree.specs.declared.statement.FromPart as rust_from
use Rattle.py_tree.specs.declared.statement.Handler as rust_handler
use Rattle.py_tree.specs.declared.statement.Handler.{fold-Handler}
use Rattle.py_tree.specs.declared.statement.ImportPart as rust_import
use Rattle.py_tree.specs.declared.statement.Stmt as rust_stmt
use Rattle.py_tree.specs.declared.statement.Stmt.{fold-Stmt}
use Rattle.py_tree.specs.declared.statement.StmtKind as rust_stmt_kind
use Rattle.py_tree.specs.declared.statement.StmtKind.{fold-StmtKind}
use Rattle.py_tree.specs.Tree.{Expr, node, ExprKind, name, literal, unary, binary, compare, not, and, or, choice, attr, super, item, slice, call, tuple, list, dict, Exprs, no_exprs, expr, Bound, no_bound, bound, Args, no_args, arg, Pairs, no_pairs, pair, Stmt, statement, StmtKind, pass, break, continue, ellipsis, return, raise, assert, import, from, global, assign, augment, annotated, expression, if, while, for, try, def, class, Stmts, no_stmts, stmt, Arms, no_arms, arm, Handlers, no_handlers, handler, FunDef, fun_def, ClassDef, class_def, Member, pass_member, ellipsis_member, text, value, declared, method, Members, no_members, member, ImportPart, FromPart, Param, Module}

-- ---- expressions

-- an argument's and a pair's parts
abbrev pub Arg : Type 0
Arg = Option ℕ × Expr

abbrev pub Pair : Type 0
Pair = Expr × Expr

abbrev pub exprs_of : List Expr → Exprs
exprs_of [] = no_exprs
exprs_of (x ∷ xs) = expr x (exprs_of xs)

abbrev pub bound_of : Option (Box Expr Global) → Bound
bound_of None = no_bound
bound_of (Some x) = bound x.value

abbrev pub args_of : List Arg → Args
args_of [] = no_args
args_of (a ∷ as') = arg a.0 a.1 (args_of as')

abbrev pub pairs_of : List Pair → Pairs
pairs_of [] = no_pairs
pairs_of (p ∷ ps) = pair p.0 p.1 (pairs_of ps)

abbrev pub expr_kind_step : ExprKind-F ExprKind Arg Expr Pair → ExprKind
expr_kind_step (ExprKind-F.Name n) = name n
expr_kind_step (ExprKind-F.Literal l) = literal l
expr_kind_step (ExprKind-F.Unary op a) = unary op a.value
expr_kind_step (ExprKind-F.Binary op a b) = binary op a.value b.value
expr_kind_step (ExprKind-F.Compare op a b) = compare op a.value b.value
expr_kind_step (ExprKind-F.Not a) = not a.value
expr_kind_step (ExprKind-F.And a b) = and a.value b.value
expr_kind_step (ExprKind-F.Or a b) = or a.value b.value
expr_kind_step (ExprKind-F.Choice a b c) = choice a.value b.value c.value
expr_kind_step (ExprKind-F.Attr a n) = attr a.value n
expr_kind_step (ExprKind-F.Super n) = super n
expr_kind_step (ExprKind-F.Item a b) = item a.value b.value
expr_kind_step (ExprKind-F.Slice a b c d) = slice a.value (bound_of b) (bound_of c) (bound_of d)
expr_kind_step (ExprKind-F.Call a xs) = call a.value (args_of xs.items)
expr_kind_step (ExprKind-F.Tuple xs) = tuple (exprs_of xs.items)
expr_kind_step (ExprKind-F.List xs) = list (exprs_of xs.items)
expr_kind_step (ExprKind-F.Dict xs) = dict (pairs_of xs.items)

abbrev pub arg_step : Arg-F ExprKind Arg Expr Pair → Arg
arg_step a = (a.name, a.value)

abbrev pub expr_step : Expr-F ExprKind Arg Expr Pair → Expr
expr_step e = node e.kind e.line e.site

abbrev pub pair_step : Pair-F ExprKind Arg Expr Pair → Pair
pair_step p = (p.key, p.value)

abbrev pub expr_view : rust_expr.Expr → Expr
expr_view = fold-Expr ExprKind Arg Expr Pair expr_kind_step arg_step expr_step pair_step

abbrev pub expr_kind_view : rust_expr_kind.ExprKind → ExprKind
expr_kind_view = fold-ExprKind ExprKind Arg Expr Pair expr_kind_step arg_step expr_step pair_step

abbrev pub arg_view : rust_arg.Arg → Arg
arg_view = fold-Arg ExprKind Arg Expr Pair expr_kind_step arg_step expr_step pair_step

abbrev pub pair_view : rust_pair.Pair → Pair
pair_view = fold-Pair ExprKind Arg Expr Pair expr_kind_step arg_step expr_step pair_step

abbrev pub bound_view : Option (Box rust_expr.Expr Global) → Bound
bound_view None = no_bound
bound_view (Some x) = bound (expr_view x.value)

abbrev pub exprs_view : List rust_expr.Expr → Exprs
exprs_view xs = exprs_of (map expr_view xs)

abbrev pub args_view : List rust_arg.Arg → Args
args_view xs = args_of (map arg_view xs)

abbrev pub pairs_view : List rust_pair.Pair → Pairs
pairs_view xs = pairs_of (map pair_view xs)

-- ---- statements

-- an arm's and a handler's parts
abbrev pub Arm : Type 0
Arm = Expr × Stmts

abbrev pub Handler : Type 0
Handler = Option Expr × Option ℕ × Stmts × ℕ

abbrev pub stmts_of : List Stmt → Stmts
stmts_of [] = no_stmts
stmts_of (x ∷ xs) = stmt x (stmts_of xs)

abbrev pub arms_of : List Arm → Arms
arms_of [] = no_arms
arms_of (a ∷ as') = arm a.0 a.1 (arms_of as')

abbrev pub handlers_of : List Handler → Handlers
handlers_of [] = no_handlers
handlers_of (h ∷ hs) = handler h.0 h.1 h.2 h.3 (handlers_of hs)

abbrev pub members_of : List Member → Members
members_of [] = no_members
members_of (m ∷ ms) = member m (members_of ms)

abbrev pub import_view : rust_import.ImportPart → ImportPart
import_view p = record { path = p.path.items; alias = p.alias }

abbrev pub from_view : rust_from.FromPart → FromPart
from_view p = record { name = p.name; alias = p.alias }

abbrev pub param_view : rust_param.Param → Param
param_view p = record { name = p.name; default = p.default }

abbrev pub stmt_kind_step : StmtKind-F Member StmtKind ClassDef FunDef Arm Handler Stmt → StmtKind
stmt_kind_step StmtKind-F.StmtKind::Pass = pass
stmt_kind_step StmtKind-F.Break = break
stmt_kind_step StmtKind-F.Continue = continue
stmt_kind_step StmtKind-F.StmtKind::Ellipsis = ellipsis
stmt_kind_step (StmtKind-F.Return o) = return (option_map expr_view o)
stmt_kind_step (StmtKind-F.Raise o c) = raise (option_map expr_view o) (option_map expr_view c)
stmt_kind_step (StmtKind-F.Assert x o) = assert (expr_view x) (option_map expr_view o)
stmt_kind_step (StmtKind-F.Import ps) = import (map import_view ps.items)
stmt_kind_step (StmtKind-F.From path ps) = from path.items (map from_view ps.items)
stmt_kind_step (StmtKind-F.Global ns) = global ns.items
stmt_kind_step (StmtKind-F.Assign xs x) = assign (exprs_view xs.items) (expr_view x)
stmt_kind_step (StmtKind-F.Augment x op y) = augment (expr_view x) op (expr_view y)
stmt_kind_step (StmtKind-F.StmtKind::Annotated x o) = annotated (expr_view x) (option_map expr_view o)
stmt_kind_step (StmtKind-F.Expression x) = expression (expr_view x)
stmt_kind_step (StmtKind-F.If arms otherwise) = if (arms_of arms.items) (stmts_of otherwise.items)
stmt_kind_step (StmtKind-F.While test body) = while (expr_view test) (stmts_of body.items)
stmt_kind_step (StmtKind-F.For target through body) = for (expr_view target) (expr_view through) (stmts_of body.items)
stmt_kind_step (StmtKind-F.Try body handlers otherwise) = try (stmts_of body.items) (handlers_of handlers.items) (stmts_of otherwise.items)
stmt_kind_step (StmtKind-F.Def f) = def f
stmt_kind_step (StmtKind-F.Class c) = class c

abbrev pub member_step : Member-F Member StmtKind ClassDef FunDef Arm Handler Stmt → Member
member_step Member-F.Member::Pass = pass_member
member_step Member-F.Member::Ellipsis = ellipsis_member
member_step Member-F.Text = text
member_step (Member-F.Value n x line) = value n (expr_view x) line
member_step (Member-F.Member::Annotated n o line) = declared n (option_map expr_view o) line
member_step (Member-F.Method f) = method f

abbrev pub arm_step : Arm-F Member StmtKind ClassDef FunDef Arm Handler Stmt → Arm
arm_step a = (expr_view a.test, stmts_of a.body.items)

abbrev pub class_step : ClassDef-F Member StmtKind ClassDef FunDef Arm Handler Stmt → ClassDef
class_step c = class_def c.id c.name c.base (members_of c.members.items) c.line

abbrev pub fun_step : FunDef-F Member StmtKind ClassDef FunDef Arm Handler Stmt → FunDef
fun_step f = fun_def f.id f.name (map param_view f.params.items) (stmts_of f.body.items) f.line

abbrev pub handler_step : Handler-F Member StmtKind ClassDef FunDef Arm Handler Stmt → Handler
handler_step h = (option_map expr_view h.class, h.name, stmts_of h.body.items, h.line)

abbrev pub stmt_step : Stmt-F Member StmtKind ClassDef FunDef Arm Handler Stmt → Stmt
stmt_step s = statement s.kind s.line

abbrev pub stmt_view : rust_stmt.Stmt → Stmt
stmt_view = fold-Stmt Member StmtKind ClassDef FunDef Arm Handler Stmt member_step stmt_kind_step class_step fun_step arm_step handler_step stmt_step

abbrev pub stmt_kind_view : rust_stmt_kind.StmtKind → StmtKind
stmt_kind_view = fold-StmtKind Member StmtKind ClassDef FunDef Arm Handler Stmt member_step stmt_kind_step class_step fun_step arm_step handler_step stmt_step

abbrev pub arm_view : rust_arm.Arm → Arm
arm_view = fold-Arm Member StmtKind ClassDef FunDef Arm Handler Stmt member_step stmt_kind_step class_step fun_step arm_step handler_step stmt_step

abbrev pub handler_view : rust_handler.Handler → Handler
handler_view = fold-Handler Member StmtKind ClassDef FunDef Arm Handler Stmt member_step stmt_kind_step class_step fun_step arm_step handler_step stmt_step

abbrev pub fun_view : rust_fun.FunDef → FunDef
fun_view = fold-FunDef Member StmtKind ClassDef FunDef Arm Handler Stmt member_step stmt_kind_step class_step fun_step arm_step handler_step stmt_step

abbrev pub class_view : rust_class.ClassDef → ClassDef
class_view = fold-ClassDef Member StmtKind ClassDef FunDef Arm Handler Stmt member_step stmt_kind_step class_step fun_step arm_step handler_step stmt_step

abbrev pub member_view : rust_member.Member → Member
member_view = fold-Member Member StmtKind ClassDef FunDef Arm Handler Stmt member_step stmt_kind_step class_step fun_step arm_step handler_step stmt_step

abbrev pub stmts_view : List rust_stmt.Stmt → Stmts
stmts_view xs = stmts_of (map stmt_view xs)

abbrev pub arms_view : List rust_arm.Arm → Arms
arms_view xs = arms_of (map arm_view xs)

abbrev pub handlers_view : List rust_handler.Handler → Handlers
handlers_view xs = handlers_of (map handler_view xs)

abbrev pub members_view : List rust_member.Member → Members
members_view xs = members_of (map member_view xs)

abbrev pub module_view : rust_module.Module → Module
module_view m = record { body = stmts_view m.body.items; names = m.names }
