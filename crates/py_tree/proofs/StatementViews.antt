-- What each kind of statement, and each member of a class, is in the tree.
use Rattle.std.proofs.Common.{◌≡◌, ℕ, Vec, Option, option_map, map, sym, ap, ◌∙◌}
use Rattle.std.specs.Global.{Global}
use Rattle.place_ids.specs.declared.operators.BinOp.{BinOp}
use Rattle.py_tree.specs.declared.definition.ClassDef as rust_class
use Rattle.py_tree.specs.declared.definition.ClassDef.{roll-ClassDef, fold-roll-ClassDef}
use Rattle.py_tree.specs.declared.definition.FunDef as rust_fun
use Rattle.py_tree.specs.declared.definition.FunDef.{roll-FunDef, fold-roll-FunDef}
use Rattle.py_tree.specs.declared.definition.Member as rust_member
use Rattle.py_tree.specs.declared.definition.Param as rust_param
use Rattle.py_tree.specs.declared.definition.Member.{fold-roll-Member}
use Rattle.py_tree.specs.declared.definition.Member.TheOpen.{Member-F, StmtKind-F}
use Rattle.py_tree.specs.declared.definition.Member.TheVariants as part
use Rattle.py_tree.specs.declared.expression.Expr as rust_expr
use Rattle.py_tree.specs.declared.statement.Arm as rust_arm
use Rattle.py_tree.specs.declared.statement.Arm.{roll-Arm, fold-roll-Arm}
use Rattle.py_tree.specs.declared.statement.FromPart as rust_from
use Rattle.py_tree.specs.declared.statement.Handler as rust_handler
use Rattle.py_tree.specs.declared.statement.Handler.{roll-Handler, fold-roll-Handler}
use Rattle.py_tree.specs.declared.statement.ImportPart as rust_import
use Rattle.py_tree.specs.declared.statement.Stmt as rust_stmt
use Rattle.py_tree.specs.declared.statement.Stmt.{roll-Stmt, fold-roll-Stmt}
use Rattle.py_tree.specs.declared.statement.StmtKind as rust_kind
use Rattle.py_tree.specs.declared.statement.StmtKind.{fold-roll-StmtKind}
use Rattle.py_tree.specs.declared.statement.StmtKind.TheVariants as kind
use Rattle.py_tree.specs.Tree as tree
use Rattle.py_tree.specs.Tree.{StmtKind, Stmt, FunDef, ClassDef, Member}
use Rattle.py_tree.specs.View.{Arm, Handler, member_step, stmt_kind_step, class_step, fun_step, arm_step, handler_step, stmt_step, expr_view, exprs_view, stmt_kind_view, stmts_view, arm_view, arms_view, handler_view, handlers_view, fun_view, class_view, member_view, members_view, param_view, import_view, from_view, stmt_view}

-- ---- statements

pub view_pass : stmt_kind_view kind.Pass ≡ tree.pass
view_pass = ap stmt_kind_view (sym kind.rolls-Pass) ∙ fold-roll-StmtKind Member StmtKind ClassDef FunDef Arm Handler Stmt member_step stmt_kind_step class_step fun_step arm_step handler_step stmt_step StmtKind-F.StmtKind::Pass

pub view_break : stmt_kind_view kind.Break ≡ tree.break
view_break = ap stmt_kind_view (sym kind.rolls-Break) ∙ fold-roll-StmtKind Member StmtKind ClassDef FunDef Arm Handler Stmt member_step stmt_kind_step class_step fun_step arm_step handler_step stmt_step StmtKind-F.Break

pub view_continue : stmt_kind_view kind.Continue ≡ tree.continue
view_continue = ap stmt_kind_view (sym kind.rolls-Continue) ∙ fold-roll-StmtKind Member StmtKind ClassDef FunDef Arm Handler Stmt member_step stmt_kind_step class_step fun_step arm_step handler_step stmt_step StmtKind-F.Continue

pub view_ellipsis : stmt_kind_view kind.Ellipsis ≡ tree.ellipsis
view_ellipsis = ap stmt_kind_view (sym kind.rolls-Ellipsis) ∙ fold-roll-StmtKind Member StmtKind ClassDef FunDef Arm Handler Stmt member_step stmt_kind_step class_step fun_step arm_step handler_step stmt_step StmtKind-F.StmtKind::Ellipsis

pub view_return : (o : Option rust_expr.Expr) → stmt_kind_view (kind.Return o) ≡ tree.return (option_map expr_view o)
view_return o = ap stmt_kind_view (sym (kind.rolls-Return o)) ∙ fold-roll-StmtKind Member StmtKind ClassDef FunDef Arm Handler Stmt member_step stmt_kind_step class_step fun_step arm_step handler_step stmt_step (StmtKind-F.Return o)

pub view_raise : (o p : Option rust_expr.Expr) → stmt_kind_view (kind.Raise o p) ≡ tree.raise (option_map expr_view o) (option_map expr_view p)
view_raise o p = ap stmt_kind_view (sym (kind.rolls-Raise o p)) ∙ fold-roll-StmtKind Member StmtKind ClassDef FunDef Arm Handler Stmt member_step stmt_kind_step class_step fun_step arm_step handler_step stmt_step (StmtKind-F.Raise o p)

pub view_assert : (x : rust_expr.Expr) (o : Option rust_expr.Expr) → stmt_kind_view (kind.Assert x o) ≡ tree.assert (expr_view x) (option_map expr_view o)
view_assert x o = ap stmt_kind_view (sym (kind.rolls-Assert x o)) ∙ fold-roll-StmtKind Member StmtKind ClassDef FunDef Arm Handler Stmt member_step stmt_kind_step class_step fun_step arm_step handler_step stmt_step (StmtKind-F.Assert x o)

pub view_import : (ps : Vec rust_import.ImportPart Global) → stmt_kind_view (kind.Import ps) ≡ tree.import (map import_view ps.items)
view_import ps = ap stmt_kind_view (sym (kind.rolls-Import ps)) ∙ fold-roll-StmtKind Member StmtKind ClassDef FunDef Arm Handler Stmt member_step stmt_kind_step class_step fun_step arm_step handler_step stmt_step (StmtKind-F.Import ps)

pub view_from : (path : Vec ℕ Global) (ps : Vec rust_from.FromPart Global) → stmt_kind_view (kind.From path ps) ≡ tree.from path.items (map from_view ps.items)
view_from path ps = ap stmt_kind_view (sym (kind.rolls-From path ps)) ∙ fold-roll-StmtKind Member StmtKind ClassDef FunDef Arm Handler Stmt member_step stmt_kind_step class_step fun_step arm_step handler_step stmt_step (StmtKind-F.From path ps)

pub view_assign : (xs : Vec rust_expr.Expr Global) (x : rust_expr.Expr) → stmt_kind_view (kind.Assign xs x) ≡ tree.assign (exprs_view xs.items) (expr_view x)
view_assign xs x = ap stmt_kind_view (sym (kind.rolls-Assign xs x)) ∙ fold-roll-StmtKind Member StmtKind ClassDef FunDef Arm Handler Stmt member_step stmt_kind_step class_step fun_step arm_step handler_step stmt_step (StmtKind-F.Assign xs x)

pub view_augment : (x : rust_expr.Expr) (o : BinOp) (y : rust_expr.Expr) → stmt_kind_view (kind.Augment x o y) ≡ tree.augment (expr_view x) o (expr_view y)
view_augment x o y = ap stmt_kind_view (sym (kind.rolls-Augment x o y)) ∙ fold-roll-StmtKind Member StmtKind ClassDef FunDef Arm Handler Stmt member_step stmt_kind_step class_step fun_step arm_step handler_step stmt_step (StmtKind-F.Augment x o y)

pub view_annotated : (x : rust_expr.Expr) (o : Option rust_expr.Expr) → stmt_kind_view (kind.Annotated x o) ≡ tree.annotated (expr_view x) (option_map expr_view o)
view_annotated x o = ap stmt_kind_view (sym (kind.rolls-Annotated x o)) ∙ fold-roll-StmtKind Member StmtKind ClassDef FunDef Arm Handler Stmt member_step stmt_kind_step class_step fun_step arm_step handler_step stmt_step (StmtKind-F.StmtKind::Annotated x o)

pub view_expression : (x : rust_expr.Expr) → stmt_kind_view (kind.Expression x) ≡ tree.expression (expr_view x)
view_expression x = ap stmt_kind_view (sym (kind.rolls-Expression x)) ∙ fold-roll-StmtKind Member StmtKind ClassDef FunDef Arm Handler Stmt member_step stmt_kind_step class_step fun_step arm_step handler_step stmt_step (StmtKind-F.Expression x)

pub view_if : (as' : Vec rust_arm.Arm Global) (ss : Vec rust_stmt.Stmt Global) → stmt_kind_view (kind.If as' ss) ≡ tree.if (arms_view as'.items) (stmts_view ss.items)
view_if as' ss = ap stmt_kind_view (sym (kind.rolls-If as' ss)) ∙ fold-roll-StmtKind Member StmtKind ClassDef FunDef Arm Handler Stmt member_step stmt_kind_step class_step fun_step arm_step handler_step stmt_step (StmtKind-F.If as' ss)

pub view_while : (x : rust_expr.Expr) (ss : Vec rust_stmt.Stmt Global) → stmt_kind_view (kind.While x ss) ≡ tree.while (expr_view x) (stmts_view ss.items)
view_while x ss = ap stmt_kind_view (sym (kind.rolls-While x ss)) ∙ fold-roll-StmtKind Member StmtKind ClassDef FunDef Arm Handler Stmt member_step stmt_kind_step class_step fun_step arm_step handler_step stmt_step (StmtKind-F.While x ss)

pub view_for : (x y : rust_expr.Expr) (ss : Vec rust_stmt.Stmt Global) → stmt_kind_view (kind.For x y ss) ≡ tree.for (expr_view x) (expr_view y) (stmts_view ss.items)
view_for x y ss = ap stmt_kind_view (sym (kind.rolls-For x y ss)) ∙ fold-roll-StmtKind Member StmtKind ClassDef FunDef Arm Handler Stmt member_step stmt_kind_step class_step fun_step arm_step handler_step stmt_step (StmtKind-F.For x y ss)

pub view_try : (ss : Vec rust_stmt.Stmt Global) (hs : Vec rust_handler.Handler Global) (os : Vec rust_stmt.Stmt Global) → stmt_kind_view (kind.Try ss hs os) ≡ tree.try (stmts_view ss.items) (handlers_view hs.items) (stmts_view os.items)
view_try ss hs os = ap stmt_kind_view (sym (kind.rolls-Try ss hs os)) ∙ fold-roll-StmtKind Member StmtKind ClassDef FunDef Arm Handler Stmt member_step stmt_kind_step class_step fun_step arm_step handler_step stmt_step (StmtKind-F.Try ss hs os)

pub view_def : (f : rust_fun.FunDef) → stmt_kind_view (kind.Def f) ≡ tree.def (fun_view f)
view_def f = ap stmt_kind_view (sym (kind.rolls-Def f)) ∙ fold-roll-StmtKind Member StmtKind ClassDef FunDef Arm Handler Stmt member_step stmt_kind_step class_step fun_step arm_step handler_step stmt_step (StmtKind-F.Def f)

pub view_class : (c : rust_class.ClassDef) → stmt_kind_view (kind.Class c) ≡ tree.class (class_view c)
view_class c = ap stmt_kind_view (sym (kind.rolls-Class c)) ∙ fold-roll-StmtKind Member StmtKind ClassDef FunDef Arm Handler Stmt member_step stmt_kind_step class_step fun_step arm_step handler_step stmt_step (StmtKind-F.Class c)

-- ---- members

pub view_pass_member : member_view part.Pass ≡ tree.pass_member
view_pass_member = ap member_view (sym part.rolls-Pass) ∙ fold-roll-Member Member StmtKind ClassDef FunDef Arm Handler Stmt member_step stmt_kind_step class_step fun_step arm_step handler_step stmt_step Member-F.Member::Pass

pub view_ellipsis_member : member_view part.Ellipsis ≡ tree.ellipsis_member
view_ellipsis_member = ap member_view (sym part.rolls-Ellipsis) ∙ fold-roll-Member Member StmtKind ClassDef FunDef Arm Handler Stmt member_step stmt_kind_step class_step fun_step arm_step handler_step stmt_step Member-F.Member::Ellipsis

pub view_text : member_view part.Text ≡ tree.text
view_text = ap member_view (sym part.rolls-Text) ∙ fold-roll-Member Member StmtKind ClassDef FunDef Arm Handler Stmt member_step stmt_kind_step class_step fun_step arm_step handler_step stmt_step Member-F.Text

pub view_value : (n : ℕ) (x : rust_expr.Expr) (l : ℕ) → member_view (part.Value n x l) ≡ tree.value n (expr_view x) l
view_value n x l = ap member_view (sym (part.rolls-Value n x l)) ∙ fold-roll-Member Member StmtKind ClassDef FunDef Arm Handler Stmt member_step stmt_kind_step class_step fun_step arm_step handler_step stmt_step (Member-F.Value n x l)

pub view_declared : (n : ℕ) (o : Option rust_expr.Expr) (l : ℕ) → member_view (part.Annotated n o l) ≡ tree.declared n (option_map expr_view o) l
view_declared n o l = ap member_view (sym (part.rolls-Annotated n o l)) ∙ fold-roll-Member Member StmtKind ClassDef FunDef Arm Handler Stmt member_step stmt_kind_step class_step fun_step arm_step handler_step stmt_step (Member-F.Member::Annotated n o l)

pub view_method : (f : rust_fun.FunDef) → member_view (part.Method f) ≡ tree.method (fun_view f)
view_method f = ap member_view (sym (part.rolls-Method f)) ∙ fold-roll-Member Member StmtKind ClassDef FunDef Arm Handler Stmt member_step stmt_kind_step class_step fun_step arm_step handler_step stmt_step (Member-F.Method f)

-- ---- statements, arms, handlers, functions and classes

pub view_stmt : (k : rust_kind.StmtKind) (l : ℕ) → stmt_view (roll-Stmt (record { kind = k; line = l })) ≡ tree.statement (stmt_kind_view k) l
view_stmt k l = fold-roll-Stmt Member StmtKind ClassDef FunDef Arm Handler Stmt member_step stmt_kind_step class_step fun_step arm_step handler_step stmt_step (record { kind = k; line = l })

pub view_arm : (x : rust_expr.Expr) (ss : Vec rust_stmt.Stmt Global) → arm_view (roll-Arm (record { test = x; body = ss })) ≡ (expr_view x, stmts_view ss.items)
view_arm x ss = fold-roll-Arm Member StmtKind ClassDef FunDef Arm Handler Stmt member_step stmt_kind_step class_step fun_step arm_step handler_step stmt_step (record { test = x; body = ss })

pub view_handler : (o : Option rust_expr.Expr) (n : Option ℕ) (ss : Vec rust_stmt.Stmt Global) (l : ℕ) → handler_view (roll-Handler (record { class = o; name = n; body = ss; line = l })) ≡ (option_map expr_view o, n, stmts_view ss.items, l)
view_handler o n ss l = fold-roll-Handler Member StmtKind ClassDef FunDef Arm Handler Stmt member_step stmt_kind_step class_step fun_step arm_step handler_step stmt_step (record { class = o; name = n; body = ss; line = l })

pub view_fun : (f n : ℕ) (ps : Vec rust_param.Param Global) (ss : Vec rust_stmt.Stmt Global) (l : ℕ) → fun_view (roll-FunDef (record { id = f; name = n; params = ps; body = ss; line = l })) ≡ tree.fun_def f n (map param_view ps.items) (stmts_view ss.items) l
view_fun f n ps ss l = fold-roll-FunDef Member StmtKind ClassDef FunDef Arm Handler Stmt member_step stmt_kind_step class_step fun_step arm_step handler_step stmt_step (record { id = f; name = n; params = ps; body = ss; line = l })

pub view_class_def : (k n : ℕ) (b : Option ℕ) (ms : Vec rust_member.Member Global) (l : ℕ) → class_view (roll-ClassDef (record { id = k; name = n; base = b; members = ms; line = l })) ≡ tree.class_def k n b (members_view ms.items) l
view_class_def k n b ms l = fold-roll-ClassDef Member StmtKind ClassDef FunDef Arm Handler Stmt member_step stmt_kind_step class_step fun_step arm_step handler_step stmt_step (record { id = k; name = n; base = b; members = ms; line = l })
