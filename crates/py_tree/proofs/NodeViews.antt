-- What a statement, an arm, a clause and a class that are there already are in the tree, part by part.
use Rattle.std.proofs.Common.{◌≡◌, ℕ, Vec, Option, option_map, map, sym, ap, ◌∙◌}
use Rattle.std.specs.Global.{Global}
use Rattle.place_ids.specs.declared.operators.BinOp.{BinOp}
use Rattle.py_tree.specs.declared.definition.ClassDef as rust_class
use Rattle.py_tree.specs.declared.definition.ClassDef.{out-ClassDef, fold_out-ClassDef}
use Rattle.py_tree.specs.declared.definition.Member.TheOpen.{StmtKind-F}
use Rattle.py_tree.specs.declared.expression.Expr as rust_expr
use Rattle.py_tree.specs.declared.statement.Arm as rust_arm
use Rattle.py_tree.specs.declared.statement.Arm.{out-Arm, fold_out-Arm}
use Rattle.py_tree.specs.declared.statement.FromPart as rust_from
use Rattle.py_tree.specs.declared.statement.Handler as rust_handler
use Rattle.py_tree.specs.declared.statement.Handler.{out-Handler, fold_out-Handler}
use Rattle.py_tree.specs.declared.statement.ImportPart as rust_import
use Rattle.py_tree.specs.declared.statement.Stmt as rust_stmt
use Rattle.py_tree.specs.declared.statement.Stmt.{out-Stmt, fold_out-Stmt}
use Rattle.py_tree.specs.declared.statement.StmtKind.{fold-roll-StmtKind}
use Rattle.py_tree.specs.declared.statement.StmtKind.TheVariants as kind
use Rattle.py_tree.specs.Tree as tree
use Rattle.py_tree.specs.Tree.{Expr, StmtKind, Stmt, Stmts, FunDef, ClassDef, Member}
use Rattle.py_tree.specs.View.{Arm, Handler, member_step, stmt_kind_step, class_step, fun_step, arm_step, handler_step, stmt_step, expr_view, exprs_view, stmt_kind_view, stmts_view, arm_view, arms_view, handler_view, handlers_view, class_view, members_view, import_view, from_view, stmt_view}

pub arm_parts : (a : rust_arm.Arm) → arm_view a ≡ (expr_view (out-Arm a).test, stmts_view (out-Arm a).body.items)
arm_parts a = fold_out-Arm Member StmtKind ClassDef FunDef Arm Handler Stmt member_step stmt_kind_step class_step fun_step arm_step handler_step stmt_step a

pub handler_parts : (h : rust_handler.Handler) → handler_view h ≡ (option_map expr_view (out-Handler h).class, (out-Handler h).name, stmts_view (out-Handler h).body.items, (out-Handler h).line)
handler_parts h = fold_out-Handler Member StmtKind ClassDef FunDef Arm Handler Stmt member_step stmt_kind_step class_step fun_step arm_step handler_step stmt_step h

pub stmt_parts : (s : rust_stmt.Stmt) → stmt_view s ≡ tree.statement (stmt_kind_view (out-Stmt s).kind) (out-Stmt s).line
stmt_parts s = fold_out-Stmt Member StmtKind ClassDef FunDef Arm Handler Stmt member_step stmt_kind_step class_step fun_step arm_step handler_step stmt_step s

pub class_def_parts : (c : rust_class.ClassDef) → class_view c ≡ tree.class_def (out-ClassDef c).id (out-ClassDef c).name (out-ClassDef c).base (members_view (out-ClassDef c).members.items) (out-ClassDef c).line
class_def_parts c = fold_out-ClassDef Member StmtKind ClassDef FunDef Arm Handler Stmt member_step stmt_kind_step class_step fun_step arm_step handler_step stmt_step c
