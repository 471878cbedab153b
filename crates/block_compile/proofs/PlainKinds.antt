-- Which kinds of statements are plain.
use Rattle.std.proofs.Common.{◌≡◌, ℕ, Vec, refl, sym, subst, ◌∙◌}
use Rattle.std.specs.Global.{Global}
use Rattle.py_tree.specs.declared.definition.ClassDef as rust_class
use Rattle.py_tree.specs.declared.definition.FunDef as rust_fun
use Rattle.py_tree.specs.declared.definition.Member as rust_member
use Rattle.py_tree.specs.declared.definition.Member.TheOpen.{StmtKind-F}
use Rattle.py_tree.specs.declared.expression.Expr as rust_expr
use Rattle.py_tree.specs.declared.statement.Arm as rust_arm
use Rattle.py_tree.specs.declared.statement.Handler as rust_handler
use Rattle.py_tree.specs.declared.statement.Stmt as rust_stmt
use Rattle.py_tree.specs.declared.statement.StmtKind as rust_kind
use Rattle.py_tree.specs.declared.statement.StmtKind.{out-StmtKind, roll-StmtKind, roll-out-StmtKind, fold-roll-StmtKind}
use Rattle.py_tree.specs.declared.statement.StmtKind.TheVariants as kind
use Rattle.py_tree.specs.Tree.{StmtKind, Stmt, FunDef, ClassDef, Member}
use Rattle.py_tree.specs.View.{Arm, Handler, member_step, stmt_kind_step, class_step, fun_step, arm_step, handler_step, stmt_step, stmt_kind_view}
use Rattle.tree_code.specs.Statements.{Place, kind_code}
use Rattle.block_compile.specs.PlaceOf.{plain_code}

-- a kind whose code is that of a plain one
abbrev SamePlain : Place → ℕ → StmtKind → Type 0
SamePlain at line k = plain_code at line k ≡ kind_code at line k

seen : (at : Place) (line : ℕ) (l : StmtKind-F rust_member.Member rust_kind.StmtKind rust_class.ClassDef rust_fun.FunDef rust_arm.Arm rust_handler.Handler rust_stmt.Stmt) (k : rust_kind.StmtKind) → roll-StmtKind l ≡ k → SamePlain at line (stmt_kind_view (roll-StmtKind l)) → SamePlain at line (stmt_kind_view k)
seen at line l k is same = subst (λ x. SamePlain at line (stmt_kind_view x)) is same

plain_layer : (at : Place) (line : ℕ) (l : StmtKind-F rust_member.Member rust_kind.StmtKind rust_class.ClassDef rust_fun.FunDef rust_arm.Arm rust_handler.Handler rust_stmt.Stmt) (k : rust_kind.StmtKind) → roll-StmtKind l ≡ k → (k ≡ kind.Break → ⊥) → (k ≡ kind.Continue → ⊥) → ((as' : Vec rust_arm.Arm Global) (ss : Vec rust_stmt.Stmt Global) → k ≡ kind.If as' ss → ⊥) → ((x : rust_expr.Expr) (ss : Vec rust_stmt.Stmt Global) → k ≡ kind.While x ss → ⊥) → ((x y : rust_expr.Expr) (ss : Vec rust_stmt.Stmt Global) → k ≡ kind.For x y ss → ⊥) → ((ss : Vec rust_stmt.Stmt Global) (hs : Vec rust_handler.Handler Global) (os : Vec rust_stmt.Stmt Global) → k ≡ kind.Try ss hs os → ⊥) → SamePlain at line (stmt_kind_view k)
plain_layer at line StmtKind-F.StmtKind::Pass k is no_break no_continue no_if no_while no_for no_try = seen at line StmtKind-F.StmtKind::Pass k is (subst (SamePlain at line) (sym (fold-roll-StmtKind Member StmtKind ClassDef FunDef Arm Handler Stmt member_step stmt_kind_step class_step fun_step arm_step handler_step stmt_step StmtKind-F.StmtKind::Pass)) refl)
plain_layer at line StmtKind-F.StmtKind::Ellipsis k is no_break no_continue no_if no_while no_for no_try = seen at line StmtKind-F.StmtKind::Ellipsis k is (subst (SamePlain at line) (sym (fold-roll-StmtKind Member StmtKind ClassDef FunDef Arm Handler Stmt member_step stmt_kind_step class_step fun_step arm_step handler_step stmt_step StmtKind-F.StmtKind::Ellipsis)) refl)
plain_layer at line (StmtKind-F.Return o) k is no_break no_continue no_if no_while no_for no_try = seen at line (StmtKind-F.Return o) k is (subst (SamePlain at line) (sym (fold-roll-StmtKind Member StmtKind ClassDef FunDef Arm Handler Stmt member_step stmt_kind_step class_step fun_step arm_step handler_step stmt_step (StmtKind-F.Return o))) refl)
plain_layer at line (StmtKind-F.Raise o p) k is no_break no_continue no_if no_while no_for no_try = seen at line (StmtKind-F.Raise o p) k is (subst (SamePlain at line) (sym (fold-roll-StmtKind Member StmtKind ClassDef FunDef Arm Handler Stmt member_step stmt_kind_step class_step fun_step arm_step handler_step stmt_step (StmtKind-F.Raise o p))) refl)
plain_layer at line (StmtKind-F.Assert x o) k is no_break no_continue no_if no_while no_for no_try = seen at line (StmtKind-F.Assert x o) k is (subst (SamePlain at line) (sym (fold-roll-StmtKind Member StmtKind ClassDef FunDef Arm Handler Stmt member_step stmt_kind_step class_step fun_step arm_step handler_step stmt_step (StmtKind-F.Assert x o))) refl)
plain_layer at line (StmtKind-F.Import ps) k is no_break no_continue no_if no_while no_for no_try = seen at line (StmtKind-F.Import ps) k is (subst (SamePlain at line) (sym (fold-roll-StmtKind Member StmtKind ClassDef FunDef Arm Handler Stmt member_step stmt_kind_step class_step fun_step arm_step handler_step stmt_step (StmtKind-F.Import ps))) refl)
plain_layer at line (StmtKind-F.From path ps) k is no_break no_continue no_if no_while no_for no_try = seen at line (StmtKind-F.From path ps) k is (subst (SamePlain at line) (sym (fold-roll-StmtKind Member StmtKind ClassDef FunDef Arm Handler Stmt member_step stmt_kind_step class_step fun_step arm_step handler_step stmt_step (StmtKind-F.From path ps))) refl)
plain_layer at line (StmtKind-F.Global ns) k is no_break no_continue no_if no_while no_for no_try = seen at line (StmtKind-F.Global ns) k is (subst (SamePlain at line) (sym (fold-roll-StmtKind Member StmtKind ClassDef FunDef Arm Handler Stmt member_step stmt_kind_step class_step fun_step arm_step handler_step stmt_step (StmtKind-F.Global ns))) refl)
plain_layer at line (StmtKind-F.Assign xs x) k is no_break no_continue no_if no_while no_for no_try = seen at line (StmtKind-F.Assign xs x) k is (subst (SamePlain at line) (sym (fold-roll-StmtKind Member StmtKind ClassDef FunDef Arm Handler Stmt member_step stmt_kind_step class_step fun_step arm_step handler_step stmt_step (StmtKind-F.Assign xs x))) refl)
plain_layer at line (StmtKind-F.Augment x o y) k is no_break no_continue no_if no_while no_for no_try = seen at line (StmtKind-F.Augment x o y) k is (subst (SamePlain at line) (sym (fold-roll-StmtKind Member StmtKind ClassDef FunDef Arm Handler Stmt member_step stmt_kind_step class_step fun_step arm_step handler_step stmt_step (StmtKind-F.Augment x o y))) refl)
plain_layer at line (StmtKind-F.StmtKind::Annotated x o) k is no_break no_continue no_if no_while no_for no_try = seen at line (StmtKind-F.StmtKind::Annotated x o) k is (subst (SamePlain at line) (sym (fold-roll-StmtKind Member StmtKind ClassDef FunDef Arm Handler Stmt member_step stmt_kind_step class_step fun_step arm_step handler_step stmt_step (StmtKind-F.StmtKind::Annotated x o))) refl)
plain_layer at line (StmtKind-F.Expression x) k is no_break no_continue no_if no_while no_for no_try = seen at line (StmtKind-F.Expression x) k is (subst (SamePlain at line) (sym (fold-roll-StmtKind Member StmtKind ClassDef FunDef Arm Handler Stmt member_step stmt_kind_step class_step fun_step arm_step handler_step stmt_step (StmtKind-F.Expression x))) refl)
plain_layer at line (StmtKind-F.Def f) k is no_break no_continue no_if no_while no_for no_try = seen at line (StmtKind-F.Def f) k is (subst (SamePlain at line) (sym (fold-roll-StmtKind Member StmtKind ClassDef FunDef Arm Handler Stmt member_step stmt_kind_step class_step fun_step arm_step handler_step stmt_step (StmtKind-F.Def f))) refl)
plain_layer at line (StmtKind-F.Class c) k is no_break no_continue no_if no_while no_for no_try = seen at line (StmtKind-F.Class c) k is (subst (SamePlain at line) (sym (fold-roll-StmtKind Member StmtKind ClassDef FunDef Arm Handler Stmt member_step stmt_kind_step class_step fun_step arm_step handler_step stmt_step (StmtKind-F.Class c))) refl)
plain_layer at line StmtKind-F.Break k is no_break no_continue no_if no_while no_for no_try = absurd (no_break (sym is ∙ kind.rolls-Break))
plain_layer at line StmtKind-F.Continue k is no_break no_continue no_if no_while no_for no_try = absurd (no_continue (sym is ∙ kind.rolls-Continue))
plain_layer at line (StmtKind-F.If as' ss) k is no_break no_continue no_if no_while no_for no_try = absurd (no_if as' ss (sym is ∙ kind.rolls-If as' ss))
plain_layer at line (StmtKind-F.While x ss) k is no_break no_continue no_if no_while no_for no_try = absurd (no_while x ss (sym is ∙ kind.rolls-While x ss))
plain_layer at line (StmtKind-F.For x y ss) k is no_break no_continue no_if no_while no_for no_try = absurd (no_for x y ss (sym is ∙ kind.rolls-For x y ss))
plain_layer at line (StmtKind-F.Try ss hs os) k is no_break no_continue no_if no_while no_for no_try = absurd (no_try ss hs os (sym is ∙ kind.rolls-Try ss hs os))

pub plain_is : (at : Place) (line : ℕ) (k : rust_kind.StmtKind) → (k ≡ kind.Break → ⊥) → (k ≡ kind.Continue → ⊥) → ((as' : Vec rust_arm.Arm Global) (ss : Vec rust_stmt.Stmt Global) → k ≡ kind.If as' ss → ⊥) → ((x : rust_expr.Expr) (ss : Vec rust_stmt.Stmt Global) → k ≡ kind.While x ss → ⊥) → ((x y : rust_expr.Expr) (ss : Vec rust_stmt.Stmt Global) → k ≡ kind.For x y ss → ⊥) → ((ss : Vec rust_stmt.Stmt Global) (hs : Vec rust_handler.Handler Global) (os : Vec rust_stmt.Stmt Global) → k ≡ kind.Try ss hs os → ⊥) → plain_code at line (stmt_kind_view k) ≡ kind_code at line (stmt_kind_view k)
plain_is at line k no_break no_continue no_if no_while no_for no_try = plain_layer at line (out-StmtKind k) k (roll-out-StmtKind k) no_break no_continue no_if no_while no_for no_try
