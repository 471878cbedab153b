-- The view of statements, by whether the first is a class.
use Rattle.std.proofs.Common.{◌≡◌, ℕ, ◌+◌, ◌<◌, List, ◌∷◌, drop, length, get_or, refl, sym, ap, subst, ◌∙◌}
use Rattle.std.proofs.lemmas.List.{drop_more}
use Rattle.py_tree.specs.Tree.{Stmts, stmt, Stmt, statement, StmtKind, class, FunDef, ClassDef, class_def, Member}
use Rattle.py_tree.specs.View.{Arm, Handler, member_step, stmt_kind_step, class_step, fun_step, arm_step, handler_step, stmt_step, stmt_view, stmts_view, stmt_kind_view, class_view, members_view}
use Rattle.py_tree.specs.declared.definition.ClassDef as rust_class
use Rattle.py_tree.specs.declared.definition.ClassDef.{out-ClassDef, fold_out-ClassDef}
use Rattle.py_tree.specs.declared.definition.FunDef as rust_fun
use Rattle.py_tree.specs.declared.definition.Member as rust_member
use Rattle.py_tree.specs.declared.definition.Member.TheOpen.{StmtKind-F}
use Rattle.py_tree.specs.declared.statement.Arm as rust_arm
use Rattle.py_tree.specs.declared.statement.Handler as rust_handler
use Rattle.py_tree.specs.declared.statement.Stmt as rust_stmt
use Rattle.py_tree.specs.declared.statement.Stmt.{out-Stmt, fold_out-Stmt}
use Rattle.py_tree.specs.declared.statement.StmtKind as rust_kind
use Rattle.py_tree.specs.declared.statement.StmtKind.{out-StmtKind, roll-StmtKind, roll-out-StmtKind, fold-roll-StmtKind}
use Rattle.py_tree.specs.declared.statement.StmtKind.TheVariants as kind
use Rattle.scope_rules.specs.Tables.{ClassScope, classes_from}

pub class_parts : (c : rust_class.ClassDef) → class_view c ≡ class_def (out-ClassDef c).id (out-ClassDef c).name (out-ClassDef c).base (members_view (out-ClassDef c).members.items) (out-ClassDef c).line
class_parts c = fold_out-ClassDef Member StmtKind ClassDef FunDef Arm Handler Stmt member_step stmt_kind_step class_step fun_step arm_step handler_step stmt_step c

stmt_parts : (s : rust_stmt.Stmt) → stmt_view s ≡ statement (stmt_kind_view (out-Stmt s).kind) (out-Stmt s).line
stmt_parts s = fold_out-Stmt Member StmtKind ClassDef FunDef Arm Handler Stmt member_step stmt_kind_step class_step fun_step arm_step handler_step stmt_step s

view_class : (c : rust_class.ClassDef) → stmt_kind_view (kind.Class c) ≡ class (class_view c)
view_class c = ap stmt_kind_view (sym (kind.rolls-Class c)) ∙ fold-roll-StmtKind Member StmtKind ClassDef FunDef Arm Handler Stmt member_step stmt_kind_step class_step fun_step arm_step handler_step stmt_step (StmtKind-F.Class c)

stmts_head : (body : List rust_stmt.Stmt) (i : ℕ) (s : rust_stmt.Stmt) → i < length body → s ≡ get_or body i s → stmts_view (drop i body) ≡ stmt (statement (stmt_kind_view s.kind) s.line) (stmts_view (drop (i + 1) body))
stmts_head body i s l is = ap stmts_view (drop_more body i s l ∙ ap (λ x. x ∷ drop (i + 1) body) (sym is)) ∙ ap (λ v. stmt v (stmts_view (drop (i + 1) body))) (stmt_parts s)

pub class_head : (body : List rust_stmt.Stmt) (i : ℕ) (s : rust_stmt.Stmt) (c : rust_class.ClassDef) → i < length body → s ≡ get_or body i s → s.kind ≡ kind.Class c
    → stmts_view (drop i body) ≡ stmt (statement (class (class_view c)) s.line) (stmts_view (drop (i + 1) body))
class_head body i s c l is k = stmts_head body i s l is ∙ ap (λ v. stmt (statement v s.line) (stmts_view (drop (i + 1) body))) (ap stmt_kind_view k ∙ view_class c)

-- a statement is no class
abbrev IsPlain : StmtKind → Type 0
IsPlain k = (texts : List (List ℕ)) (rows : List ClassScope) (line : ℕ) (rest : Stmts) → classes_from texts rows (stmt (statement k line) rest) ≡ classes_from texts rows rest

kind_plain : (k : rust_kind.StmtKind) → ((c : rust_class.ClassDef) → k ≡ kind.Class c → ⊥) → IsPlain (stmt_kind_view k)
kind_plain k not_class = go (out-StmtKind k) (roll-out-StmtKind k)
  where
    go : (o : StmtKind-F rust_member.Member rust_kind.StmtKind rust_class.ClassDef rust_fun.FunDef rust_arm.Arm rust_handler.Handler rust_stmt.Stmt) → roll-StmtKind o ≡ k → IsPlain (stmt_kind_view k)
    go (StmtKind-F.Class c) e = absurd (not_class c (sym e ∙ kind.rolls-Class c))
    go o e =
        subst (λ x. IsPlain (stmt_kind_view x)) e
        (subst IsPlain (sym (fold-roll-StmtKind Member StmtKind ClassDef FunDef Arm Handler Stmt member_step stmt_kind_step class_step fun_step arm_step handler_step stmt_step o))
        (λ texts rows line rest. refl))

pub plain_head : (texts : List (List ℕ)) (rows : List ClassScope) (body : List rust_stmt.Stmt) (i : ℕ) (s : rust_stmt.Stmt) → i < length body → s ≡ get_or body i s → ((c : rust_class.ClassDef) → s.kind ≡ kind.Class c → ⊥)
    → classes_from texts rows (stmts_view (drop i body)) ≡ classes_from texts rows (stmts_view (drop (i + 1) body))
plain_head texts rows body i s l is not_class = ap (classes_from texts rows) (stmts_head body i s l is) ∙ kind_plain s.kind not_class texts rows s.line (stmts_view (drop (i + 1) body))
