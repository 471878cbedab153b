-- The view of statements and of members, by the kind of the first.
use Rattle.std.proofs.Common.{◌≡◌, ℕ, ◌+◌, ◌<◌, List, ◌∷◌, drop, map, length, get_or, refl, sym, ap, subst, ◌∙◌}
use Rattle.std.proofs.lemmas.List.{drop_more}
use Rattle.py_tree.specs.Tree.{Stmts, stmt, Stmt, statement, StmtKind, def, class, FunDef, fun_def, ClassDef, Member, method, Members, member}
use Rattle.py_tree.specs.View.{Arm, Handler, member_step, stmt_kind_step, class_step, fun_step, arm_step, handler_step, stmt_step, stmts_view, stmt_kind_view, fun_view, class_view, param_view, member_view, members_view}
use Rattle.py_tree.specs.declared.definition.ClassDef as rust_class
use Rattle.py_tree.specs.declared.definition.FunDef as rust_fun
use Rattle.py_tree.specs.declared.definition.FunDef.{out-FunDef, fold_out-FunDef}
use Rattle.py_tree.specs.declared.definition.Member as rust_member
use Rattle.py_tree.specs.declared.definition.Member.{out-Member, roll-Member, roll-out-Member, fold-roll-Member}
use Rattle.py_tree.specs.declared.definition.Member.TheOpen.{Member-F, StmtKind-F}
use Rattle.py_tree.specs.declared.definition.Member.TheVariants as member_kind
use Rattle.py_tree.specs.declared.statement.Arm as rust_arm
use Rattle.py_tree.specs.declared.statement.Handler as rust_handler
use Rattle.py_tree.specs.declared.statement.Stmt as rust_stmt
use Rattle.py_tree.specs.declared.statement.StmtKind as rust_kind
use Rattle.py_tree.specs.declared.statement.StmtKind.{out-StmtKind, roll-StmtKind, roll-out-StmtKind, fold-roll-StmtKind}
use Rattle.py_tree.specs.declared.statement.StmtKind.TheVariants as kind
use Rattle.scope_rules.specs.Tables.{locals, method_locals}
use Rattle.tree_code.specs.Programs.{functions, classes, methods}
use Rattle.py_tree.proofs.NodeViews.{stmt_parts}

pub view_def : (f : rust_fun.FunDef) → stmt_kind_view (kind.Def f) ≡ def (fun_view f)
view_def f = ap stmt_kind_view (sym (kind.rolls-Def f)) ∙ fold-roll-StmtKind Member StmtKind ClassDef FunDef Arm Handler Stmt member_step stmt_kind_step class_step fun_step arm_step handler_step stmt_step (StmtKind-F.Def f)

pub view_class : (c : rust_class.ClassDef) → stmt_kind_view (kind.Class c) ≡ class (class_view c)
view_class c = ap stmt_kind_view (sym (kind.rolls-Class c)) ∙ fold-roll-StmtKind Member StmtKind ClassDef FunDef Arm Handler Stmt member_step stmt_kind_step class_step fun_step arm_step handler_step stmt_step (StmtKind-F.Class c)

pub view_method : (f : rust_fun.FunDef) → member_view (member_kind.Method f) ≡ method (fun_view f)
view_method f = ap member_view (sym (member_kind.rolls-Method f)) ∙ fold-roll-Member Member StmtKind ClassDef FunDef Arm Handler Stmt member_step stmt_kind_step class_step fun_step arm_step handler_step stmt_step (Member-F.Method f)

pub view_fun : (f : rust_fun.FunDef) → fun_view f ≡ fun_def (out-FunDef f).id (out-FunDef f).name (map param_view (out-FunDef f).params.items) (stmts_view (out-FunDef f).body.items) (out-FunDef f).line
view_fun f = fold_out-FunDef Member StmtKind ClassDef FunDef Arm Handler Stmt member_step stmt_kind_step class_step fun_step arm_step handler_step stmt_step f

-- the next statement of those that are left, and the others
stmts_head : (body : List rust_stmt.Stmt) (i : ℕ) (s : rust_stmt.Stmt) → i < length body → s ≡ get_or body i s → stmts_view (drop i body) ≡ stmt (statement (stmt_kind_view s.kind) s.line) (stmts_view (drop (i + 1) body))
stmts_head body i s l is = ap stmts_view (drop_more body i s l ∙ ap (λ x. x ∷ drop (i + 1) body) (sym is)) ∙ ap (λ v. stmt v (stmts_view (drop (i + 1) body))) (stmt_parts s)

-- a statement defines nothing
record IsPlain (k : StmtKind) : Type 0 where
  functions : (line : ℕ) (rest : Stmts) → functions (stmt (statement k line) rest) ≡ functions rest
  classes : (line : ℕ) (rest : Stmts) → classes (stmt (statement k line) rest) ≡ classes rest
  locals : (line : ℕ) (rest : Stmts) → locals (stmt (statement k line) rest) ≡ locals rest

kind_plain : (k : rust_kind.StmtKind) → ((f : rust_fun.FunDef) → k ≡ kind.Def f → ⊥) → ((c : rust_class.ClassDef) → k ≡ kind.Class c → ⊥) → IsPlain (stmt_kind_view k)
kind_plain k not_def not_class = go (out-StmtKind k) (roll-out-StmtKind k)
  where
    go : (o : StmtKind-F rust_member.Member rust_kind.StmtKind rust_class.ClassDef rust_fun.FunDef rust_arm.Arm rust_handler.Handler rust_stmt.Stmt) → roll-StmtKind o ≡ k → IsPlain (stmt_kind_view k)
    go (StmtKind-F.Def f) e = absurd (not_def f (sym e ∙ kind.rolls-Def f))
    go (StmtKind-F.Class c) e = absurd (not_class c (sym e ∙ kind.rolls-Class c))
    go o e =
        subst (λ x. IsPlain (stmt_kind_view x)) e
        (subst IsPlain (sym (fold-roll-StmtKind Member StmtKind ClassDef FunDef Arm Handler Stmt member_step stmt_kind_step class_step fun_step arm_step handler_step stmt_step o))
        (record { functions = λ line rest. refl; classes = λ line rest. refl; locals = λ line rest. refl }))

pub def_head : (body : List rust_stmt.Stmt) (i : ℕ) (s : rust_stmt.Stmt) (f : rust_fun.FunDef) → i < length body → s ≡ get_or body i s → s.kind ≡ kind.Def f → stmts_view (drop i body) ≡ stmt (statement (def (fun_view f)) s.line) (stmts_view (drop (i + 1) body))
def_head body i s f l is k = stmts_head body i s l is ∙ ap (λ v. stmt (statement v s.line) (stmts_view (drop (i + 1) body))) (ap stmt_kind_view k ∙ view_def f)

pub class_head : (body : List rust_stmt.Stmt) (i : ℕ) (s : rust_stmt.Stmt) (c : rust_class.ClassDef) → i < length body → s ≡ get_or body i s → s.kind ≡ kind.Class c → stmts_view (drop i body) ≡ stmt (statement (class (class_view c)) s.line) (stmts_view (drop (i + 1) body))
class_head body i s c l is k = stmts_head body i s l is ∙ ap (λ v. stmt (statement v s.line) (stmts_view (drop (i + 1) body))) (ap stmt_kind_view k ∙ view_class c)

-- the statements that are left define what the others do
pub record AreAlike (left rest : Stmts) : Type 0 where
  pub functions : functions left ≡ functions rest
  pub classes : classes left ≡ classes rest
  pub locals : locals left ≡ locals rest

pub plain_head : (body : List rust_stmt.Stmt) (i : ℕ) (s : rust_stmt.Stmt) → i < length body → s ≡ get_or body i s → ((f : rust_fun.FunDef) → s.kind ≡ kind.Def f → ⊥) → ((c : rust_class.ClassDef) → s.kind ≡ kind.Class c → ⊥)
    → AreAlike (stmts_view (drop i body)) (stmts_view (drop (i + 1) body))
plain_head body i s l is not_def not_class =
    let rest : Stmts = stmts_view (drop (i + 1) body) in
    let plain : IsPlain (stmt_kind_view s.kind) = kind_plain s.kind not_def not_class in
    subst (λ left. AreAlike left rest) (sym (stmts_head body i s l is))
    (record { functions = plain.functions s.line rest; classes = plain.classes s.line rest; locals = plain.locals s.line rest })

-- ---- members

members_head : (members : List rust_member.Member) (i : ℕ) (m : rust_member.Member) → i < length members → m ≡ get_or members i m → members_view (drop i members) ≡ member (member_view m) (members_view (drop (i + 1) members))
members_head members i m l is = ap members_view (drop_more members i m l ∙ ap (λ x. x ∷ drop (i + 1) members) (sym is))

pub method_head : (members : List rust_member.Member) (i : ℕ) (m : rust_member.Member) (f : rust_fun.FunDef) → i < length members → m ≡ get_or members i m → m ≡ member_kind.Method f
    → members_view (drop i members) ≡ member (method (fun_view f)) (members_view (drop (i + 1) members))
method_head members i m f l is k = members_head members i m l is ∙ ap (λ v. member v (members_view (drop (i + 1) members))) (ap member_view k ∙ view_method f)

-- the members that are left have the methods that the others have
pub record HaveAlike (left rest : Members) : Type 0 where
  pub methods : (class : ℕ) → methods class left ≡ methods class rest
  pub locals : method_locals left ≡ method_locals rest

member_plain : (m : rust_member.Member) → ((f : rust_fun.FunDef) → m ≡ member_kind.Method f → ⊥) → (rest : Members) → HaveAlike (member (member_view m) rest) rest
member_plain m not_method rest = go (out-Member m) (roll-out-Member m)
  where
    go : (o : Member-F rust_member.Member rust_kind.StmtKind rust_class.ClassDef rust_fun.FunDef rust_arm.Arm rust_handler.Handler rust_stmt.Stmt) → roll-Member o ≡ m → HaveAlike (member (member_view m) rest) rest
    go (Member-F.Method f) e = absurd (not_method f (sym e ∙ member_kind.rolls-Method f))
    go o e =
        subst (λ x. HaveAlike (member (member_view x) rest) rest) e
        (subst (λ v. HaveAlike (member v rest) rest) (sym (fold-roll-Member Member StmtKind ClassDef FunDef Arm Handler Stmt member_step stmt_kind_step class_step fun_step arm_step handler_step stmt_step o))
        (record { methods = λ class. refl; locals = refl }))

pub member_head : (members : List rust_member.Member) (i : ℕ) (m : rust_member.Member) → i < length members → m ≡ get_or members i m → ((f : rust_fun.FunDef) → m ≡ member_kind.Method f → ⊥) → HaveAlike (members_view (drop i members)) (members_view (drop (i + 1) members))
member_head members i m l is not_method =
    subst (λ left. HaveAlike left (members_view (drop (i + 1) members))) (sym (members_head members i m l is)) (member_plain m not_method (members_view (drop (i + 1) members)))
