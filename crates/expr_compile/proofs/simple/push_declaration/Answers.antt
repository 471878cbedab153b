-- An attribute is declared.
use Rattle.std.proofs.Common.{OnOk, ℕ, List, None, sym, subst}
use Rattle.py_tree.specs.Tree.{Expr, node, attr}
use Rattle.py_tree.specs.View.{expr_view}
use Rattle.tree_code.specs.Statements.{annotates}
use Rattle.expr_compile.specs.Growth.{Grows}
use Rattle.py_tree.proofs.ExpressionViews.{view_attr}
use Rattle.expr_compile.proofs.simple.push_declaration.Goals as goal

pub returns-in-Attr : goal.returns-in-Attr
returns-in-Attr c =
    let locals : List ℕ = c.args.names.now in
    let e = c.args.target.now in
    let done : Expr → Type 0 = λ x. OnOk c.push_expression.result (Grows (annotates locals c.args.line x None) c.args.buffer.now c.push_expression.new.buffer) in
    subst done (sym (view_attr e c.in-Attr.object c.in-Attr.field-1 c.in-Attr.is))
    (subst (λ o. done (node (attr (expr_view o) c.in-Attr.field-1) e.line e.site)) c.deref.ensures c.push_expression.ensures)
