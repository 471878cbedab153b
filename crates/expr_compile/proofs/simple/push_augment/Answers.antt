-- The target is a name, an attribute or an item.
use Rattle.std.proofs.Common.{OnOk, ℕ, List, sym, subst}
use Rattle.py_tree.specs.Tree.{Expr, node, attr, item}
use Rattle.py_tree.specs.View.{expr_view}
use Rattle.tree_code.specs.Statements.{augmented}
use Rattle.expr_compile.specs.Growth.{Grows}
use Rattle.py_tree.proofs.ExpressionViews.{view_name, view_attr, view_item}
use Rattle.expr_compile.proofs.simple.push_augment.Goals as goal

pub returns-in-Name : goal.returns-in-Name
returns-in-Name c =
    let locals : List ℕ = c.args.names.now in
    let e = c.args.target.now in
    let done : Expr → Type 0 = λ x. OnOk c.augment_name.result (Grows (augmented locals c.args.line x c.args.op (expr_view c.args.value.now)) c.args.buffer.now c.augment_name.new.buffer) in
    subst done (sym (view_name e c.in-Name.name c.in-Name.is)) c.augment_name.ensures

pub returns-in-Attr : goal.returns-in-Attr
returns-in-Attr c =
    let locals : List ℕ = c.args.names.now in
    let e = c.args.target.now in
    let done : Expr → Type 0 = λ x. OnOk c.augment_attr.result (Grows (augmented locals c.args.line x c.args.op (expr_view c.args.value.now)) c.args.buffer.now c.augment_attr.new.buffer) in
    subst done (sym (view_attr e c.in-Attr.object c.in-Attr.name c.in-Attr.is))
    (subst (λ o. done (node (attr (expr_view o) c.in-Attr.name) e.line e.site)) c.deref.ensures c.augment_attr.ensures)

pub returns-in-Item : goal.returns-in-Item
returns-in-Item c =
    let locals : List ℕ = c.args.names.now in
    let e = c.args.target.now in
    let done : Expr → Type 0 = λ x. OnOk c.augment_item.result (Grows (augmented locals c.args.line x c.args.op (expr_view c.args.value.now)) c.args.buffer.now c.augment_item.new.buffer) in
    subst done (sym (view_item e c.in-Item.container c.in-Item.index c.in-Item.is))
    (subst (λ o. done (node (item (expr_view o) (expr_view c.in-Item.index.value)) e.line e.site)) c.deref-in-Item.ensures
    (subst (λ i. done (node (item (expr_view c.deref-in-Item.result.now) (expr_view i)) e.line e.site)) c.deref-in-Item-2.ensures c.augment_item.ensures))
