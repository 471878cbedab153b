-- What an expression, an argument and a pair are in the tree.
use Rattle.std.proofs.Common.{◌≡◌, ℕ, Box, Vec, Global, sym, ap, ◌∙◌}
use Rattle.py_tree.specs.declared.expression.Arg as rust_arg
use Rattle.py_tree.specs.declared.expression.Arg.{fold_out-Arg}
use Rattle.py_tree.specs.declared.expression.Expr as rust_expr
use Rattle.py_tree.specs.declared.expression.Expr.{fold_out-Expr}
use Rattle.py_tree.specs.declared.expression.ExprKind.{fold-roll-ExprKind}
use Rattle.py_tree.specs.declared.expression.ExprKind.TheOpen.{ExprKind-F}
use Rattle.py_tree.specs.declared.expression.ExprKind.TheVariants as kind
use Rattle.py_tree.specs.declared.expression.Pair as rust_pair
use Rattle.py_tree.specs.declared.expression.Pair.{fold_out-Pair}
use Rattle.py_tree.specs.Tree.{Expr, ExprKind, node, name, attr, item, tuple, list, dict, site_of}
use Rattle.py_tree.specs.View.{Arg, Pair, expr_kind_step, arg_step, expr_step, pair_step, expr_view, expr_kind_view, exprs_view, arg_view, pair_view, pairs_view}

pub view_arg : (a : rust_arg.Arg) → arg_view a ≡ (a.name, expr_view a.value)
view_arg a = fold_out-Arg ExprKind Arg Expr Pair expr_kind_step arg_step expr_step pair_step a

pub view_pair : (p : rust_pair.Pair) → pair_view p ≡ (expr_view p.key, expr_view p.value)
view_pair p = fold_out-Pair ExprKind Arg Expr Pair expr_kind_step arg_step expr_step pair_step p

pub view_expr : (e : rust_expr.Expr) → expr_view e ≡ node (expr_kind_view e.kind) e.line e.site
view_expr e = fold_out-Expr ExprKind Arg Expr Pair expr_kind_step arg_step expr_step pair_step e

pub view_site : (e : rust_expr.Expr) → site_of (expr_view e) ≡ e.site
view_site e = ap site_of (view_expr e)

pub view_name : (e : rust_expr.Expr) (n : ℕ) → e.kind ≡ kind.Name n → expr_view e ≡ node (name n) e.line e.site
view_name e n is =
    view_expr e
    ∙ ap (λ k. node k e.line e.site) (ap expr_kind_view (is ∙ sym (kind.rolls-Name n)) ∙ fold-roll-ExprKind ExprKind Arg Expr Pair expr_kind_step arg_step expr_step pair_step (ExprKind-F.Name n))

pub view_attr : (e : rust_expr.Expr) (a : Box rust_expr.Expr Global) (n : ℕ) → e.kind ≡ kind.Attr a n → expr_view e ≡ node (attr (expr_view a.value) n) e.line e.site
view_attr e a n is =
    view_expr e
    ∙ ap (λ k. node k e.line e.site) (ap expr_kind_view (is ∙ sym (kind.rolls-Attr a n)) ∙ fold-roll-ExprKind ExprKind Arg Expr Pair expr_kind_step arg_step expr_step pair_step (ExprKind-F.Attr a n))

pub view_item : (e : rust_expr.Expr) (a i : Box rust_expr.Expr Global) → e.kind ≡ kind.Item a i → expr_view e ≡ node (item (expr_view a.value) (expr_view i.value)) e.line e.site
view_item e a i is =
    view_expr e
    ∙ ap (λ k. node k e.line e.site) (ap expr_kind_view (is ∙ sym (kind.rolls-Item a i)) ∙ fold-roll-ExprKind ExprKind Arg Expr Pair expr_kind_step arg_step expr_step pair_step (ExprKind-F.Item a i))

pub view_tuple : (e : rust_expr.Expr) (xs : Vec rust_expr.Expr Global) → e.kind ≡ kind.Tuple xs → expr_view e ≡ node (tuple (exprs_view xs.items)) e.line e.site
view_tuple e xs is =
    view_expr e
    ∙ ap (λ k. node k e.line e.site) (ap expr_kind_view (is ∙ sym (kind.rolls-Tuple xs)) ∙ fold-roll-ExprKind ExprKind Arg Expr Pair expr_kind_step arg_step expr_step pair_step (ExprKind-F.Tuple xs))

pub view_list : (e : rust_expr.Expr) (xs : Vec rust_expr.Expr Global) → e.kind ≡ kind.List xs → expr_view e ≡ node (list (exprs_view xs.items)) e.line e.site
view_list e xs is =
    view_expr e
    ∙ ap (λ k. node k e.line e.site) (ap expr_kind_view (is ∙ sym (kind.rolls-List xs)) ∙ fold-roll-ExprKind ExprKind Arg Expr Pair expr_kind_step arg_step expr_step pair_step (ExprKind-F.List xs))

pub view_dict : (e : rust_expr.Expr) (ps : Vec rust_pair.Pair Global) → e.kind ≡ kind.Dict ps → expr_view e ≡ node (dict (pairs_view ps.items)) e.line e.site
view_dict e ps is =
    view_expr e
    ∙ ap (λ k. node k e.line e.site) (ap expr_kind_view (is ∙ sym (kind.rolls-Dict ps)) ∙ fold-roll-ExprKind ExprKind Arg Expr Pair expr_kind_step arg_step expr_step pair_step (ExprKind-F.Dict ps))
