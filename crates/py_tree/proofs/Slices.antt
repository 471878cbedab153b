-- The view of a slice, bound by bound.
use Rattle.std.proofs.Common.{◌≡◌, Option, Some, None, Box, Global, sym, ap, ◌∙◌}
use Rattle.py_tree.specs.declared.expression.Expr as rust_expr
use Rattle.py_tree.specs.declared.expression.ExprKind.{fold-roll-ExprKind}
use Rattle.py_tree.specs.declared.expression.ExprKind.TheOpen.{ExprKind-F}
use Rattle.py_tree.specs.declared.expression.ExprKind.TheVariants.{rolls-Slice, Slice}
use Rattle.py_tree.specs.Tree.{Expr, ExprKind, slice}
use Rattle.py_tree.specs.View.{Arg, Pair, expr_kind_step, arg_step, expr_step, pair_step, expr_view, expr_kind_view, bound_view}

abbrev Bounds : Type 0
Bounds = Option (Box rust_expr.Expr Global)

pub view_slice : (a : Box rust_expr.Expr Global) (b c d : Bounds) → expr_kind_view (Slice a b c d) ≡ slice (expr_view a.value) (bound_view b) (bound_view c) (bound_view d)
view_slice a None None None = ap expr_kind_view (sym (rolls-Slice a None None None)) ∙ fold-roll-ExprKind ExprKind Arg Expr Pair expr_kind_step arg_step expr_step pair_step (ExprKind-F.Slice a None None None)
view_slice a None None (Some z) = ap expr_kind_view (sym (rolls-Slice a None None (Some z))) ∙ fold-roll-ExprKind ExprKind Arg Expr Pair expr_kind_step arg_step expr_step pair_step (ExprKind-F.Slice a None None (Some z))
view_slice a None (Some y) None = ap expr_kind_view (sym (rolls-Slice a None (Some y) None)) ∙ fold-roll-ExprKind ExprKind Arg Expr Pair expr_kind_step arg_step expr_step pair_step (ExprKind-F.Slice a None (Some y) None)
view_slice a None (Some y) (Some z) = ap expr_kind_view (sym (rolls-Slice a None (Some y) (Some z))) ∙ fold-roll-ExprKind ExprKind Arg Expr Pair expr_kind_step arg_step expr_step pair_step (ExprKind-F.Slice a None (Some y) (Some z))
view_slice a (Some x) None None = ap expr_kind_view (sym (rolls-Slice a (Some x) None None)) ∙ fold-roll-ExprKind ExprKind Arg Expr Pair expr_kind_step arg_step expr_step pair_step (ExprKind-F.Slice a (Some x) None None)
view_slice a (Some x) None (Some z) = ap expr_kind_view (sym (rolls-Slice a (Some x) None (Some z))) ∙ fold-roll-ExprKind ExprKind Arg Expr Pair expr_kind_step arg_step expr_step pair_step (ExprKind-F.Slice a (Some x) None (Some z))
view_slice a (Some x) (Some y) None = ap expr_kind_view (sym (rolls-Slice a (Some x) (Some y) None)) ∙ fold-roll-ExprKind ExprKind Arg Expr Pair expr_kind_step arg_step expr_step pair_step (ExprKind-F.Slice a (Some x) (Some y) None)
view_slice a (Some x) (Some y) (Some z) = ap expr_kind_view (sym (rolls-Slice a (Some x) (Some y) (Some z))) ∙ fold-roll-ExprKind ExprKind Arg Expr Pair expr_kind_step arg_step expr_step pair_step (ExprKind-F.Slice a (Some x) (Some y) (Some z))
