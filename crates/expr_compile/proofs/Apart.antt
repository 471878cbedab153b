-- What is done with parts of expressions, as the tree has them.
use Rattle.std.proofs.Common.{◌≡◌, ◌⊎◌, ℕ, List, Vec, Global, inl, inr, ap}
use Rattle.py_tree.specs.declared.expression.Expr as rust_expr
use Rattle.py_tree.specs.declared.expression.ExprKind.TheVariants as kind
use Rattle.py_tree.specs.View.{expr_view, exprs_view}
use Rattle.py_tree.proofs.ExpressionViews.{view_tuple, view_list}
use Rattle.stack_code.specs.declared.op.Op.TheVariants as op
use Rattle.tree_code.specs.Pieces.{one, ◌⨾◌}
use Rattle.tree_code.specs.Expressions.{parts, put, puts, count}

-- a tuple and a list take a value apart in the same way
pub put_apart : (locals : List ℕ) (e : rust_expr.Expr) (xs : Vec rust_expr.Expr Global) → (e.kind ≡ kind.Tuple xs) ⊎ (e.kind ≡ kind.List xs) →
    put locals (expr_view e) ≡ (parts e.line (count (exprs_view xs.items)) (count (exprs_view xs.items)) ⨾ puts locals (exprs_view xs.items) ⨾ one op.Pop e.line)
put_apart locals e xs (inl is) = ap (put locals) (view_tuple e xs is)
put_apart locals e xs (inr is) = ap (put locals) (view_list e xs is)
