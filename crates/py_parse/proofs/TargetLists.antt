-- Whether the rest of a list has targets alone.
use Rattle.std.proofs.Common.{◌≡◌, ◌<◌, ◌+◌, ◌==◌, ℕ, false, ◌&&◌, List, [], ◌∷◌, length, get_or, drop, refl, sym, ap, ◌∙◌}
use Rattle.std.proofs.lemmas.List.{at_drop_more}
use Rattle.py_tree.specs.declared.expression.Expr as rust_expr
use Rattle.py_tree.specs.View.{expr_view, exprs_view}
use Rattle.py_descent.specs.Bodies.{is_target, some_targets, are_targets}

first_left : (x : rust_expr.Expr) (xs : List rust_expr.Expr) → are_targets (exprs_view (x ∷ xs)) ≡ (is_target (expr_view x) && are_targets (exprs_view xs))
unfolding is_target
first_left x xs = refl

pub next_target : (xs : List rust_expr.Expr) (i : ℕ) (x : rust_expr.Expr) → i < length xs → x ≡ get_or xs i x → are_targets (exprs_view (drop i xs)) ≡ (is_target (expr_view x) && are_targets (exprs_view (drop (i + 1) xs)))
next_target xs i x h e =
    at_drop_more (λ (l : List rust_expr.Expr). are_targets (exprs_view l)) xs i x h
    ∙ ap (λ (y : rust_expr.Expr). are_targets (exprs_view (y ∷ drop (i + 1) xs))) (sym e)
    ∙ first_left x (drop (i + 1) xs)

pub some_in : (xs : List rust_expr.Expr) → (length xs == 0) ≡ false → some_targets (exprs_view xs) ≡ are_targets (exprs_view xs)
unfolding is_target
some_in [] h = absurd cc
some_in (x ∷ xs) h = refl
