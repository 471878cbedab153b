-- Targets that are not one.
use Rattle.std.proofs.Common.{◌≡◌, ◌≤◌, List, [], ◌∷◌, length, None, refl, arith}
use Rattle.py_tree.specs.declared.expression.Expr as rust_expr
use Rattle.py_tree.specs.View.{exprs_view}
use Rattle.built_forms.specs.Forms.{single_name}

pub none_of_many : (xs : List rust_expr.Expr) → 2 ≤ length xs → single_name (exprs_view xs) ≡ None
none_of_many [] many = absurd (omega (arith, many))
none_of_many (x ∷ []) many = absurd (omega (arith, many))
none_of_many (x ∷ y ∷ xs) many = refl
