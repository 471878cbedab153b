-- Loops over the parts of a tree.
use Rattle.std.proofs.Common.{◌≡◌, ℕ, suc, ◌+◌, ◌<◌, List, [], ◌∷◌, ◌++◌, length, refl, drop, drop-cons, get_or, add-one, sym, ap, ◌∙◌}
use Rattle.py_tree.specs.declared.expression.Expr.{Expr}
use Rattle.py_tree.specs.View.{expr_view, exprs_view}
use Rattle.stack_code.specs.declared.op.Op.TheVariants as op
use Rattle.tree_code.specs.Pieces.{one, ◌⨾◌}
use Rattle.tree_code.specs.Expressions.{put}
use Rattle.tree_code.specs.Statements.{put_all}

-- what is left at a place is the item there and what is left after it
pub left_at : {A : Type 0} (xs : List A) (i : ℕ) (x : A) → i < length xs → x ≡ get_or xs i x → drop i xs ≡ x ∷ drop (i + 1) xs
left_at xs i x h e = drop-cons xs i x h ∙ ap (λ y. y ∷ drop (suc i) xs) (sym e) ∙ ap (λ n. x ∷ drop n xs) (sym (add-one i))

-- a target before the last gets a copy
pub put_all_more : (locals : List ℕ) (line : ℕ) (x : Expr) (xs : List Expr) (last : Expr) →
    put_all locals line (exprs_view (x ∷ (xs ++ last ∷ []))) ≡ (one (op.Pick 0) line ⨾ put locals (expr_view x) ⨾ put_all locals line (exprs_view (xs ++ last ∷ [])))
put_all_more locals line x [] last = refl
put_all_more locals line x (y ∷ ys) last = refl
