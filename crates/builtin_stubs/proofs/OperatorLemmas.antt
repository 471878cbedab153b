-- What an operator gives is of a row.
use Rattle.std.proofs.Common.{◌≡◌, Bool, true, false, ◌&&◌, IsTrue, List, [], ◌∷◌, ◌++◌, Some, None, if◌then◌else◌, refl, ap, ◌∙◌, subst}
use Rattle.place_ids.specs.declared.operators.BinOp.{BinOp}
use Rattle.builtin_stubs.specs.declared.basic.Basic.{Basic}
use Rattle.builtin_stubs.specs.Operands.{fits, first_of_two}
use Rattle.builtin_stubs.specs.Operators.{Rows, op_rows, op_kinds}
use Rattle.builtin_stubs.specs.Laws.{FitsRow}

none_is_not : (ks : List Basic) → None ≡ Some ks → ⊥
none_is_not ks e = cc

same_inside : (ks ls : List Basic) → Some ks ≡ Some ls → ks ≡ ls
same_inside ks ls e = cc

both : (a b : Bool) → (a && b) ≡ true → IsTrue a × IsTrue b
both true true e = (refl, refl)
both true false e = cc
both false b e = cc

-- the rows that were passed stand before the others
module _ (op : BinOp) (left right : Basic) (ks : List Basic) where
  found : (before rows : Rows) → op_rows op ≡ before ++ rows → first_of_two rows left right ≡ Some ks → FitsRow op left right ks
  found before [] stands e = absurd (none_is_not ks e)
  found before (r ∷ rows) stands e =
      elim (fits r.0 left && fits r.1 right) as (λ b. (fits r.0 left && fits r.1 right) ≡ b → (if b then Some r.2 else first_of_two rows left right) ≡ Some ks → FitsRow op left right ks) [
        | true ↦ λ here same.
            let fit : IsTrue (fits r.0 left) × IsTrue (fits r.1 right) = both (fits r.0 left) (fits r.1 right) here in
            record {
              left_cell = r.0;
              right_cell = r.1;
              before = before;
              after = rows;
              stands = subst (λ k. op_rows op ≡ before ++ (r.0, r.1, k) ∷ rows) (same_inside r.2 ks same) stands;
              fits_left = fit.0;
              fits_right = fit.1;
            }
        | false ↦ λ _ later. found (before ++ r ∷ []) rows (stands ∙ shift before r rows) later
      ] refl e
    where
      shift : {X : Type 0} (xs : List X) (x : X) (ys : List X) → xs ++ x ∷ ys ≡ (xs ++ x ∷ []) ++ ys
      shift [] x ys = refl
      shift (z ∷ xs) x ys = ap (λ zs. z ∷ zs) (shift xs x ys)

pub of_a_row : (op : BinOp) (left right : Basic) (ks : List Basic) → op_kinds op left right ≡ Some ks → FitsRow op left right ks
of_a_row op left right ks e = found op left right ks [] (op_rows op) refl e
