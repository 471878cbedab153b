-- Shapes that are the same, and shapes of one structure.
use Rattle.std.proofs.Common.{◌≡◌, ℕ, ◌==◌, true, nat_eq, refl, sym, ap, ◌∙◌}
use Rattle.std.specs.Option.{option_eq}
use Rattle.std.specs.Str.{bytes_eq}
use Rattle.type_terms.specs.Same.{same_term}
use Rattle.type_terms.specs.View.{term_view}
use Rattle.type_terms.proofs.SameLemmas.{term_is, term_itself}
use Rattle.abstract_shapes.specs.declared.shape.Shape as rust
use Rattle.abstract_shapes.specs.declared.shape.Shape.TheVariants as shape
use Rattle.abstract_shapes.specs.Numbering.{structure_by}
use Rattle.abstract_shapes.specs.Same.{same_row, same_shape}
use Rattle.abstract_shapes.specs.Shapes.{Shape, list, dict, tuple, pair, view, fun, bound, bound_native, class, inst, native, stub_module, given}
use Rattle.abstract_shapes.specs.SameLaws.{number_is, number_itself, both_of, both, text_is, text_itself, row_is, row_itself, count_is, count_itself}

pub same_sound : (at : ℕ → Shape) (r s : rust.Shape) → same_shape r s ≡ true → structure_by at r ≡ structure_by at s
same_sound at shape.NoneValue shape.NoneValue h = refl
same_sound at shape.TrueValue shape.TrueValue h = refl
same_sound at shape.FalseValue shape.FalseValue h = refl
same_sound at shape.Int shape.Int h = refl
same_sound at shape.Float shape.Float h = refl
same_sound at shape.Str shape.Str h = refl
same_sound at shape.Bytes shape.Bytes h = refl
same_sound at (shape.List n) (shape.List m) h = ap list (number_is n m h)
same_sound at (shape.Dict n) (shape.Dict m) h = ap dict (number_is n m h)
same_sound at (shape.Tuple n k) (shape.Tuple m l) h =
    let parts = both_of (n == m) (option_eq nat_eq k l) h in
    ap (λ x. tuple x k) (number_is n m parts.0) ∙ ap (tuple m) (count_is k l parts.1)
same_sound at (shape.Pair n) (shape.Pair m) h = ap pair (number_is n m h)
same_sound at (shape.View n) (shape.View m) h = ap view (number_is n m h)
same_sound at (shape.Fun n) (shape.Fun m) h = ap fun (number_is n m h)
same_sound at (shape.Bound c n) (shape.Bound d m) h =
    let parts = both_of (c == d) (n == m) h in
    ap (λ x. bound x n) (number_is c d parts.0) ∙ ap (bound d) (number_is n m parts.1)
same_sound at (shape.BoundNative n r) (shape.BoundNative m q) h =
    let parts = both_of (n == m) (same_row r q) h in
    ap (λ x. bound_native (at x) r) (number_is n m parts.0) ∙ ap (bound_native (at m)) (row_is r q parts.1)
same_sound at (shape.Class n) (shape.Class m) h = ap class (number_is n m h)
same_sound at (shape.Inst n) (shape.Inst m) h = ap inst (number_is n m h)
same_sound at (shape.Native r) (shape.Native q) h = ap native (row_is r q h)
same_sound at (shape.Module n) (shape.Module m) h = ap stub_module (text_is n m h)
same_sound at (shape.Given t) (shape.Given u) h = ap given (term_is (term_view t) (term_view u) h)
same_sound at shape.Ext shape.Ext h = refl
same_sound at shape.Any shape.Any h = refl
same_sound at r s h = absurd (cc)

number_same : (n m : ℕ) → n ≡ m → (n == m) ≡ true
number_same n m e = ap (λ k. n == k) (sym e) ∙ number_itself n

-- the id of a shape's receiver
abbrev pub HasReceiver : rust.Shape → ℕ → Type 0
HasReceiver (shape.BoundNative id row) n = id ≡ n
HasReceiver _ n = ⊥

-- where two receivers that are one have one id, shapes of one structure are the same
pub same_complete : (at : ℕ → Shape) (r s : rust.Shape) → ((n m : ℕ) → HasReceiver r n → HasReceiver s m → at n ≡ at m → n ≡ m) → structure_by at r ≡ structure_by at s → same_shape r s ≡ true
same_complete at shape.NoneValue shape.NoneValue one e = refl
same_complete at shape.TrueValue shape.TrueValue one e = refl
same_complete at shape.FalseValue shape.FalseValue one e = refl
same_complete at shape.Int shape.Int one e = refl
same_complete at shape.Float shape.Float one e = refl
same_complete at shape.Str shape.Str one e = refl
same_complete at shape.Bytes shape.Bytes one e = refl
same_complete at (shape.List n) (shape.List m) one e = number_same n m cc
same_complete at (shape.Dict n) (shape.Dict m) one e = number_same n m cc
same_complete at (shape.Tuple n a) (shape.Tuple m b) one e =
    let ab : a ≡ b = cc in
    both _ _ (number_same n m cc) (ap (λ x. option_eq nat_eq a x) (sym ab) ∙ count_itself a)
same_complete at (shape.Pair n) (shape.Pair m) one e = number_same n m cc
same_complete at (shape.View n) (shape.View m) one e = number_same n m cc
same_complete at (shape.Fun n) (shape.Fun m) one e = number_same n m cc
same_complete at (shape.Bound c n) (shape.Bound d m) one e = both _ _ (number_same c d cc) (number_same n m cc)
same_complete at (shape.BoundNative n r) (shape.BoundNative m q) one e =
    let rows : r ≡ q = cc in
    both _ _ (number_same n m (one n m refl refl cc)) (ap (λ x. same_row r x) (sym rows) ∙ row_itself r)
same_complete at (shape.Class n) (shape.Class m) one e = number_same n m cc
same_complete at (shape.Inst n) (shape.Inst m) one e = number_same n m cc
same_complete at (shape.Native r) (shape.Native q) one e =
    let rows : r ≡ q = cc in
    ap (λ x. same_row r x) (sym rows) ∙ row_itself r
same_complete at (shape.Module n) (shape.Module m) one e =
    let texts : n ≡ m = cc in
    ap (λ x. bytes_eq n x) (sym texts) ∙ text_itself n
same_complete at (shape.Given t) (shape.Given u) one e =
    let terms : term_view t ≡ term_view u = cc in
    ap (λ x. same_term (term_view t) x) (sym terms) ∙ term_itself (term_view t)
same_complete at shape.Ext shape.Ext one e = refl
same_complete at shape.Any shape.Any one e = refl
same_complete at r s one e = absurd (cc)
