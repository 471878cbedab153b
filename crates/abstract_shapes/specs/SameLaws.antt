-- The test of sameness decides equality, so it is an equivalence, and what is the same is fed to a hasher alike.
use Rattle.std.specs.Prelude.{◌≡◌, ℕ, Bool, true, false, ◌&&◌, ◌==◌, nat_eq, List, Option, Some, None, IsTrue, refl}
use Rattle.std.proofs.Common.{sym, ap, ◌∙◌, true≢false}
use Rattle.std.proofs.lemmas.Bool.Decides.{Decides-eqb}
use Rattle.std.specs.Bool.{Decides}
use Rattle.std.specs.Cmp.{IsEquivalence, on_equiv}
use Rattle.std.specs.Cmp.Lexicographic.{bytes_decides}
use Rattle.std.specs.Option.{option_eq}
use Rattle.std.specs.Str.{bytes_eq}
use Rattle.type_terms.proofs.SameLemmas.{term_is, term_itself}
use Rattle.abstract_shapes.specs.declared.shape.Row.{Row}
use Rattle.abstract_shapes.specs.declared.shape.Row.TheVariants as row
use Rattle.abstract_shapes.specs.declared.shape.Shape as rust
use Rattle.abstract_shapes.specs.Marks.{marks}
use Rattle.abstract_shapes.specs.Same.{same_row, same_structure, same_shape}
use Rattle.abstract_shapes.specs.Shapes.{Shape, none, true_value, false_value, int, float, str, bytes, list, dict, tuple, pair, view, fun, bound, bound_native, class, inst, native, stub_module, given, ext, any}
use Rattle.abstract_shapes.specs.Sketches.{sketch}

pub number_is : (n m : ℕ) → (n == m) ≡ true → n ≡ m
number_is n m h = (Decides-eqb n m).0 h

pub number_itself : (n : ℕ) → (n == n) ≡ true
number_itself n = (Decides-eqb n n).1 refl

pub both_of : (a b : Bool) → (a && b) ≡ true → (a ≡ true) × (b ≡ true)
both_of true b h = (refl, h)
both_of false b h = absurd (true≢false (sym h))

pub both : (a b : Bool) → a ≡ true → b ≡ true → (a && b) ≡ true
both a b h k = ap (λ t. t && b) h ∙ k

pub text_is : (n m : List ℕ) → bytes_eq n m ≡ true → n ≡ m
text_is n m h = (bytes_decides n m).0 h

pub text_itself : (n : List ℕ) → bytes_eq n n ≡ true
text_itself n = (bytes_decides n n).1 refl

-- what a test decides is decided
pub decided : {X : Type 0} {x y : X} (b : Bool) → (b ≡ true → x ≡ y) → (x ≡ y → b ≡ true) → Dec (x ≡ y)
decided true is has = yes (is refl)
decided false is has = no (λ e. true≢false (sym (has e)))

pub row_is : (r q : Row) → same_row r q ≡ true → r ≡ q
row_is (row.Builtin n) (row.Builtin m) h = ap row.Builtin (number_is n m h)
row_is (row.StubFun m f) (row.StubFun n g) h =
    let parts = both_of (bytes_eq m n) (bytes_eq f g) h in
    ap (λ x. row.StubFun x f) (text_is m n parts.0) ∙ ap (row.StubFun n) (text_is f g parts.1)
row_is (row.StubClass m f) (row.StubClass n g) h =
    let parts = both_of (bytes_eq m n) (bytes_eq f g) h in
    ap (λ x. row.StubClass x f) (text_is m n parts.0) ∙ ap (row.StubClass n) (text_is f g parts.1)
row_is (row.StubMethod m c f) (row.StubMethod n d g) h =
    let parts = both_of (bytes_eq m n) (bytes_eq c d && bytes_eq f g) h in
    let rest = both_of (bytes_eq c d) (bytes_eq f g) parts.1 in
    ap (λ x. row.StubMethod x c f) (text_is m n parts.0) ∙ ap (λ x. row.StubMethod n x f) (text_is c d rest.0) ∙ ap (row.StubMethod n d) (text_is f g rest.1)
row_is r q h = absurd (true≢false (sym h))

pub row_itself : (r : Row) → same_row r r ≡ true
row_itself (row.Builtin n) = number_itself n
row_itself (row.StubFun m f) = both _ _ (text_itself m) (text_itself f)
row_itself (row.StubClass m f) = both _ _ (text_itself m) (text_itself f)
row_itself (row.StubMethod m c f) = both _ _ (text_itself m) (both _ _ (text_itself c) (text_itself f))

pub row-discrete : Discrete Row
row-discrete r q = decided (same_row r q) (row_is r q) (λ e. ap (same_row r) (sym e) ∙ row_itself r)

pub count_is : (n m : Option ℕ) → option_eq nat_eq n m ≡ true → n ≡ m
count_is None None h = refl
count_is (Some n) (Some m) h = ap Some (number_is n m h)
count_is n m h = absurd (true≢false (sym h))

pub count_itself : (n : Option ℕ) → option_eq nat_eq n n ≡ true
count_itself None = refl
count_itself (Some n) = number_itself n

pub structure_is : (r s : Shape) → same_structure r s ≡ true → r ≡ s
structure_is none none h = refl
structure_is true_value true_value h = refl
structure_is false_value false_value h = refl
structure_is int int h = refl
structure_is float float h = refl
structure_is str str h = refl
structure_is bytes bytes h = refl
structure_is (list n) (list m) h = ap list (number_is n m h)
structure_is (dict n) (dict m) h = ap dict (number_is n m h)
structure_is (tuple n k) (tuple m l) h =
    let parts = both_of (n == m) (option_eq nat_eq k l) h in
    ap (λ x. tuple x k) (number_is n m parts.0) ∙ ap (tuple m) (count_is k l parts.1)
structure_is (pair n) (pair m) h = ap pair (number_is n m h)
structure_is (view n) (view m) h = ap view (number_is n m h)
structure_is (fun n) (fun m) h = ap fun (number_is n m h)
structure_is (bound c n) (bound d m) h =
    let parts = both_of (c == d) (n == m) h in
    ap (λ x. bound x n) (number_is c d parts.0) ∙ ap (bound d) (number_is n m parts.1)
structure_is (bound_native s r) (bound_native t q) h =
    let parts = both_of (same_structure s t) (same_row r q) h in
    ap (λ x. bound_native x r) (structure_is s t parts.0) ∙ ap (bound_native t) (row_is r q parts.1)
structure_is (class n) (class m) h = ap class (number_is n m h)
structure_is (inst n) (inst m) h = ap inst (number_is n m h)
structure_is (native r) (native q) h = ap native (row_is r q h)
structure_is (stub_module n) (stub_module m) h = ap stub_module (text_is n m h)
structure_is (given t) (given u) h = ap given (term_is t u h)
structure_is ext ext h = refl
structure_is any any h = refl
structure_is r s h = absurd (true≢false (sym h))

pub structure_itself : (s : Shape) → same_structure s s ≡ true
structure_itself none = refl
structure_itself true_value = refl
structure_itself false_value = refl
structure_itself int = refl
structure_itself float = refl
structure_itself str = refl
structure_itself bytes = refl
structure_itself (list n) = number_itself n
structure_itself (dict n) = number_itself n
structure_itself (tuple n k) = both _ _ (number_itself n) (count_itself k)
structure_itself (pair n) = number_itself n
structure_itself (view n) = number_itself n
structure_itself (fun n) = number_itself n
structure_itself (bound c n) = both _ _ (number_itself c) (number_itself n)
structure_itself (bound_native s r) = both _ _ (structure_itself s) (row_itself r)
structure_itself (class n) = number_itself n
structure_itself (inst n) = number_itself n
structure_itself (native r) = row_itself r
structure_itself (stub_module m) = text_itself m
structure_itself (given t) = term_itself t
structure_itself ext = refl
structure_itself any = refl

pub structure_decides : (r s : Shape) → Decides (same_structure r s) (r ≡ s)
structure_decides r s = (structure_is r s, λ e. ap (same_structure r) (sym e) ∙ structure_itself r)

pub same_answer : (a b : Bool) → (a ≡ true → b ≡ true) → (b ≡ true → a ≡ true) → a ≡ b
same_answer true true to from = refl
same_answer true false to from = sym (to refl)
same_answer false true to from = from refl
same_answer false false to from = refl

structure_equiv : IsEquivalence same_structure
structure_equiv = record {
  refl = structure_itself;
  symm = λ r s. same_answer (same_structure r s) (same_structure s r) (λ h. (structure_decides s r).1 (sym (structure_is r s h))) (λ h. (structure_decides r s).1 (sym (structure_is s r h)));
  congr = λ r s q h. ap (λ t. same_structure t q) (structure_is r s h);
}

pub same_equiv : IsEquivalence same_shape
same_equiv = on_equiv sketch structure_equiv

pub same_marks : (r s : rust.Shape) → IsTrue (same_shape r s) → marks (sketch r) ≡ marks (sketch s)
same_marks r s h = ap marks (structure_is (sketch r) (sketch s) h)
