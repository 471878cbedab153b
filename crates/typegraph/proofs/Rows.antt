-- Rows that are changed at a place, and changed back.
use Rattle.std.proofs.Common.{◌≡◌, ℕ, suc, zero, ◌<◌, List, [], ◌∷◌, length, get_or, slice_set, slice_get, refl, sym, ap, ◌∙◌, arith}
use Rattle.std.proofs.lemmas.Option.{slice_get_read}
use Rattle.flow_graph.specs.Flows.{changed_at}
use Rattle.flow_graph.proofs.Valid.{changed_by_set}
use Rattle.typegraph.specs.Graphs.{row_of}

module _ {X : Type 0} where
  pub row_changed : (f : X → X) (xs ys : List X) (place at : ℕ) (x y : X) → xs ≡ ys → place ≡ at → at < length ys → x ≡ get_or xs place x → y ≡ f x → slice_set xs place y ≡ changed_at f ys at
  row_changed f xs ys place at x y e i l h k =
      changed_by_set f xs place x y (slice_get_read xs _ place x refl (omega (arith, l, i, ap length e)) h) k
      ∙ ap (λ zs. changed_at f zs place) e ∙ ap (changed_at f ys) i

  set_back : (xs : List X) (i : ℕ) (y z d : X) → z ≡ get_or xs i d → slice_set (slice_set xs i y) i z ≡ slice_set xs i (get_or xs i d)
  set_back [] i y z d h = refl
  set_back (x ∷ xs) zero y z d h = ap (λ a. a ∷ xs) h
  set_back (x ∷ xs) (suc i) y z d h = ap (λ a. x ∷ a) (set_back xs i y z d h)

  set_itself : (xs : List X) (i : ℕ) (d : X) → slice_set xs i (get_or xs i d) ≡ xs
  set_itself [] i d = refl
  set_itself (x ∷ xs) zero d = refl
  set_itself (x ∷ xs) (suc i) d = ap (λ a. x ∷ a) (set_itself xs i d)

  get_set : (xs : List X) (i : ℕ) (y d : X) → i < length xs → get_or (slice_set xs i y) i d ≡ y
  get_set [] i y d l = let z : ⊥ = omega (arith, l) in absurd z
  get_set (x ∷ xs) zero y d l = refl
  get_set (x ∷ xs) (suc i) y d l = get_set xs i y d (omega arith)

  -- a row that was set, and set back to what it was
  pub row_undone : (xs ys : List X) (place again at : ℕ) (x y back z : X) → xs ≡ ys → place ≡ at → again ≡ at → at < length ys → x ≡ get_or xs place x → back ≡ get_or (slice_set xs place y) again back → (back ≡ y → z ≡ x) → slice_set (slice_set xs place y) again z ≡ ys
  row_undone xs ys place again at x y back z e i j l h b k =
      let same : again ≡ place = j ∙ sym i in
      let is : back ≡ y = b ∙ ap (λ n. get_or (slice_set xs place y) n back) same ∙ get_set xs place y back (omega (arith, l, i, ap length e)) in
      ap (λ n. slice_set (slice_set xs place y) n z) same ∙ set_back xs place y z x (k is ∙ h) ∙ set_itself xs place x ∙ e

  pub row_stays : (xs ys : List X) (place : ℕ) (x y : X) → xs ≡ ys → x ≡ get_or xs place x → y ≡ x → slice_set xs place y ≡ ys
  row_stays xs ys place x y e h k = ap (slice_set xs place) (k ∙ h) ∙ set_itself xs place x ∙ e

pub row_read : {X : Type 0} (rows given : List (List X)) (place at : ℕ) (row : List X) → rows ≡ given → place ≡ at → at < length given → row ≡ get_or rows place row → row_of (slice_get given at) ≡ row
row_read rows given place at row e i l h =
    ap (λ rs. row_of (slice_get rs at)) (sym e) ∙ ap (λ n. row_of (slice_get rows n)) (sym i)
    ∙ ap row_of (slice_get_read rows _ place row refl (omega (arith, l, i, ap length e)) h)
