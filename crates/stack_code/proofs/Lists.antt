-- Lists of depths: what stands at a place after one is set, and how many places have no depth.
use Rattle.std.proofs.Common.{◌≡◌, ◌≢◌, ℕ, suc, zero, ◌<◌, Option, Some, None, List, [], ◌∷◌, slice_get, slice_set, replicate, refl, sym, ap, ◌∙◌, arith}
use Rattle.std.proofs.lemmas.List.{get_or-replicate, length-replicate}
use Rattle.std.proofs.lemmas.Option.{slice_get_within, slice_get-get_or}

pub get-set_same : {X : Type 0} (xs : List X) (i : ℕ) (x y : X) → slice_get xs i ≡ Some x → slice_get (slice_set xs i y) i ≡ Some y
get-set_same [] i x y h = cc
get-set_same (z ∷ xs) zero x y h = refl
get-set_same (z ∷ xs) (suc i) x y h = get-set_same xs i x y h

pub get-set_other : {X : Type 0} (xs : List X) (i j : ℕ) (y : X) → j ≢ i → slice_get (slice_set xs i y) j ≡ slice_get xs j
get-set_other [] i j y n = refl
get-set_other (z ∷ xs) zero zero y n = absurd (n refl)
get-set_other (z ∷ xs) zero (suc j) y n = refl
get-set_other (z ∷ xs) (suc i) zero y n = refl
get-set_other (z ∷ xs) (suc i) (suc j) y n = get-set_other xs i j y (λ e. n (ap suc e))

-- how many places have no depth
abbrev pub blanks : List (Option ℕ) → ℕ
blanks [] = 0
blanks (None ∷ ds) = suc (blanks ds)
blanks (Some d ∷ ds) = blanks ds

pub blanks-set : (ds : List (Option ℕ)) (i d : ℕ) → slice_get ds i ≡ Some None → suc (blanks (slice_set ds i (Some d))) ≡ blanks ds
blanks-set [] i d h = cc
blanks-set (None ∷ ds) zero d h = refl
blanks-set (Some e ∷ ds) zero d h = cc
blanks-set (None ∷ ds) (suc i) d h = ap suc (blanks-set ds i d h)
blanks-set (Some e ∷ ds) (suc i) d h = blanks-set ds i d h

pub blanks-replicate : (n : ℕ) → blanks (replicate n None) ≡ n
blanks-replicate zero = refl
blanks-replicate (suc n) = ap suc (blanks-replicate n)

pub replicate_blank : (n i d : ℕ) → slice_get (replicate n None) i ≡ Some (Some d) → ⊥
replicate_blank n i d h =
    let size = length-replicate {A = Option ℕ} n None in
    let within : i < n = omega (arith, slice_get_within (replicate n None) i (Some d) h, size) in
    let is : Some (Some d) ≡ Some None = sym h ∙ slice_get-get_or (replicate n None) i None (omega (arith, within, size)) ∙ ap Some (get_or-replicate n i None None within) in
    cc
