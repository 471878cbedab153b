-- The row at a place of groups, and the number of a row behind others.
use Rattle.std.proofs.Common.{◌≡◌, ℕ, zero, suc, ◌+◌, ◌-◌, ◌<◌, ◌≤◌, List, [], ◌∷◌, ◌++◌, Option, Some, None, option_map, map, length, get_or, slice_get, refl, ap, ◌∙◌, arith}

module _ {X Y : Type 0} (f : X → Y) where
  pub in_group : (g : List X) (rest : List Y) (i : ℕ) (d : X) → i < length g → slice_get (map f g ++ rest) i ≡ Some (f (get_or g i d))
  in_group [] rest i d within = absurd (omega (arith, within))
  in_group (x ∷ g) rest zero d within = refl
  in_group (x ∷ g) rest (suc i) d within = in_group g rest i d (omega (arith, within))

  pub at_place : (g : List X) (i : ℕ) (d : X) → i < length g → slice_get (map f g) i ≡ Some (f (get_or g i d))
  at_place [] i d within = absurd (omega (arith, within))
  at_place (x ∷ g) zero d within = refl
  at_place (x ∷ g) (suc i) d within = at_place g i d (omega (arith, within))

  pub past_group : (g : List X) (rest : List Y) (i : ℕ) → length g ≤ i → slice_get (map f g ++ rest) i ≡ slice_get rest (i - length g)
  past_group [] rest i past = ap (slice_get rest) (omega arith)
  past_group (x ∷ g) rest zero past = absurd (omega (arith, past))
  past_group (x ∷ g) rest (suc i) past = past_group g rest i (omega (arith, past)) ∙ ap (slice_get rest) (omega arith)

pub one_further : (n : ℕ) (place : Option ℕ) → option_map (λ k. n + k) (option_map suc place) ≡ option_map (λ k. n + 1 + k) place
one_further n None = refl
one_further n (Some k) = ap Some (omega arith)

pub past_rows : {X : Type 0} (xs ys : List X) (i : ℕ) → length xs ≤ i → slice_get (xs ++ ys) i ≡ slice_get ys (i - length xs)
past_rows [] ys i past = ap (slice_get ys) (omega arith)
past_rows (x ∷ xs) ys zero past = absurd (omega (arith, past))
past_rows (x ∷ xs) ys (suc i) past = past_rows xs ys i (omega (arith, past)) ∙ ap (slice_get ys) (omega arith)

pub among_rows : {X : Type 0} (xs ys : List X) (i : ℕ) → i < length xs → slice_get (xs ++ ys) i ≡ slice_get xs i
among_rows [] ys i within = absurd (omega (arith, within))
among_rows (x ∷ xs) ys zero within = refl
among_rows (x ∷ xs) ys (suc i) within = among_rows xs ys i (omega (arith, within))
