-- Variables and shapes, pair by pair.
use Rattle.std.proofs.Common.{◌≡◌, ℕ, suc, zero, Some, None, List, [], ◌∷◌, drop, slice_get, refl, ap, ◌∙◌}
use Rattle.graph_queries.specs.Choices.{bindings}

-- the pair that comes next
pub next_pair : (vars shapes : List ℕ) (k v s : ℕ) → slice_get vars k ≡ Some v → slice_get shapes k ≡ Some s →
    bindings (drop k vars) (drop k shapes) ≡ record { var = v; shape = s } ∷ bindings (drop (suc k) vars) (drop (suc k) shapes)
next_pair [] shapes k v s i j = cc
next_pair (x ∷ xs) [] k v s i j = cc
next_pair (x ∷ xs) (y ∷ ys) zero v s i j = let a : x ≡ v = cc in let b : y ≡ s = cc in ap (λ n. record { var = n; shape = y } ∷ bindings xs ys) a ∙ ap (λ n. record { var = v; shape = n } ∷ bindings xs ys) b
next_pair (x ∷ xs) (y ∷ ys) (suc k) v s i j = next_pair xs ys k v s i j

-- behind the last shape there is no pair
pub no_pair : (vars shapes : List ℕ) (k : ℕ) → slice_get shapes k ≡ None → bindings (drop k vars) (drop k shapes) ≡ []
no_pair [] [] zero i = refl
no_pair [] [] (suc k) i = refl
no_pair [] (y ∷ ys) zero i = cc
no_pair [] (y ∷ ys) (suc k) i = refl
no_pair (x ∷ xs) [] zero i = refl
no_pair (x ∷ xs) [] (suc k) i = none (drop k xs)
  where
    none : (vs : List ℕ) → bindings vs [] ≡ []
    none [] = refl
    none (v ∷ vs) = refl
no_pair (x ∷ xs) (y ∷ ys) zero i = cc
no_pair (x ∷ xs) (y ∷ ys) (suc k) i = no_pair xs ys k i
