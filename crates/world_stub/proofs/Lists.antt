-- Lists with one element more, and mapped.
use Rattle.std.proofs.Common.{◌≡◌, ◌⊎◌, ℕ, zero, suc, Option, Some, List, [], ◌∷◌, ◌++◌, length, map, slice_get, inl, inr, ap}
use Rattle.std.specs.List.{Contains}
use Rattle.std.proofs.lemmas.List.Elements.{Contains-append_cases, Contains-append_left, Contains-append_right}
use Rattle.graph_walks.proofs.Lists.{first_as, only}

module _ {X : Type 0} where
  pub with_last : (xs : List X) (y x : X) → Contains (xs ++ y ∷ []) x → Contains xs x ⊎ (x ≡ y)
  with_last xs y x c = elim (Contains-append_cases xs (y ∷ []) x c) [ inl d ↦ inl d | inr d ↦ inr (only y x d) ]

  pub before_last : (xs : List X) (y x : X) → Contains xs x → Contains (xs ++ y ∷ []) x
  before_last xs y x c = Contains-append_left xs (y ∷ []) x c

  pub at_last : (xs : List X) (y x : X) → x ≡ y → Contains (xs ++ y ∷ []) x
  at_last xs y x e = Contains-append_right xs (y ∷ []) x (first_as y x [] e)

pub map_get : {X Y : Type 0} (f : X → Y) (xs : List X) (k : ℕ) (x : X) → slice_get xs k ≡ Some x → slice_get (map f xs) k ≡ Some (f x)
map_get f [] k x e = cc
map_get f (y ∷ xs) zero x e = let same : y ≡ x = cc in ap (λ z. Some (f z)) same
map_get f (y ∷ xs) (suc k) x e = map_get f xs k x e
