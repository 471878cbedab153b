-- Lists that grow at their end, and lists of rows.
use Rattle.std.proofs.Common.{◌≡◌, ℕ, suc, zero, ◌+◌, ◌<◌, ◌≤◌, List, [], ◌∷◌, ◌++◌, length, take, slice_get, Some, ◌⊎◌, inl, inr, refl, sym, ap, ◌∙◌, arith, length-append}
use Rattle.std.specs.List.{Contains, flat_map}
use Rattle.std.proofs.lemmas.List.{take-append-le}
use Rattle.std.proofs.lemmas.List.Elements.{Contains-append_cases, Contains-append_left, Contains-append_right}
use Rattle.graph_walks.proofs.Lists.{empty, first_as, later, first_or_later, only, got}
use Rattle.world_tables.specs.Tables.{HaveOneNumber}

module _ {X : Type 0} where
  pub get_old : (xs : List X) (x : X) (k : ℕ) → k < length xs → slice_get (xs ++ x ∷ []) k ≡ slice_get xs k
  get_old [] x k h = absurd (omega arith)
  get_old (y ∷ xs) x zero h = refl
  get_old (y ∷ xs) x (suc k) h = get_old xs x k (omega arith)

  -- what stands in a list with one more is old or the last
  pub get_cases : (xs : List X) (x y : X) (k : ℕ) → slice_get (xs ++ x ∷ []) k ≡ Some y → ((slice_get xs k ≡ Some y) × (k < length xs)) ⊎ ((k ≡ length xs) × (y ≡ x))
  get_cases [] x y zero h = inr (refl, cc)
  get_cases [] x y (suc k) h = cc
  get_cases (z ∷ xs) x y zero h = inl (h, omega arith)
  get_cases (z ∷ xs) x y (suc k) h = go (get_cases xs x y k h)
    where
      go : ((slice_get xs k ≡ Some y) × (k < length xs)) ⊎ ((k ≡ length xs) × (y ≡ x)) → ((slice_get xs k ≡ Some y) × (suc k < suc (length xs))) ⊎ ((suc k ≡ suc (length xs)) × (y ≡ x))
      go (inl p) = let l : k < length xs = p.1 in inl (p.0, omega (arith, l))
      go (inr p) = inr (ap suc p.0, p.1)

  pub get_last : (xs : List X) (x : X) → slice_get (xs ++ x ∷ []) (length xs) ≡ Some x
  get_last [] x = refl
  get_last (y ∷ xs) x = get_last xs x

  pub once_more : (xs : List X) (x : X) → HaveOneNumber xs → ((k : ℕ) → slice_get xs k ≡ Some x → ⊥) → HaveOneNumber (xs ++ x ∷ [])
  once_more xs x once new i j y h k = go (get_cases xs x y i h) (get_cases xs x y j k)
    where
      go : ((slice_get xs i ≡ Some y) × (i < length xs)) ⊎ ((i ≡ length xs) × (y ≡ x)) → ((slice_get xs j ≡ Some y) × (j < length xs)) ⊎ ((j ≡ length xs) × (y ≡ x)) → i ≡ j
      go (inl p) (inl q) = once i j y p.0 q.0
      go (inl p) (inr q) = absurd (new i (p.0 ∙ ap Some q.1))
      go (inr p) (inl q) = absurd (new j (q.0 ∙ ap Some p.1))
      go (inr p) (inr q) = p.0 ∙ sym q.0

  pub no_number : (xs : List X) (x : X) → (Contains xs x → ⊥) → (k : ℕ) → slice_get xs k ≡ Some x → ⊥
  no_number xs x n k h = n (got xs k x h)

  pub one_longer : (xs : List X) (x : X) (n : ℕ) → length xs ≡ n → length (xs ++ x ∷ []) ≡ n + 1
  one_longer xs x n e = length-append xs (x ∷ []) ∙ ap (λ k. k + 1) e

  pub still_there : (xs : List X) (x y : X) → Contains xs y → Contains (xs ++ x ∷ []) y
  still_there xs x y c = Contains-append_left xs (x ∷ []) y c

  pub there_now : (xs : List X) (x : X) → Contains (xs ++ x ∷ []) x
  there_now xs x = Contains-append_right xs (x ∷ []) x (first_as x x [] refl)

  pub old_or_last : (xs : List X) (x y : X) → Contains (xs ++ x ∷ []) y → Contains xs y ⊎ (y ≡ x)
  old_or_last xs x y c = go (Contains-append_cases xs (x ∷ []) y c)
    where
      go : Contains xs y ⊎ Contains (x ∷ []) y → Contains xs y ⊎ (y ≡ x)
      go (inl d) = inl d
      go (inr d) = inr (only x y d)

  pub take_same : (n : ℕ) (xs : List X) (x : X) → n ≤ length xs → take n (xs ++ x ∷ []) ≡ take n xs
  take_same n xs x h = take-append-le n xs (x ∷ []) h

  -- one more of the front is what was there, or the next
  pub take_next : (n : ℕ) (xs : List X) (y : X) → Contains (take (suc n) xs) y → Contains (take n xs) y ⊎ (slice_get xs n ≡ Some y)
  take_next n [] y c = empty y c
  take_next zero (x ∷ xs) y c = inr (ap Some (sym (only x y c)))
  take_next (suc n) (x ∷ xs) y c = go (first_or_later x y (take (suc n) xs) c) (take_next n xs y)
    where
      go : (y ≡ x) ⊎ Contains (take (suc n) xs) y → (Contains (take (suc n) xs) y → Contains (take n xs) y ⊎ (slice_get xs n ≡ Some y)) → Contains (x ∷ take n xs) y ⊎ (slice_get xs n ≡ Some y)
      go (inl e) more = inl (first_as x y (take n xs) e)
      go (inr d) more = over (more d)
        where
          over : Contains (take n xs) y ⊎ (slice_get xs n ≡ Some y) → Contains (x ∷ take n xs) y ⊎ (slice_get xs n ≡ Some y)
          over (inl d) = inl (later x y (take n xs) d)
          over (inr e) = inr e

  pub in_front : (n : ℕ) (xs : List X) (y : X) → Contains (take n xs) y → Contains xs y
  in_front zero xs y c = empty y c
  in_front (suc n) [] y c = empty y c
  in_front (suc n) (x ∷ xs) y c = go (first_or_later x y (take n xs) c) (in_front n xs y)
    where
      go : (y ≡ x) ⊎ Contains (take n xs) y → (Contains (take n xs) y → Contains xs y) → Contains (x ∷ xs) y
      go (inl e) more = first_as x y xs e
      go (inr d) more = later x y xs (more d)

pub flat_append : {X Y : Type 0} (f : X → List Y) (xs : List X) (x : X) → f x ≡ [] → flat_map f (xs ++ x ∷ []) ≡ flat_map f xs
flat_append f [] x e = ap (λ ys. ys ++ []) e
flat_append f (y ∷ xs) x e = ap (λ ys. f y ++ ys) (flat_append f xs x e)
