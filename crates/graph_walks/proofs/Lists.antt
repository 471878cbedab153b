-- Which elements lists have that are made from other lists.
use Rattle.std.proofs.Common.{◌≡◌, ℕ, suc, zero, Bool, true, false, cond, Some, List, [], ◌∷◌, ◌++◌, map, ◌⊎◌, inl, inr, refl, sym, ap, subst, ◌∙◌, arith, slice_get, slice_set}
use Rattle.std.specs.List.{Contains, filter, flat_map}
use Rattle.std.proofs.lemmas.List.Elements.{Contains-append_cases, Contains-append_left, Contains-append_right}

module _ {X : Type 0} where
  pub empty : {A : Type 0} (x : X) → Contains [] x → A
  empty x (k, l, e) = absurd (omega arith)

  pub first : (x : X) (xs : List X) → Contains (x ∷ xs) x
  first x xs = (zero, omega arith, refl)

  pub first_as : (y x : X) (xs : List X) → x ≡ y → Contains (y ∷ xs) x
  first_as y x xs e = subst (λ z. Contains (y ∷ xs) z) (sym e) (first y xs)

  pub later : (y x : X) (xs : List X) → Contains xs x → Contains (y ∷ xs) x
  later y x xs (k, l, e) = (suc k, omega arith, e)

  pub first_or_later : (y x : X) (xs : List X) → Contains (y ∷ xs) x → (x ≡ y) ⊎ Contains xs x
  first_or_later y x xs (zero, l, e) = inl (sym e)
  first_or_later y x xs (suc k, l, e) = inr (k, omega arith, e)

  pub only : (y x : X) → Contains (y ∷ []) x → x ≡ y
  only y x c = go (first_or_later y x [] c)
    where
      go : (x ≡ y) ⊎ Contains [] x → x ≡ y
      go (inl e) = e
      go (inr d) = empty x d

  pub got : (xs : List X) (k : ℕ) (x : X) → slice_get xs k ≡ Some x → Contains xs x
  got [] k x e = cc
  got (y ∷ xs) zero x e = let same : y ≡ x = cc in first_as y x xs (sym same)
  got (y ∷ xs) (suc k) x e = later y x xs (got xs k x e)

  -- the place of an element
  pub record Stands (xs : List X) (x : X) : Type 0 where
    pub place : ℕ
    pub at : slice_get xs place ≡ Some x

  pub stands : (xs : List X) (x : X) → Contains xs x → Stands xs x
  stands [] x c = empty x c
  stands (y ∷ xs) x c = go (first_or_later y x xs c) (stands xs x)
    where
      go : (x ≡ y) ⊎ Contains xs x → (Contains xs x → Stands xs x) → Stands (y ∷ xs) x
      go (inl e) more = record { place = zero; at = ap Some (sym e) }
      go (inr d) more = let s : Stands xs x = more d in record { place = suc s.place; at = s.at }

  pub filter_keeps : (p : X → Bool) (xs : List X) (x : X) → p x ≡ true → Contains xs x → Contains (filter p xs) x
  filter_keeps p [] x t c = c
  filter_keeps p (y ∷ xs) x t c = go (p y) refl (first_or_later y x xs c) (filter_keeps p xs x t)
    where
      go : (b : Bool) → p y ≡ b → (x ≡ y) ⊎ Contains xs x → (Contains xs x → Contains (filter p xs) x) → Contains (cond b (y ∷ filter p xs) (filter p xs)) x
      go true i (inl e) more = first_as y x (filter p xs) e
      go true i (inr d) more = later y x (filter p xs) (more d)
      go false i (inl e) more = let k : false ≡ true = sym i ∙ ap p (sym e) ∙ t in cc
      go false i (inr d) more = more d

  pub filter_from : (p : X → Bool) (xs : List X) (x : X) → Contains (filter p xs) x → (p x ≡ true) × Contains xs x
  filter_from p [] x c = empty x c
  filter_from p (y ∷ xs) x c = go (p y) refl c (filter_from p xs x)
    where
      at : p y ≡ true → (x ≡ y) ⊎ Contains (filter p xs) x → (Contains (filter p xs) x → (p x ≡ true) × Contains xs x) → (p x ≡ true) × Contains (y ∷ xs) x
      at i (inl e) more = (ap p e ∙ i, first_as y x xs e)
      at i (inr d) more = ((more d).0, later y x xs (more d).1)

      go : (b : Bool) → p y ≡ b → Contains (cond b (y ∷ filter p xs) (filter p xs)) x → (Contains (filter p xs) x → (p x ≡ true) × Contains xs x) → (p x ≡ true) × Contains (y ∷ xs) x
      go true i d more = at i (first_or_later y x (filter p xs) d) more
      go false i d more = ((more d).0, later y x xs (more d).1)

  pub set_from : (xs : List X) (i : ℕ) (y x : X) → Contains (slice_set xs i y) x → Contains xs x ⊎ (x ≡ y)
  set_from [] i y x c = empty x c
  set_from (z ∷ xs) zero y x c = go (first_or_later y x xs c)
    where
      go : (x ≡ y) ⊎ Contains xs x → Contains (z ∷ xs) x ⊎ (x ≡ y)
      go (inl e) = inr e
      go (inr d) = inl (later z x xs d)
  set_from (z ∷ xs) (suc i) y x c = go (first_or_later z x (slice_set xs i y) c) (set_from xs i y x)
    where
      next : Contains xs x ⊎ (x ≡ y) → Contains (z ∷ xs) x ⊎ (x ≡ y)
      next (inl d) = inl (later z x xs d)
      next (inr e) = inr e

      go : (x ≡ z) ⊎ Contains (slice_set xs i y) x → (Contains (slice_set xs i y) x → Contains xs x ⊎ (x ≡ y)) → Contains (z ∷ xs) x ⊎ (x ≡ y)
      go (inl e) more = inl (first_as z x xs e)
      go (inr d) more = next (more d)

module _ {X Y : Type 0} where
  pub map_has : (f : X → Y) (xs : List X) (x : X) → Contains xs x → Contains (map f xs) (f x)
  map_has f [] x c = empty x c
  map_has f (y ∷ xs) x c = go (first_or_later y x xs c) (map_has f xs x)
    where
      go : (x ≡ y) ⊎ Contains xs x → (Contains xs x → Contains (map f xs) (f x)) → Contains (f y ∷ map f xs) (f x)
      go (inl e) more = first_as (f y) (f x) (map f xs) (ap f e)
      go (inr d) more = later (f y) (f x) (map f xs) (more d)

  -- what an element of the new list is made from
  pub record Origin (f : X → Y) (xs : List X) (y : Y) : Type 0 where
    pub item : X
    pub is : Contains xs item
    pub same : f item ≡ y

  pub map_from : (f : X → Y) (xs : List X) (y : Y) → Contains (map f xs) y → Origin f xs y
  map_from f [] y c = empty y c
  map_from f (x ∷ xs) y c = go (first_or_later (f x) y (map f xs) c) (map_from f xs y)
    where
      go : (y ≡ f x) ⊎ Contains (map f xs) y → (Contains (map f xs) y → Origin f xs y) → Origin f (x ∷ xs) y
      go (inl e) more = record { item = x; is = first x xs; same = sym e }
      go (inr d) more = let o : Origin f xs y = more d in record { item = o.item; is = later x o.item xs o.is; same = o.same }

  pub flat_map_has : (f : X → List Y) (xs : List X) (x : X) (y : Y) → Contains xs x → Contains (f x) y → Contains (flat_map f xs) y
  flat_map_has f [] x y c d = empty x c
  flat_map_has f (z ∷ xs) x y c d = go (first_or_later z x xs c) (λ e. flat_map_has f xs x y e d)
    where
      go : (x ≡ z) ⊎ Contains xs x → (Contains xs x → Contains (flat_map f xs) y) → Contains (f z ++ flat_map f xs) y
      go (inl e) more = Contains-append_left (f z) (flat_map f xs) y (subst (λ w. Contains (f w) y) e d)
      go (inr e) more = Contains-append_right (f z) (flat_map f xs) y (more e)

  pub record Part (f : X → List Y) (xs : List X) (y : Y) : Type 0 where
    pub item : X
    pub is : Contains xs item
    pub part : Contains (f item) y

  pub flat_map_from : (f : X → List Y) (xs : List X) (y : Y) → Contains (flat_map f xs) y → Part f xs y
  flat_map_from f [] y c = empty y c
  flat_map_from f (x ∷ xs) y c = go (Contains-append_cases (f x) (flat_map f xs) y c) (flat_map_from f xs y)
    where
      go : Contains (f x) y ⊎ Contains (flat_map f xs) y → (Contains (flat_map f xs) y → Part f xs y) → Part f (x ∷ xs) y
      go (inl d) more = record { item = x; is = first x xs; part = d }
      go (inr d) more = let o : Part f xs y = more d in record { item = o.item; is = later x o.item xs o.is; part = o.part }
