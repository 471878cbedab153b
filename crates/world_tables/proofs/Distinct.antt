-- When nothing stands twice in lists that are made from others, and when a list has no more than another.
use Rattle.std.proofs.Common.{◌≡◌, ◌≢◌, ℕ, suc, zero, ◌+◌, ◌≤◌, Some, List, [], ◌∷◌, ◌++◌, map, length, slice_get, ◌⊎◌, inl, inr, refl, sym, ap, subst, ◌∙◌, arith}
use Rattle.std.specs.List.{AllPairs, Contains}
use Rattle.std.proofs.lemmas.List.Elements.{Contains-get_or, Contains-append_cases}
use Rattle.std.proofs.lemmas.List.Kept.{AllPairs-cons}
use Rattle.graph_walks.proofs.Lists.{empty, first, first_as, later, first_or_later, Origin, map_from}

abbrev pub AreApart : {X : Type 0} → List X → Type 0
AreApart xs = AllPairs (λ x y. x ≢ y) xs

module _ {X : Type 0} where
  pub nothing_apart : AreApart {X = X} []
  nothing_apart i j d l k = absurd (omega (arith, k))

  one_apart : (x : X) (xs : List X) → (Contains xs x → ⊥) → AreApart xs → AreApart (x ∷ xs)
  one_apart x xs new rest = AllPairs-cons (λ y z. y ≢ z) x xs (λ k d l e. new (subst (Contains xs) (sym e) (Contains-get_or xs k d l))) rest

  -- what holds of the first and each later one
  with_first : (R : X → X → Type 0) (x y : X) (xs : List X) → AllPairs R (x ∷ xs) → Contains xs y → R x y
  with_first R x y xs all (k, l, e) = subst (R x) e (all zero (suc k) y (omega arith) (omega (arith, l)))

  behind : (R : X → X → Type 0) (x : X) (xs : List X) → AllPairs R (x ∷ xs) → AllPairs R xs
  behind R x xs all i j d l k = all (suc i) (suc j) d (omega (arith, l)) (omega (arith, k))

  pub joined_apart : (xs ys : List X) → AreApart xs → AreApart ys → ((x : X) → Contains xs x → Contains ys x → ⊥) → AreApart (xs ++ ys)
  joined_apart [] ys a b differ = b
  joined_apart (x ∷ xs) ys a b differ =
      one_apart x (xs ++ ys)
      (λ c. elim (Contains-append_cases xs ys x c) [ inl d ↦ with_first (λ y z. y ≢ z) x x xs a d refl | inr d ↦ differ x (first x xs) d ])
      (joined_apart xs ys (behind (λ y z. y ≢ z) x xs a) b (λ y c d. differ y (later x y xs c) d))

  -- ---- no more than another list

  -- a list without one of its elements
  record Without (x : X) (xs : List X) : Type 0 where
    others : List X
    shorter : length xs ≡ suc (length others)
    is_or_other : (y : X) → Contains xs y → (y ≡ x) ⊎ Contains others y

  without_first : (x y : X) (xs : List X) → y ≡ x → Without x (y ∷ xs)
  without_first x y xs e = record { others = xs; shorter = refl; is_or_other = λ z c. elim (first_or_later y z xs c) [ inl f ↦ inl (f ∙ e) | inr d ↦ inr d ] }

  without_later : (x y : X) (xs : List X) → Without x xs → Without x (y ∷ xs)
  without_later x y xs w =
      record {
        others = y ∷ w.others;
        shorter = ap suc w.shorter;
        is_or_other = λ z c. elim (first_or_later y z xs c) [
          | inl f ↦ inr (first_as y z w.others f)
          | inr d ↦ elim (w.is_or_other z d) [ inl e ↦ inl e | inr o ↦ inr (later y z w.others o) ]
        ];
      }

  without : (x : X) (xs : List X) → Contains xs x → Without x xs
  without x [] c = empty x c
  without x (y ∷ xs) c = elim (first_or_later y x xs c) [ inl e ↦ without_first x y xs (sym e) | inr d ↦ without_later x y xs (without x xs d) ]

  -- a list that has all of a list in which nothing stands twice, and is no longer, has nothing else
  pub nothing_else : (xs ys : List X) → AreApart xs → ((x : X) → Contains xs x → Contains ys x) → length ys ≤ length xs → (y : X) → Contains ys y → Contains xs y
  nothing_else [] [] a within few y c = c
  nothing_else [] (z ∷ ys) a within few y c = absurd (omega (arith, few))
  nothing_else (x ∷ xs) ys a within few y c =
      let w : Without x ys = without x ys (within x (first x xs)) in
      let fewer : length w.others ≤ length xs = omega (arith, few, w.shorter) in
      elim (w.is_or_other y c) [
        | inl e ↦ first_as x y xs e
        | inr d ↦ later x y xs (nothing_else xs w.others (behind (λ y z. y ≢ z) x xs a)
            (λ z k. elim (w.is_or_other z (within z (later x z xs k))) [ inl e ↦ absurd (with_first (λ y z. y ≢ z) x z xs a k (sym e)) | inr o ↦ o ])
            fewer y d)
      ]

-- a number that is told, and isn't less
record IsLater {Y : Type 0} (Tells : Y → ℕ → Type 0) (n : ℕ) (y : Y) : Type 0 where
  number : ℕ
  least : n ≤ number
  told : Tells y number

module _ {X Y : Type 0} where
  -- images of different elements that differ
  pub mapped_apart : (f : X → Y) (R : X → X → Type 0) (xs : List X) → AllPairs R xs → ((x y : X) → Contains xs x → Contains xs y → R x y → f x ≢ f y) → AreApart (map f xs)
  mapped_apart f R [] all differ = nothing_apart
  mapped_apart f R (x ∷ xs) all differ =
      one_apart (f x) (map f xs)
      (λ c. let o : Origin f xs (f x) = map_from f xs (f x) c in differ x o.item (first x xs) (later x o.item xs o.is) (with_first R x o.item xs all o.is) (sym o.same))
      (mapped_apart f R xs (behind R x xs all) (λ y z c d. differ y z (later x y xs c) (later x z xs d)))

  -- rows that are made from elements and their numbers, of which the first is this
  abbrev pub rows_from : (ℕ → X → List Y) → ℕ → List X → List Y
  rows_from f n [] = []
  rows_from f n (x ∷ xs) = f n x ++ rows_from f (suc n) xs

  -- nothing stands twice in a row, and each of it tells the row's number
  pub record IsRow (f : ℕ → X → List Y) (Tells : Y → ℕ → Type 0) (n : ℕ) (x : X) : Type 0 where
    pub apart : AreApart (f n x)
    pub tells : (y : Y) → Contains (f n x) y → Tells y n

  module _ (f : ℕ → X → List Y) (Tells : Y → ℕ → Type 0) where
    tells_later : (n : ℕ) (xs : List X) → ((k i : ℕ) (x : X) → k ≡ n + i → slice_get xs i ≡ Some x → IsRow f Tells k x) → (y : Y) → Contains (rows_from f n xs) y → IsLater Tells n y
    tells_later n [] rows y c = empty y c
    tells_later n (x ∷ xs) rows y c =
        elim (Contains-append_cases (f n x) (rows_from f (suc n) xs) y c) [
          | inl d ↦ record { number = n; least = omega arith; told = (rows n zero x (omega arith) refl).tells y d }
          | inr d ↦ after (tells_later (suc n) xs (λ k i z e h. rows k (suc i) z (omega (arith, e)) h) y d)
        ]
      where
        after : IsLater Tells (suc n) y → IsLater Tells n y
        after l = let m : suc n ≤ l.number = l.least in record { number = l.number; least = omega (arith, m); told = l.told }

    pub rows_apart : ((y : Y) (k l : ℕ) → Tells y k → Tells y l → k ≡ l) → (n : ℕ) (xs : List X) → ((k i : ℕ) (x : X) → k ≡ n + i → slice_get xs i ≡ Some x → IsRow f Tells k x) → AreApart (rows_from f n xs)
    rows_apart one n [] rows = nothing_apart
    rows_apart one n (x ∷ xs) rows =
        let front : IsRow f Tells n x = rows n zero x (omega arith) refl in
        let others : (k i : ℕ) (z : X) → k ≡ suc n + i → slice_get xs i ≡ Some z → IsRow f Tells k z = λ k i z e h. rows k (suc i) z (omega (arith, e)) h in
        joined_apart (f n x) (rows_from f (suc n) xs) front.apart (rows_apart one (suc n) xs others)
        (λ y c d. differ (tells_later (suc n) xs others y d) (front.tells y c))
      where
        differ : {y : Y} → IsLater Tells (suc n) y → Tells y n → ⊥
        differ {y} l t = let m : suc n ≤ l.number = l.least in let e : n ≡ l.number = one y n l.number t l.told in omega (arith, m, e)
