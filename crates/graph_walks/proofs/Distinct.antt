-- A list with no two equal elements, each of them in another list, is no longer than that list.
use Rattle.std.proofs.Common.{◌≡◌, ◌≢◌, suc, zero, ◌≤◌, List, [], ◌∷◌, ◌++◌, length, get_or, ◌⊎◌, inl, inr, sym, ap, subst, arith, length-append}
use Rattle.std.specs.List.{All, AllPairs, Contains}
use Rattle.std.proofs.lemmas.List.Elements.{All-head, All-tail, Contains-append_cases, Contains-append_left, Contains-append_right}
use Rattle.graph_walks.proofs.Lists.{empty, first_or_later}

module _ {X : Type 0} where
  -- the list, cut at an element
  record Cut (xs : List X) (x : X) : Type 0 where
    before : List X
    after : List X
    is : xs ≡ before ++ (x ∷ after)

  cut : (xs : List X) (x : X) → Contains xs x → Cut xs x
  cut [] x c = empty x c
  cut (y ∷ xs) x c = go (first_or_later y x xs c) (cut xs x)
    where
      go : (x ≡ y) ⊎ Contains xs x → (Contains xs x → Cut xs x) → Cut (y ∷ xs) x
      go (inl e) more = record { before = []; after = xs; is = ap (λ z. z ∷ xs) (sym e) }
      go (inr d) more = let s : Cut xs x = more d in record { before = y ∷ s.before; after = s.after; is = ap (λ zs. y ∷ zs) s.is }

  rest_has : (before after : List X) (x y : X) → y ≢ x → Contains (before ++ (x ∷ after)) y → Contains (before ++ after) y
  rest_has before after x y n c = go (Contains-append_cases before (x ∷ after) y c)
    where
      past : (y ≡ x) ⊎ Contains after y → Contains (before ++ after) y
      past (inl e) = absurd (n e)
      past (inr d) = Contains-append_right before after y d

      go : Contains before y ⊎ Contains (x ∷ after) y → Contains (before ++ after) y
      go (inl d) = Contains-append_left before after y d
      go (inr d) = past (first_or_later x y after d)

  rest_apart : (x : X) (xs : List X) → AllPairs (λ a b. a ≢ b) (x ∷ xs) → AllPairs (λ a b. a ≢ b) xs
  rest_apart x xs a i j d l k = a (suc i) (suc j) d (omega arith) (omega arith)

  none_is_first : (x : X) (xs : List X) → AllPairs (λ a b. a ≢ b) (x ∷ xs) → All (λ y. y ≢ x) xs
  none_is_first x xs a k d l e = a zero (suc k) d (omega arith) (omega arith) (sym e)

  pub no_longer : (xs ys : List X) → AllPairs (λ a b. a ≢ b) xs → All (Contains ys) xs → length xs ≤ length ys
  no_longer [] ys a c = omega arith
  no_longer (x ∷ xs) ys a c =
      let s : Cut ys x = cut ys x (All-head (Contains ys) x xs c) in
      let others : All (Contains (s.before ++ s.after)) xs =
      λ k d l. rest_has s.before s.after x (get_or xs k d) (none_is_first x xs a k d l)
      (subst (λ zs. Contains zs (get_or xs k d)) s.is (All-tail (Contains ys) x xs c k d l)) in
      let le : length xs ≤ length (s.before ++ s.after) = no_longer xs (s.before ++ s.after) (rest_apart x xs a) others in
      omega (arith, le, ap length s.is, length-append s.before s.after, length-append s.before (x ∷ s.after))
