-- Lists in which nothing stands twice.
use Rattle.std.proofs.Common.{◌≡◌, ◌≢◌, ℕ, suc, zero, ◌<◌, List, [], ◌∷◌, ◌++◌, length, get_or, slice_get, Some, refl, sym, ap, subst, ◌∙◌, arith}
use Rattle.std.proofs.Math.Decide.{ℕ_discrete}
use Rattle.std.specs.List.{AllPairs, Contains, swap}
use Rattle.std.specs.List.Sorted.{IsPermutation}
use Rattle.std.proofs.lemmas.List.Elements.{Contains-get_or}
use Rattle.std.proofs.lemmas.List.Edits.{Swapped, swapped_from_swap, length-swap}
use Rattle.std.proofs.lemmas.List.Quantifiers.{all_pairs_push}
use Rattle.std.proofs.lemmas.List.Sorted.{IsPermutation-keeps}
use Rattle.std.proofs.lemmas.Option.{slice_get-get_or}
use Rattle.world_tables.specs.Tables.{HaveOneNumber}
use Rattle.world_tables.proofs.Items.{below}

module _ {X : Type 0} where
  -- what is read with a default is what stands there
  read : (xs : List X) (k : ℕ) (d x : X) → slice_get xs k ≡ Some x → get_or xs k d ≡ x
  read [] k d x h = cc
  read (y ∷ xs) zero d x h = cc
  read (y ∷ xs) (suc k) d x h = read xs k d x h

  pub apart_more : (xs : List X) (x : X) → AllPairs (λ x y. x ≢ y) xs → (Contains xs x → ⊥) → AllPairs (λ x y. x ≢ y) (xs ++ x ∷ [])
  apart_more xs x a new = all_pairs_push (λ x y. x ≢ y) xs x a (λ k d l e. new (subst (Contains xs) e (Contains-get_or xs k d l)))

  -- of two numbers of one thing neither is before the other
  not_before : (xs : List X) → AllPairs (λ x y. x ≢ y) xs → (i j : ℕ) (x : X) → slice_get xs i ≡ Some x → slice_get xs j ≡ Some x → i < j → ⊥
  not_before xs a i j x h k l = a i j x l (below xs j x k) (read xs i x x h ∙ sym (read xs j x x k))

  pub one_number : (xs : List X) → AllPairs (λ x y. x ≢ y) xs → HaveOneNumber xs
  one_number xs a i j x h k = elim (ℕ_discrete i j) [ yes e ↦ e | no n ↦ absurd (other n (not_before xs a i j x h k) (not_before xs a j i x k h)) ]
    where
      other : (i ≢ j) → (i < j → ⊥) → (j < i → ⊥) → ⊥
      other n f g = omega (arith, n, f, g)

  pub to_apart : (xs : List X) → HaveOneNumber xs → AllPairs (λ x y. x ≢ y) xs
  to_apart xs h i j d l k e =
      let m : i < length xs = omega (arith, l, k) in
      let same : i ≡ j = h i j (get_or xs j d) (slice_get-get_or xs i d m ∙ ap Some e) (slice_get-get_or xs j d k) in
      omega (arith, l, same)

  -- ---- in another order

  -- where what stands at a number stood before two places changed theirs
  data Moved (xs : List X) (i j a : ℕ) (x : X) : Type 0 where
    moved_first : a ≡ i → slice_get xs j ≡ Some x → Moved xs i j a x
    moved_second : a ≡ j → slice_get xs i ≡ Some x → Moved xs i j a x
    stayed : (a ≢ i) → (a ≢ j) → slice_get xs a ≡ Some x → Moved xs i j a x

  moved : (xs : List X) (i j a : ℕ) (x : X) → i < length xs → j < length xs → slice_get (swap xs i j) a ≡ Some x → Moved xs i j a x
  moved xs i j a x l m h = go (ℕ_discrete a i) (ℕ_discrete a j)
    where
      is : Swapped (λ k. get_or xs k x) (λ k. get_or (swap xs i j) k x) i j
      is = swapped_from_swap xs (swap xs i j) i j x l m refl

      at : get_or (swap xs i j) a x ≡ x
      at = read (swap xs i j) a x x h

      inside : a < length xs
      inside = let b : a < length (swap xs i j) = below (swap xs i j) a x h in let e : length (swap xs i j) ≡ length xs = length-swap xs i j in omega (arith, b, e)

      got : (k : ℕ) → k < length xs → get_or xs k x ≡ x → slice_get xs k ≡ Some x
      got k b e = slice_get-get_or xs k x b ∙ ap Some e

      go : Dec (a ≡ i) → Dec (a ≡ j) → Moved xs i j a x
      go (yes e) q = moved_first e (got j m (sym is.0 ∙ ap (λ k. get_or (swap xs i j) k x) (sym e) ∙ at))
      go (no n) (yes e) = moved_second e (got i l (sym is.1 ∙ ap (λ k. get_or (swap xs i j) k x) (sym e) ∙ at))
      go (no n) (no o) = stayed n o (got a inside (sym (is.2 a n o) ∙ at))

  one_place : (xs : List X) (i j a b : ℕ) (x : X) → HaveOneNumber xs → Moved xs i j a x → Moved xs i j b x → a ≡ b
  one_place xs i j a b x h (moved_first e k) (moved_first f l) = e ∙ sym f
  one_place xs i j a b x h (moved_first e k) (moved_second f l) = e ∙ h i j x l k ∙ sym f
  one_place xs i j a b x h (moved_first e k) (stayed n o l) = absurd (o (h b j x l k))
  one_place xs i j a b x h (moved_second e k) (moved_first f l) = e ∙ h j i x l k ∙ sym f
  one_place xs i j a b x h (moved_second e k) (moved_second f l) = e ∙ sym f
  one_place xs i j a b x h (moved_second e k) (stayed n o l) = absurd (n (h b i x l k))
  one_place xs i j a b x h (stayed n o k) (moved_first f l) = absurd (o (h a j x k l))
  one_place xs i j a b x h (stayed n o k) (moved_second f l) = absurd (n (h a i x k l))
  one_place xs i j a b x h (stayed n o k) (stayed q r l) = h a b x k l

  pub still_apart : (xs ys : List X) → IsPermutation xs ys → AllPairs (λ x y. x ≢ y) xs → AllPairs (λ x y. x ≢ y) ys
  still_apart xs ys p a = to_apart ys (IsPermutation-keeps xs HaveOneNumber (one_number xs a) (λ l i j b c h m n x k o. one_place l i j m n x h (moved l i j m x b c k) (moved l i j n x b c o)) ys p)
