-- The number of a name among rows that stand behind others.
use Rattle.std.proofs.Common.{◌≡◌, ℕ, suc, ◌+◌, Bool, true, false, List, [], ◌∷◌, ◌++◌, Option, Some, None, option_map, if◌then◌else◌, length, refl, ap, ◌∙◌, arith}
use Rattle.std.specs.Str.{bytes_eq}
use Rattle.builtin_stubs.specs.Meanings.{Native}
use Rattle.builtin_stubs.specs.Natives.{place_named, number_in}

found_so : (b : Bool) (o p : Option ℕ) (k : ℕ) → ((j : ℕ) → o ≡ Some j → p ≡ Some j) → (if b then Some 0 else option_map suc o) ≡ Some k → (if b then Some 0 else option_map suc p) ≡ Some k
found_so true o p k same e = e
found_so false None p k same e = absurd (cc)
found_so false (Some j) p k same e = ap (option_map suc) (same j refl) ∙ e

further : (n : ℕ) (q : Option ℕ) → option_map suc (option_map (λ k. n + k) q) ≡ option_map (λ k. suc n + k) q
further n None = refl
further n (Some k) = ap Some (omega arith)

missed_so : (b : Bool) (o p q : Option ℕ) (n : ℕ) → (o ≡ None → p ≡ option_map (λ k. n + k) q) → (if b then Some 0 else option_map suc o) ≡ None → (if b then Some 0 else option_map suc p) ≡ option_map (λ k. suc n + k) q
missed_so true o p q n same e = absurd (cc)
missed_so false None p q n same e = ap (option_map suc) (same refl) ∙ further n q
missed_so false (Some j) p q n same e = absurd (cc)

module _ (name : List ℕ) where
  place_first : (xs ys : List Native) (k : ℕ) → place_named xs name ≡ Some k → place_named (xs ++ ys) name ≡ Some k
  place_first [] ys k e = absurd (cc)
  place_first (x ∷ xs) ys k e = found_so (bytes_eq name x.name) (place_named xs name) (place_named (xs ++ ys) name) k (place_first xs ys) e

  itself : (q : Option ℕ) → q ≡ option_map (λ k. 0 + k) q
  itself None = refl
  itself (Some k) = ap Some (omega arith)

  place_later : (xs ys : List Native) → place_named xs name ≡ None → place_named (xs ++ ys) name ≡ option_map (λ k. length xs + k) (place_named ys name)
  place_later [] ys e = itself (place_named ys name)
  place_later (x ∷ xs) ys e = missed_so (bytes_eq name x.name) (place_named xs name) (place_named (xs ++ ys) name) (place_named ys name) (length xs) (place_later xs ys) e

  -- a name that is found stays where it is
  pub number_first : (before : ℕ) (xs ys : List Native) (n : ℕ) → number_in before xs name ≡ Some n → number_in before (xs ++ ys) name ≡ Some n
  number_first before xs ys n e = by (place_named xs name) refl e
    where
      by : (o : Option ℕ) → place_named xs name ≡ o → option_map (λ k. before + k) o ≡ Some n → number_in before (xs ++ ys) name ≡ Some n
      by None is found = absurd (cc)
      by (Some k) is found = ap (option_map (λ j. before + j)) (place_first xs ys k is) ∙ found

  joined : (before n : ℕ) (q : Option ℕ) → option_map (λ k. before + k) (option_map (λ k. n + k) q) ≡ option_map (λ k. before + n + k) q
  joined before n None = refl
  joined before n (Some k) = ap Some (omega arith)

  -- a name that isn't found is looked for behind
  pub number_later : (before : ℕ) (xs ys : List Native) → number_in before xs name ≡ None → number_in before (xs ++ ys) name ≡ number_in (before + length xs) ys name
  number_later before xs ys e = by (place_named xs name) refl e
    where
      by : (o : Option ℕ) → place_named xs name ≡ o → option_map (λ k. before + k) o ≡ None → number_in before (xs ++ ys) name ≡ number_in (before + length xs) ys name
      by None is missed = ap (option_map (λ j. before + j)) (place_later xs ys is) ∙ joined before (length xs) (place_named ys name)
      by (Some k) is missed = absurd (cc)
