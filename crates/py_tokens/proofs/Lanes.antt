-- From the lanes of a block to the run at its front, and from there to the run at the front of a text.
use Rattle.std.proofs.Common.{◌≡◌, ◌≢◌, ℕ, ◌+◌, ◌%◌, ◌^◌, ◌<◌, ◌≤◌, Bool, true, false, cond, eqb, List, [], ◌∷◌, map, length, drop, get_or, Fits, w8, w64, refl, sym, ap, ap₂, ◌∙◌, subst, arith, inl, inr}
use Rattle.std.specs.Int.{bit_at, trailing_ones}
use Rattle.std.specs.List.{prefix_len}
use Rattle.std.specs.Simd.Lanes.{chunk, mask_l, top, Each1}
use Rattle.std.proofs.lemmas.Bool.{agree_below, agree_below_at, cases_lt, cond-true, cond-false, eq-eqb, ne_eqb}
use Rattle.std.proofs.lemmas.List.{length-map, get_or-map, get_or_past}
use Rattle.std.proofs.lemmas.List.Folds.{prefix_len-append}
use Rattle.std.proofs.lemmas.List.Sums.{prefix_len_is, prefix_len-le-length}
use Rattle.std.proofs.lemmas.Nat.Bits.{bit_at-trailing_ones}
use Rattle.std.proofs.lemmas.Simd.{map-map, mask_l-lt, mask_l-mod, bit_mask_l, chunk-drop, length-chunk}

same_map : (f g : ℕ → Bool) (v : List ℕ) → agree_below f g 256 ≡ true → Each1 (Fits w8) v → map f v ≡ map g v
same_map f g [] all fits = refl
same_map f g (x ∷ xs) all fits = ap₂ (λ b bs. b ∷ bs) (agree_below_at f g 256 x all fits.0.fits) (same_map f g xs all fits.1)

one_true : (b : Bool) → ◌≡◌ {A = ℕ} (cond b 1 0) 1 → b ≡ true
one_true true h = refl
one_true false h = absurd (omega arith)

zero_false : (b : Bool) → ◌≡◌ {A = ℕ} (cond b 1 0) 0 → b ≡ false
zero_false true h = absurd (omega arith)
zero_false false h = refl

module _ (p : ℕ → Bool) (v : List ℕ) (long : length v ≡ 32) where
  -- the mask of a vector that f computed lane by lane, where f sets the top bit of the bytes that pass
  pub mask_is : (f : ℕ → ℕ) (z : List ℕ) → Each1 (Fits w8) v → z ≡ map f v → agree_below (λ x. top 7 (f x)) p 256 ≡ true → mask_l (map (top 7) z) % 2 ^ 64 ≡ mask_l (map p v)
  mask_is f z fits lanes all =
      ap (λ l. mask_l l % 2 ^ 64) (ap (map (top 7)) lanes ∙ map-map (top 7) f v ∙ same_map (λ x. top 7 (f x)) p v all fits)
      ∙ mask_l-mod (map p v) 64 (omega (arith, length-map v p))

  abbrev mask : ℕ
  mask = mask_l (map p v)

  abbrev run : ℕ
  run = trailing_ones w64 mask

  small : mask + 1 < 2 ^ 64
  small = let below : mask < 2 ^ 32 = subst (λ n. mask < 2 ^ n) (length-map v p ∙ long) (mask_l-lt (map p v)) in omega arith

  lowest : (run < 64) × (bit_at mask run ≡ 0) × ((k : ℕ) → k < run → bit_at mask k ≡ 1)
  lowest = bit_at-trailing_ones w64 mask small

  -- bit k is the test of byte k
  bit_is : (k : ℕ) → k < length v → bit_at mask k ≡ cond (p (get_or v k 0)) 1 0
  bit_is k h = bit_mask_l (map p v) k ∙ ap (λ b. cond b 1 0) (get_or-map p v k 0 false h)

  beyond : bit_at mask (length v) ≡ 0
  beyond = bit_mask_l (map p v) (length v) ∙ ap (λ b. cond b 1 0) (get_or_past (map p v) (length v) false (omega (arith, length-map v p)))

  within : run ≤ length v
  within = elim (cases_lt (length v) run) [
    | inl far ↦ let set = lowest.2 (length v) far in absurd (omega (arith, beyond))
    | inr near ↦ near
  ]

  passes : (k : ℕ) → k < run → p (get_or v k 0) ≡ true
  passes k h = let inside : k < length v = omega (arith, within) in one_true (p (get_or v k 0)) (sym (bit_is k inside) ∙ lowest.2 k h)

  fails : run < length v → p (get_or v run 0) ≡ false
  fails h = zero_false (p (get_or v run 0)) (sym (bit_is run h) ∙ lowest.1)

  -- the lowest bit that isn't set is that of the first byte that doesn't pass
  pub run_of_mask : run ≡ prefix_len p v
  run_of_mask = sym (prefix_len_is p v run 0 within passes fails)

module _ (p : ℕ → Bool) (xs : List ℕ) (at : ℕ) (room : at + 32 ≤ length xs) where
  abbrev block : List ℕ
  block = chunk at 32 xs

  front : prefix_len p (drop at xs) ≡ cond (eqb (prefix_len p block) 32) (32 + prefix_len p (drop (at + 32) xs)) (prefix_len p block)
  front =
      let long = length-chunk at 32 xs room in
      ap (prefix_len p) (chunk-drop at 32 xs) ∙ prefix_len-append p block (drop (at + 32) xs)
      ∙ ap (λ n. cond (eqb (prefix_len p block) n) (n + prefix_len p (drop (at + 32) xs)) (prefix_len p block)) long

  -- a block in which a byte fails has the end of the run
  pub run_ends : prefix_len p block < 32 → prefix_len p (drop at xs) ≡ prefix_len p block
  run_ends h = let short : prefix_len p block ≢ 32 = omega arith in front ∙ cond-false _ _ _ (ne_eqb _ _ short)

  -- the run goes on behind a block in which each byte passes
  pub run_goes_on : 32 ≤ prefix_len p block → prefix_len p (drop at xs) ≡ 32 + prefix_len p (drop (at + 32) xs)
  run_goes_on h =
      let whole : prefix_len p block ≡ 32 = omega (arith, prefix_len-le-length p block, length-chunk at 32 xs room) in
      front ∙ cond-true _ _ _ (eq-eqb _ _ whole)
