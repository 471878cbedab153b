-- The longest run of bytes that pass a test, at the front of a text.
use Rattle.std.proofs.Common.{◌≡◌, ℕ, suc, ◌+◌, Bool, true, false, ◌&&◌, cond, List, [], ◌∷◌, ◌++◌, length, take, drop, refl, sym, ap, ◌∙◌, subst, arith}
use Rattle.std.specs.List.{list_all, prefix_len}
use Rattle.py_tokens.specs.Bytes.{Stops}
use Rattle.py_tokens.proofs.Classes.{and_parts}

module _ (p : ℕ → Bool) where
  each_of : (b : Bool) (x : ℕ) (xs : List ℕ) → p x ≡ b → list_all p (take (prefix_len p xs) xs) ≡ true → list_all p (take (cond b (1 + prefix_len p xs) 0) (x ∷ xs)) ≡ true
  each_of true x xs h rest =
      let n = prefix_len p xs in
      let more : 1 + n ≡ suc n = omega arith in
      subst (λ k. list_all p (take k (x ∷ xs)) ≡ true) (sym more) (ap (λ b. b && list_all p (take n xs)) h ∙ rest)
  each_of false x xs h rest = refl

  -- each byte of the run passes
  pub run_each : (xs : List ℕ) → list_all p (take (prefix_len p xs) xs) ≡ true
  run_each [] = refl
  run_each (x ∷ xs) = each_of (p x) x xs refl (run_each xs)

  stops_of : (b : Bool) (x : ℕ) (xs : List ℕ) → p x ≡ b → Stops p (drop (prefix_len p xs) xs) → Stops p (drop (cond b (1 + prefix_len p xs) 0) (x ∷ xs))
  stops_of true x xs h rest =
      let n = prefix_len p xs in
      let more : 1 + n ≡ suc n = omega arith in
      subst (λ k. Stops p (drop k (x ∷ xs))) (sym more) rest
  stops_of false x xs h rest = h

  -- what follows the run doesn't pass
  pub run_stops : (xs : List ℕ) → Stops p (drop (prefix_len p xs) xs)
  run_stops [] = tt
  run_stops (x ∷ xs) = stops_of (p x) x xs refl (run_stops xs)

  stopped : (rest : List ℕ) → Stops p rest → prefix_len p rest ≡ 0
  stopped [] h = refl
  stopped (x ∷ xs) h = ap (λ b. cond b (1 + prefix_len p xs) 0) h

  -- a run is as long as the bytes before the first that doesn't pass
  pub run_length : (run rest : List ℕ) → list_all p run ≡ true → Stops p rest → prefix_len p (run ++ rest) ≡ length run
  run_length [] rest each stops = stopped rest stops
  run_length (x ∷ xs) rest each stops =
      let parts = and_parts (p x) (list_all p xs) each in
      let so_far = run_length xs rest parts.1 stops in
      let here : 1 + prefix_len p (xs ++ rest) ≡ suc (length xs) = omega arith in
      ap (λ b. cond b (1 + prefix_len p (xs ++ rest)) 0) parts.0 ∙ here
