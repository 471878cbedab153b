-- Totals over lists that grow, and counts of them that stop at the greatest number of 32 bits.
use Rattle.std.proofs.Common.{◌≡◌, ℕ, suc, zero, ◌+◌, ◌-◌, ◌^◌, ◌<◌, ◌≤◌, List, [], ◌∷◌, ◌++◌, length, refl, arith, ◌⊎◌, inl, inr, Bool, true, false, nat_lt}
use Rattle.std.proofs.lemmas.Bool.Decides.{nat_tests}
use Rattle.flow_graph.specs.Flows.{changed_at}
use Rattle.typegraph.specs.Graphs.{total}
use Rattle.typegraph.specs.Kept.{IsCapped}

module _ {X : Type 0} (size : X → ℕ) where
  pub total_push : (xs : List X) (x : X) → total size (xs ++ x ∷ []) ≡ total size xs + size x
  total_push [] x = omega arith
  total_push (y ∷ xs) x = omega (arith, total_push xs x)

  pub total_changed : (f : X → X) → ((x : X) → size (f x) ≡ size x + 1) → (xs : List X) (i : ℕ) → i < length xs → total size (changed_at f xs i) ≡ total size xs + 1
  total_changed f more [] i l = let z : ⊥ = omega (arith, l) in absurd z
  total_changed f more (x ∷ xs) zero l = omega (arith, more x)
  total_changed f more (x ∷ xs) (suc i) l = let e : total size (changed_at f xs i) ≡ total size xs + 1 = total_changed f more xs i (omega (arith, l)) in omega (arith, e)

small_or_large : (n m : ℕ) → (n < m) ⊎ (m ≤ n)
small_or_large n m = go (nat_lt n m) refl
  where
    go : (t : Bool) → nat_lt n m ≡ t → (n < m) ⊎ (m ≤ n)
    go true e = inl (grind (arith, nat_tests))
    go false e = inr (grind (arith, nat_tests))

pub capped_none : IsCapped 0 0
capped_none = record { few = λ l. refl; many = λ l. let z : ⊥ = omega (arith, l) in absurd z }

pub capped_more : (count next all : ℕ) → IsCapped count all → (count < 2 ^ 32 - 1 → next ≡ count + 1) → (count ≡ 2 ^ 32 - 1 → next ≡ 2 ^ 32 - 1) → IsCapped next (all + 1)
capped_more count next all c more full = record { few = few; many = λ l. many l (small_or_large all (2 ^ 32)) }
  where
    few : all + 1 < 2 ^ 32 → next ≡ all + 1
    few l = let e : count ≡ all = c.few (omega (arith, l)) in let n : next ≡ count + 1 = more (omega (arith, l, e)) in omega (arith, n, e)

    many : 2 ^ 32 ≤ all + 1 → (all < 2 ^ 32) ⊎ (2 ^ 32 ≤ all) → next ≡ 2 ^ 32 - 1
    many l (inl s) = let e : count ≡ all = c.few s in full (omega (arith, l, s, e))
    many l (inr s) = full (c.many s)
