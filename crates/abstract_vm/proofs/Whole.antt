-- What the last step of firing tells.
use Rattle.std.proofs.Common.{◌≡◌, ℕ, ◌-◌, ◌^◌, ◌<◌, ◌≤◌, Bool, true, false, nat_lt, ◌⊎◌, ◌↔◌, inl, inr, refl, arith}
use Rattle.std.specs.Prelude.{IsTrue}
use Rattle.std.proofs.lemmas.Bool.Decides.{nat_tests}
use Rattle.abstract_vm.specs.Worlds.{WorldState}
use Rattle.abstract_vm.specs.Firing.{HasNewItem}
use Rattle.abstract_vm.specs.Steps.{IsFlag}

-- the flag is true exactly where there is an item more
pub flag_tells : (grown : Bool) (old new : WorldState) → IsFlag grown old new → IsTrue grown ↔ HasNewItem old new
flag_tells true old new f = (λ t. f.yes refl, λ h. refl)
flag_tells false old new f = (λ t. let z : ⊥ = cc in absurd z, λ h. absurd (f.no refl h))

-- a count of 32 bits is beyond a limit exactly where there are more
module _ (n count limit : ℕ) (below : limit < 2 ^ 32 - 1) (few : n < 2 ^ 32 → count ≡ n) (many : 2 ^ 32 ≤ n → count ≡ 2 ^ 32 - 1) where
  small_or_large : (n < 2 ^ 32) ⊎ (2 ^ 32 ≤ n)
  small_or_large = go (nat_lt n (2 ^ 32)) refl
    where
      go : (t : Bool) → nat_lt n (2 ^ 32) ≡ t → (n < 2 ^ 32) ⊎ (2 ^ 32 ≤ n)
      go true e = inl (grind (arith, nat_tests))
      go false e = inr (grind (arith, nat_tests))

  pub more_there : limit < count → limit < n
  more_there h = go small_or_large
    where
      go : (n < 2 ^ 32) ⊎ (2 ^ 32 ≤ n) → limit < n
      go (inl s) = let e : count ≡ n = few s in omega (arith, h, e)
      go (inr l) = omega (arith, l, below)

  pub no_more_there : count ≤ limit → limit < n → ⊥
  no_more_there h m = go small_or_large
    where
      go : (n < 2 ^ 32) ⊎ (2 ^ 32 ≤ n) → ⊥
      go (inl s) = let e : count ≡ n = few s in omega (arith, h, m, e)
      go (inr l) = let e : count ≡ 2 ^ 32 - 1 = many l in omega (arith, h, e, below)
