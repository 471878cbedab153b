-- Truth values by place, and the set of the places of the true ones.
use Rattle.std.specs.Prelude.{◌≡◌, ℕ, suc, Bool, true, false, ◌||◌, List, [], ◌∷◌, length, slice_index_or, if◌then◌else◌}
use Rattle.std.specs.Ordering.{nat_cmp}
use Rattle.std.specs.FinSet as finite

-- the set of the places of the true values, where the first place has a number
abbrev pub members_from : ℕ → List Bool → finite.FinSet nat_cmp
members_from n [] = finite.empty
members_from n (b ∷ bs) = if b then finite.insert (members_from (suc n) bs) n else members_from (suc n) bs

abbrev pub members_of : List Bool → finite.FinSet nat_cmp
members_of = members_from 0

-- the value at a place, false past the end
abbrev pub holds : List Bool → ℕ → Bool
holds bs k = slice_index_or bs k false

-- each value that is true in one list is true in another
pub record IsWithin (held others : List Bool) : Type 0 where
  pub each : (k : ℕ) → holds held k ≡ true → holds others k ≡ true

-- a value that is true in one list and not in another
pub record HasMore (held others : List Bool) : Type 0 where
  pub place : ℕ
  pub here : holds held place ≡ true
  pub not_there : holds others place ≡ false

-- the values that are true in one list or in another
pub record IsUnion (old more new : List Bool) : Type 0 where
  pub long : length new ≡ length old
  pub either : (k : ℕ) → holds new k ≡ (holds old k || holds more k)
