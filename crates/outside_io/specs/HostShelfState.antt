-- What is seen of a shelf over real files.
use Rattle.std.specs.Prelude.{ℕ, List, Option}

-- A shelf over real files: how many fetches failed, and the name of the last that failed.
pub record HostShelfState : Type 0 where
  pub faults : ℕ
  pub last : Option (List ℕ)
