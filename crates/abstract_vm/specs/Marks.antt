-- What a verdict says, mark by mark.
use Rattle.std.specs.Prelude.{◌↔◌, ◌⊎◌, List, IsTrue}
use Rattle.std.specs.List.{Contains}
use Rattle.world_rules.specs.declared.finding.FaultText.{FaultText}
use Rattle.abstract_vm.specs.declared.verdict.Verdict.{Verdict}

-- a fault, an operand that isn't followed, or a query that is heavy
pub data Mark : Type 0 where
  a_fault : FaultText → Mark
  is_unchecked : Mark
  is_heavy : Mark

abbrev pub Says : Verdict → Mark → Type 0
Says v (a_fault f) = Contains v.faults f
Says v is_unchecked = IsTrue v.unchecked
Says v is_heavy = IsTrue v.heavy

-- all that was said, these marks too, and nothing else
pub record SaysToo (more : Mark → Type 0) (old new : Verdict) : Type 0 where
  pub each : (m : Mark) → Says new m ↔ (Says old m ⊎ more m)

-- one of a list tells the mark
pub record AnyTells {X : Type 0} (tells : X → Mark → Type 0) (xs : List X) (m : Mark) : Type 0 where
  pub item : X
  pub is : Contains xs item
  pub says : tells item m
