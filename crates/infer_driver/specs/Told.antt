-- What is told of the points of a world, each by its number.
use Rattle.std.specs.Prelude.{◌≡◌, ◌↔◌, ◌⊎◌, ℕ, ◌<◌, Bool, Option, Some, List, IsTrue}
use Rattle.std.specs.List.{Contains}
use Rattle.world_rules.specs.declared.finding.FaultText.{FaultText}
use Rattle.world_rules.specs.declared.finding.Finding.{Finding}
use Rattle.world_rules.specs.Places.{Point}
use Rattle.world_rules.specs.Sources.{Source}
use Rattle.world_rules.specs.Items.{Item}
use Rattle.world_rules.specs.Findings.{line_of}
use Rattle.abstract_vm.specs.declared.verdict.Verdict.{Verdict}
use Rattle.abstract_vm.specs.Verdicts.{FaultIn, UncheckedIn, HeavyIn}
use Rattle.abstract_vm.specs.Worlds.{WorldState, items_in, point_in}
use Rattle.infer_driver.specs.declared.tell.Told.{Told}

abbrev pub fault_in : Finding → FaultText
fault_in f = record { kind = f.kind; text = f.text }

-- a finding of a point, and a line that it marks
pub record TellsFinding (s : Source) (items : List Item) (p : Point) (f : Finding) : Type 0 where
  pub on_line : line_of s p ≡ Some f.line
  pub finds : FaultIn s items p (fault_in f)

pub record TellsUnchecked (s : Source) (items : List Item) (p : Point) (line : ℕ) : Type 0 where
  pub on_line : line_of s p ≡ Some line
  pub unchecks : UncheckedIn s items p

pub record TellsHeavy (s : Source) (items : List Item) (p : Point) (line : ℕ) : Type 0 where
  pub on_line : line_of s p ≡ Some line
  pub heavy : HeavyIn s items p

-- some point whose number is below this tells it
pub record IsToldBelow {X : Type 0} (w : WorldState) (count : ℕ) (Tells : Point → X → Type 0) (x : X) : Type 0 where
  pub id : ℕ
  pub below : id < count
  pub tells : Tells (point_in w id) x

-- all that the points below this number tell
pub record AreTold (s : Source) (w : WorldState) (count : ℕ) (told : Told) : Type 0 where
  pub findings : (f : Finding) → Contains told.findings.items f ↔ IsToldBelow w count (TellsFinding s (items_in w)) f
  pub unchecked : (line : ℕ) → Contains told.unchecked.items line ↔ IsToldBelow w count (TellsUnchecked s (items_in w)) line
  pub heavy : (line : ℕ) → Contains told.heavy.items line ↔ IsToldBelow w count (TellsHeavy s (items_in w)) line

-- what a verdict says of a point on a line, beside what was told
pub record IsToldOf (line : Option ℕ) (v : Verdict) (old new : Told) : Type 0 where
  pub findings : (f : Finding) → Contains new.findings.items f ↔ (Contains old.findings.items f ⊎ ((line ≡ Some f.line) × Contains v.faults (fault_in f)))
  pub unchecked : (l : ℕ) → Contains new.unchecked.items l ↔ (Contains old.unchecked.items l ⊎ ((line ≡ Some l) × IsTrue v.unchecked))
  pub heavy : (l : ℕ) → Contains new.heavy.items l ↔ (Contains old.heavy.items l ⊎ ((line ≡ Some l) × IsTrue v.heavy))
