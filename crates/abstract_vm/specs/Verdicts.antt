-- What is told of one point.
use Rattle.std.specs.Prelude.{◌↔◌, List, IsTrue}
use Rattle.std.specs.List.{Contains}
use Rattle.world_rules.specs.declared.finding.FaultText.{FaultText}
use Rattle.world_rules.specs.Places.{Point, at}
use Rattle.world_rules.specs.Sources.{Source}
use Rattle.world_rules.specs.Items.{Item}
use Rattle.world_rules.specs.Findings.{FindsAt, UnchecksAt, IsHeavyAt}
use Rattle.abstract_vm.specs.declared.verdict.Verdict.{Verdict}

-- what is found, unchecked and heavy at a point
abbrev pub FaultIn : Source → List Item → Point → FaultText → Type 0
FaultIn s items (at c place depth) f = FindsAt s items c place depth f

abbrev pub UncheckedIn : Source → List Item → Point → Type 0
UncheckedIn s items (at c place depth) = UnchecksAt s items c place depth

abbrev pub HeavyIn : Source → List Item → Point → Type 0
HeavyIn s items (at c place depth) = IsHeavyAt s items c place depth

-- the faults are those that are found there, and the marks are set exactly where an operand isn't followed and where a query is heavy
pub record IsJudged (s : Source) (items : List Item) (p : Point) (v : Verdict) : Type 0 where
  pub faults : (f : FaultText) → Contains v.faults f ↔ FaultIn s items p f
  pub unchecked : IsTrue v.unchecked ↔ UncheckedIn s items p
  pub heavy : IsTrue v.heavy ↔ HeavyIn s items p
