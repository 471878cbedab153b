-- What a world tells, where it is the least one.
use Rattle.std.specs.Prelude.{◌≤◌, ℕ, List, length}
use Rattle.type_terms.specs.Stubs.{Stub}
use Rattle.world_rules.specs.declared.finding.Finding.{Finding}
use Rattle.world_rules.specs.Sources.{Source}
use Rattle.world_rules.specs.Items.{Item}
use Rattle.world_rules.specs.Rules.{IsLeast}
use Rattle.world_rules.specs.Stubs.{IsStubOf}
use Rattle.world_rules.specs.Findings.{AreFindings, AreUnchecked, AreHeavy}
use Rattle.abstract_vm.specs.Worlds.{most_items}

-- the items are the least world, at most so many, and these are its stub, its findings, and the lines that it calls unchecked and heavy
pub record Tells (s : Source) (items : List Item) (stub : Stub) (findings : List Finding) (unchecked heavy : List ℕ) : Type 0 where
  pub least : IsLeast s items
  pub few : length items ≤ most_items
  pub stub_is : IsStubOf s items stub
  pub findings_are : AreFindings s items findings
  pub unchecked_are : AreUnchecked s items unchecked
  pub heavy_are : AreHeavy s items heavy
