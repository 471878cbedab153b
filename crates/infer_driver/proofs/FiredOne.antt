-- What firing one point does to the number of items.
use Rattle.std.proofs.Common.{◌≡◌, ◌≢◌, ◌<◌, ◌≤◌, Bool, true, false, Result, Ok, IfOk, IsTrue, List, length, subst}
use Rattle.std.specs.List.{AllPairs, Contains}
use Rattle.world_rules.specs.Places.{Point}
use Rattle.world_rules.specs.Sources.{Source}
use Rattle.world_rules.specs.Items.{Item}
use Rattle.world_rules.specs.Rules.{IsContained}
use Rattle.world_tables.specs.Tables.{Tables, AreTables, items_of}
use Rattle.abstract_vm.specs.Worlds.{WorldState, items_in, IsWorldOf}
use Rattle.abstract_vm.specs.Firing.{IsFired, HasNewItem}
use Rattle.infer_driver.proofs.Counts.{longer, nothing_new, no_shorter}

pub if_ok : {A E : Type 0} (P : A → Type 0) (r : Result A E) (a : A) → IfOk r P → r ≡ Ok a → P a
if_ok P r a h e = subst (λ q. IfOk q P) e h

module _ (s : Source) (p : Point) (old new : WorldState) (once : (s : Source) (t : Tables) → AreTables s t → AllPairs (λ one other. one ≢ other) (items_of t)) (is : IsWorldOf s old) (f : IsFired s p old new) where
  pub has_longer : length (items_in old) ≤ length (items_in new)
  has_longer = no_shorter (items_in old) (items_in new) (once s _ is.tables) f.contained.at

  pub has_more : HasNewItem old new → length (items_in old) < length (items_in new)
  has_more h = longer (items_in old) (items_in new) (once s _ is.tables) f.contained.at h.item h.is h.fresh

  pub has_same : (HasNewItem old new → ⊥) → IsContained (items_in new) (items_in old)
  has_same none = record { at = nothing_new (items_in old) (items_in new) (once s _ is.tables) (once s _ f.world.tables) f.contained.at (λ i c deny. none (record { item = i; is = c; fresh = deny })) }
