-- One item that was given and is new.
use Rattle.std.proofs.Common.{◌≡◌, ◌≢◌, ℕ, suc, ◌+◌, ◌<◌, ◌≤◌, true, false, Ok, List, get_or, length, ◌⊎◌, inl, inr, refl, sym, ap, subst, ◌∙◌, arith}
use Rattle.std.specs.List.{Contains}
use Rattle.std.proofs.lemmas.List.Elements.{Contains-get_or}
use Rattle.graph_walks.proofs.Distinct.{no_longer}
use Rattle.world_rules.specs.Places.{Point}
use Rattle.world_rules.specs.Sources.{Source}
use Rattle.world_rules.specs.Items.{Item}
use Rattle.world_rules.specs.Rules.{GivesAt, IsContained}
use Rattle.world_rules.proofs.Growing.{point_more}
use Rattle.world_tables.specs.Tables.{items_of, AreTables}
use Rattle.world_tables.specs.Rows.{tables_of}
use Rattle.world_tables.proofs.Counted.{items_apart}
use Rattle.abstract_vm.specs.Worlds.{WorldState, items_in, IsWorldOf}
use Rattle.abstract_vm.specs.Firing.{HasNewItem, IsFired}
use Rattle.abstract_vm.specs.Steps.{NumbersStay, IsFlag}
use Rattle.abstract_vm.proofs.Stay.{contexts_stay}

-- the new items are the old ones and this
pub record IsWithItem (s : Source) (old new : WorldState) (x : Item) : Type 0 where
  pub tables : AreTables s (tables_of new.rows)
  pub stays : (i : Item) → Contains (items_in old) i → Contains (items_in new) i
  pub more : (i : Item) → Contains (items_in new) i → Contains (items_in old) i ⊎ (i ≡ x)
  pub there : Contains (items_in new) x
  pub counted : length (items_in new) ≡ length (items_in old) + 1

module _ (s : Source) (p : Point) (old new : WorldState) (x : Item) (n : NumbersStay old new) (h : IsWorldOf s old) (w : IsWithItem s old new x) (given : GivesAt s (items_in old) p x) where
  pub world_still : IsWorldOf s new
  world_still = record { tables = w.tables; finished = n.finished ∙ (h.finished ∙ sym (ap length (contexts_stay old new n))) }

  by : (i : Item) → Contains (items_in old) i ⊎ (i ≡ x) → Contains (items_in old) i ⊎ GivesAt s (items_in new) p i
  by i (inl k) = inl k
  by i (inr e) = inr (subst (GivesAt s (items_in new) p) (sym e) (point_more s (items_in old) (items_in new) (record { at = w.stays }) given))

  pub added : IsFired s p old new
  added =
      record {
        world = world_still;
        contained = record { at = w.stays };
        given = λ i k. by i (w.more i k);
        flow = n.flow;
        points = n.points;
        variables = n.variables;
        budget = n.budget;
        library = n.library;
      }

  -- were it there already, there were no more items than before
  within : Contains (items_in old) x → (i : Item) → Contains (items_in old) i ⊎ (i ≡ x) → Contains (items_in old) i
  within k i (inl l) = l
  within k i (inr e) = subst (Contains (items_in old)) (sym e) k

  fresh : Contains (items_in old) x → ⊥
  fresh k =
      let few : length (items_in new) ≤ length (items_in old) =
      no_longer (items_in new) (items_in old) (items_apart s (tables_of new.rows) w.tables) (λ j d l. within k (get_or (items_in new) j d) (w.more (get_or (items_in new) j d) (Contains-get_or (items_in new) j d l))) in
      let many : length (items_in new) ≡ length (items_in old) + 1 = w.counted in
      omega (arith, few, many)

  pub flag_new : IsFlag true old new
  flag_new = record { yes = λ e. record { item = x; is = w.there; fresh = fresh }; no = λ e. cc }
