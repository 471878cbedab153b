-- Firing goes on: what one step leaves, the next may take up.
use Rattle.std.proofs.Common.{◌≡◌, Bool, true, false, ◌||◌, List, ◌⊎◌, inl, inr, refl, sym, ap, subst, ◌∙◌}
use Rattle.std.specs.List.{Contains}
use Rattle.world_rules.specs.Places.{Point}
use Rattle.world_rules.specs.Sources.{Source}
use Rattle.world_rules.specs.Items.{Item}
use Rattle.world_rules.specs.Rules.{GivesAt, IsContained}
use Rattle.world_rules.proofs.Growing.{point_more}
use Rattle.world_tables.specs.Rows.{tables_of}
use Rattle.abstract_vm.specs.Worlds.{WorldState, items_in, IsWorldOf}
use Rattle.abstract_vm.specs.Firing.{HasNewItem, IsFired}
use Rattle.abstract_vm.specs.Steps.{IsFlag}

pub contained_on : (a b c : List Item) → IsContained a b → IsContained b c → IsContained a c
contained_on a b c h k = record { at = λ i m. k.at i (h.at i m) }

pub fired_itself : (s : Source) (p : Point) (w : WorldState) → IsWorldOf s w → IsFired s p w w
fired_itself s p w h = record { world = h; contained = record { at = λ i k. k }; given = λ i k. inl k; flow = refl; points = refl; variables = refl; budget = refl; library = refl }

pub fired_same : (s : Source) (p : Point) (v w : WorldState) → w ≡ v → IsWorldOf s v → IsFired s p v w
fired_same s p v w e h = subst (IsFired s p v) (sym e) (fired_itself s p v h)

module _ (s : Source) (p : Point) (u v w : WorldState) (a : IsFired s p u v) (b : IsFired s p v w) where
  -- what the middle was given, the last is given
  given_on : (i : Item) → Contains (items_in w) i → Contains (items_in u) i ⊎ GivesAt s (items_in w) p i
  given_on i k =
      elim (b.given i k) [
        | inr g ↦ inr g
        | inl m ↦ elim (a.given i m) [ inl l ↦ inl l | inr g ↦ inr (point_more s (items_in v) (items_in w) b.contained g) ]
      ]

  pub fired_on : IsFired s p u w
  fired_on =
      record {
        world = b.world;
        contained = contained_on _ _ _ a.contained b.contained;
        given = given_on;
        flow = b.flow ∙ a.flow;
        points = b.points ∙ a.points;
        variables = b.variables ∙ a.variables;
        budget = b.budget ∙ a.budget;
        library = b.library ∙ a.library;
      }

-- ---- flags

pub no_item_more : (w : WorldState) → HasNewItem w w → ⊥
no_item_more w h = h.fresh h.is

pub flag_none : (w : WorldState) → IsFlag false w w
flag_none w = record { yes = λ e. cc; no = λ e. no_item_more w }

module _ (u v w : WorldState) (first : IsContained (items_in u) (items_in v)) (then : IsContained (items_in v) (items_in w)) where
  early : HasNewItem u v → HasNewItem u w
  early h = record { item = h.item; is = then.at h.item h.is; fresh = h.fresh }

  late : HasNewItem v w → HasNewItem u w
  late h = record { item = h.item; is = h.is; fresh = λ k. h.fresh (first.at h.item k) }

  neither : (HasNewItem u v → ⊥) → (HasNewItem v w → ⊥) → HasNewItem u w → ⊥
  neither m n h = n (record { item = h.item; is = h.is; fresh = λ k. m (record { item = h.item; is = k; fresh = h.fresh }) })

  pub flag_on : (one other : Bool) → IsFlag one u v → IsFlag other v w → IsFlag (one || other) u w
  flag_on true other a b = record { yes = λ e. early (a.yes refl); no = λ e. cc }
  flag_on false true a b = record { yes = λ e. late (b.yes refl); no = λ e. cc }
  flag_on false false a b = record { yes = λ e. cc; no = λ e. neither (a.no refl) (b.no refl) }
