-- An entry is added that the rules of a point give, wherever it stands among the others.
use Rattle.std.proofs.Common.{◌≡◌, ℕ, ◌<◌, List, ◌∷◌, length, ◌⊎◌, inl, inr, sym, subst}
use Rattle.std.specs.List.{Contains}
use Rattle.std.specs.List.Sorted.{IsPermutation}
use Rattle.std.proofs.lemmas.List.Sorted.{IsPermutation-sym, Contains-permutation, IsPermutation-trans, IsPermutation-to_front}
use Rattle.graph_walks.proofs.Lists.{first_or_later}
use Rattle.abstract_shapes.specs.declared.place.Place.{Place}
use Rattle.world_rules.specs.Places.{Point}
use Rattle.world_rules.specs.Sources.{Source}
use Rattle.world_rules.specs.Items.{Item, an_entry}
use Rattle.world_rules.specs.Rules.{GivesAt, of_point, IsDerived, derived}
use Rattle.world_tables.specs.Tables.{Tables, the_shape, items_of, AreTables}
use Rattle.world_tables.proofs.Apart.{apart_more, still_apart}
use Rattle.world_tables.proofs.Changed.{changed}
use Rattle.world_tables.proofs.Items.{In, in_contexts, in_edges, in_facts, in_entries, has_known, has_edge, has_fact, has_entry}

module _ (s : Source) (t : Tables) (a : AreTables s t) (place : Place) (id : ℕ) (there : id < length t.shapes) (p : Point) (g : GivesAt s (items_of t) p (an_entry place (the_shape t id)))
    (entries : List (Place × ℕ)) (new : Contains t.entries (place, id) → ⊥) (grown : IsPermutation ((place, id) ∷ t.entries) entries) where
  abbrev u : Tables
  u = record t { entries = entries }

  old_or_new : (e : Place × ℕ) → Contains entries e → (e ≡ (place, id)) ⊎ Contains t.entries e
  old_or_new e c = first_or_later (place, id) e t.entries (Contains-permutation entries ((place, id) ∷ t.entries) e (IsPermutation-sym _ _ grown) c)

  below : (e : Place × ℕ) → Contains entries e → e.1 < length t.shapes
  below e c = elim (old_or_new e c) [ inl same ↦ subst (λ z. z.1 < length t.shapes) (sym same) there | inr old ↦ a.entries_there e old ]

  item_derived : (i : Item) → In u i → IsDerived s i
  item_derived _ (in_contexts c k) = a.derived.each _ (has_known t c k)
  item_derived _ (in_edges e k) = a.derived.each _ (has_edge t e k)
  item_derived _ (in_facts q h k) = a.derived.each _ (has_fact t q h k)
  item_derived _ (in_entries e k) =
      elim (old_or_new e k) [
        | inl same ↦ subst (λ z. IsDerived s (an_entry z.0 (the_shape t z.1))) (sym same) (derived (items_of t) a.derived.each (of_point g))
        | inr old ↦ a.derived.each _ (has_entry t e old)
      ]

  pub entry_keeps : AreTables s (record t { entries = entries })
  entry_keeps =
      changed s t a t.graph.facts entries a.numbering.graph_valid
      (still_apart _ entries (IsPermutation-trans _ _ entries (IsPermutation-to_front t.entries (place, id)) grown) (apart_more t.entries (place, id) a.entries_once new))
      below item_derived
