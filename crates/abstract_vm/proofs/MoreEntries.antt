-- What an entry more adds to the items of tables.
use Rattle.std.proofs.Common.{◌≡◌, ℕ, suc, ◌+◌, ◌<◌, List, ◌∷◌, length, ◌⊎◌, inl, inr, refl, sym, ap, subst, ◌∙◌, arith}
use Rattle.std.specs.List.{Contains}
use Rattle.std.specs.List.Sorted.{IsPermutation}
use Rattle.std.proofs.lemmas.List.Sorted.{IsPermutation-sym, Contains-permutation, length_permutation}
use Rattle.graph_walks.proofs.Lists.{first, later, first_or_later}
use Rattle.flow_graph.specs.Flows.{PointRow}
use Rattle.typegraph.specs.Graphs.{total}
use Rattle.abstract_shapes.specs.declared.place.Place.{Place}
use Rattle.world_rules.specs.Sources.{Source}
use Rattle.world_rules.specs.Items.{Item, an_entry}
use Rattle.world_tables.specs.Tables.{Tables, the_shape, items_of, AreTables}
use Rattle.world_tables.proofs.Counted.{item_count}
use Rattle.world_tables.proofs.Items.{In, in_contexts, in_edges, in_facts, in_entries, items_in, has_known, has_edge, has_fact, has_entry}

module _ (s : Source) (t : Tables) (a : AreTables s t) (place : Place) (id : ℕ) (entries : List (Place × ℕ)) (grown : IsPermutation ((place, id) ∷ t.entries) entries) where
  abbrev u : Tables
  u = record t { entries = entries }

  one_new : (e : Place × ℕ) → Contains entries e → Contains (items_of t) (an_entry e.0 (the_shape t e.1)) ⊎ (an_entry e.0 (the_shape t e.1) ≡ an_entry place (the_shape t id))
  one_new e c =
      elim (first_or_later (place, id) e t.entries (Contains-permutation entries ((place, id) ∷ t.entries) e (IsPermutation-sym _ _ grown) c)) [
        | inl same ↦ inr (ap (λ (z : Place × ℕ). an_entry z.0 (the_shape t z.1)) same)
        | inr old ↦ inl (has_entry t e old)
      ]

  item_new : (i : Item) → In u i → Contains (items_of t) i ⊎ (i ≡ an_entry place (the_shape t id))
  item_new _ (in_contexts c k) = inl (has_known t c k)
  item_new _ (in_edges e k) = inl (has_edge t e k)
  item_new _ (in_facts q h k) = inl (has_fact t q h k)
  item_new _ (in_entries e k) = one_new e k

  item_old : (i : Item) → In t i → Contains (items_of u) i
  item_old _ (in_contexts c k) = has_known u c k
  item_old _ (in_edges e k) = has_edge u e k
  item_old _ (in_facts q h k) = has_fact u q h k
  item_old _ (in_entries e k) = has_entry u e (Contains-permutation ((place, id) ∷ t.entries) entries e grown (later (place, id) e t.entries k))

  pub entry_new : (i : Item) → Contains (items_of (record t { entries = entries })) i → Contains (items_of t) i ⊎ (i ≡ an_entry place (the_shape t id))
  entry_new i c = item_new i (items_in u i c)

  pub entry_old : (i : Item) → Contains (items_of t) i → Contains (items_of (record t { entries = entries })) i
  entry_old i c = item_old i (items_in t i c)

  pub entry_is_there : Contains (items_of (record t { entries = entries })) (an_entry place (the_shape t id))
  entry_is_there = has_entry u (place, id) (Contains-permutation ((place, id) ∷ t.entries) entries (place, id) grown (first (place, id) t.entries))

  pub entry_counted : length (items_of (record t { entries = entries })) ≡ length (items_of t) + 1
  entry_counted =
      let one : length (items_of u) ≡ ((length t.graph.flow.contexts + total (λ (p : PointRow). length p.into) t.graph.flow.points) + total length t.graph.facts) + length entries = item_count u a.numbering.context_count in
      let two : length (items_of t) ≡ ((length t.graph.flow.contexts + total (λ (p : PointRow). length p.into) t.graph.flow.points) + total length t.graph.facts) + length t.entries = item_count t a.numbering.context_count in
      let more : length entries ≡ suc (length t.entries) = length_permutation ((place, id) ∷ t.entries) entries grown in
      omega (arith, one, two, more)
