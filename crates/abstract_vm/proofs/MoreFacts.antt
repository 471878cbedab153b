-- What a fact more adds to the items of tables.
use Rattle.std.proofs.Common.{◌≡◌, ℕ, suc, ◌+◌, ◌<◌, List, [], ◌∷◌, length, slice_get, ◌⊎◌, inl, inr, refl, sym, ap, subst, ◌∙◌, arith, length-append}
use Rattle.std.specs.List.{Contains}
use Rattle.std.proofs.lemmas.List.Elements.{Contains-push_cases, Contains-append_left, Contains-append_right}
use Rattle.graph_walks.proofs.Lists.{first}
use Rattle.flow_graph.specs.Flows.{changed_at, PointRow}
use Rattle.typegraph.specs.declared.fact.Fact.{Fact}
use Rattle.typegraph.specs.Graphs.{row_of, push_fact, with_fact, total}
use Rattle.typegraph.proofs.Tables.{changed_row, changed_here}
use Rattle.typegraph.proofs.Totals.{total_changed}
use Rattle.world_rules.specs.Sources.{Source}
use Rattle.world_rules.specs.Items.{Item, a_fact}
use Rattle.world_tables.specs.Tables.{Tables, fact_at, items_of, AreTables}
use Rattle.world_tables.proofs.Counted.{item_count}
use Rattle.world_tables.proofs.Items.{In, in_contexts, in_edges, in_facts, in_entries, items_in, has_known, has_edge, has_fact, has_entry}

-- no fact is lost
pub row_old : (rows : List (List Fact)) (p : ℕ) (f : Fact) (q : ℕ) (h : Fact) → Contains (row_of (slice_get rows q)) h → Contains (row_of (slice_get (changed_at (push_fact f) rows p) q)) h
row_old rows p f q h c =
    elim (changed_row (push_fact f) rows p q) [
      | inl same ↦ subst (λ r. Contains r h) (sym same) c
      | inr here ↦ subst (λ r. Contains r h) (sym here.1) (Contains-append_left (row_of (slice_get rows q)) (f ∷ []) h c)
    ]

module _ (s : Source) (t : Tables) (a : AreTables s t) (p : ℕ) (f : Fact) (there : p < length t.graph.facts) where
  abbrev u : Tables
  u = record t { graph = with_fact p f t.graph }

  row_new : (q : ℕ) (h : Fact) → Contains (row_of (slice_get (changed_at (push_fact f) t.graph.facts p) q)) h → Contains (items_of t) (a_fact (fact_at t q h)) ⊎ (a_fact (fact_at t q h) ≡ a_fact (fact_at t p f))
  row_new q h c =
      elim (changed_row (push_fact f) t.graph.facts p q) [
        | inl same ↦ inl (has_fact t q h (subst (λ r. Contains r h) same c))
        | inr here ↦ elim (Contains-push_cases (row_of (slice_get t.graph.facts q)) f h (subst (λ r. Contains r h) here.1 c)) [
          | inl old ↦ inl (has_fact t q h old)
          | inr new ↦ inr (ap (λ n. a_fact (fact_at t n h)) here.0 ∙ ap (λ g. a_fact (fact_at t p g)) (sym new))
        ]
      ]

  item_new : (i : Item) → In u i → Contains (items_of t) i ⊎ (i ≡ a_fact (fact_at t p f))
  item_new _ (in_contexts c k) = inl (has_known t c k)
  item_new _ (in_edges e k) = inl (has_edge t e k)
  item_new _ (in_facts q h k) = row_new q h k
  item_new _ (in_entries e k) = inl (has_entry t e k)

  item_old : (i : Item) → In t i → Contains (items_of u) i
  item_old _ (in_contexts c k) = has_known u c k
  item_old _ (in_edges e k) = has_edge u e k
  item_old _ (in_facts q h k) = has_fact u q h (row_old t.graph.facts p f q h k)
  item_old _ (in_entries e k) = has_entry u e k

  pub fact_new : (i : Item) → Contains (items_of (record t { graph = with_fact p f t.graph })) i → Contains (items_of t) i ⊎ (i ≡ a_fact (fact_at t p f))
  fact_new i c = item_new i (items_in u i c)

  pub fact_old : (i : Item) → Contains (items_of t) i → Contains (items_of (record t { graph = with_fact p f t.graph })) i
  fact_old i c = item_old i (items_in t i c)

  pub fact_is_there : Contains (items_of (record t { graph = with_fact p f t.graph })) (a_fact (fact_at t p f))
  fact_is_there = has_fact u p f (subst (λ r. Contains r f) (sym (changed_here (push_fact f) t.graph.facts p there)) (Contains-append_right (row_of (slice_get t.graph.facts p)) (f ∷ []) f (first f [])))

  pub fact_counted : length (items_of (record t { graph = with_fact p f t.graph })) ≡ length (items_of t) + 1
  fact_counted =
      let one : length (items_of u) ≡ ((length t.graph.flow.contexts + total (λ (p : PointRow). length p.into) t.graph.flow.points) + total length (changed_at (push_fact f) t.graph.facts p)) + length t.entries = item_count u a.numbering.context_count in
      let two : length (items_of t) ≡ ((length t.graph.flow.contexts + total (λ (p : PointRow). length p.into) t.graph.flow.points) + total length t.graph.facts) + length t.entries = item_count t a.numbering.context_count in
      let more : total length (changed_at (push_fact f) t.graph.facts p) ≡ total length t.graph.facts + 1 = total_changed length (push_fact f) (λ row. length-append row (f ∷ [])) t.graph.facts p there in
      omega (arith, one, two, more)
