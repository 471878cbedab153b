-- A fact is added that the rules of its point give.
use Rattle.std.proofs.Common.{ℕ, slice_get, inl, inr, sym, subst}
use Rattle.std.specs.List.{Contains}
use Rattle.std.proofs.lemmas.List.Elements.{Contains-push_cases}
use Rattle.typegraph.specs.declared.fact.Fact.{Fact}
use Rattle.typegraph.specs.Graphs.{row_of, push_fact, with_fact}
use Rattle.typegraph.specs.Validity as graph_validity
use Rattle.typegraph.proofs.Tables.{changed_row}
use Rattle.world_rules.specs.Sources.{Source}
use Rattle.world_rules.specs.Items.{Item, a_fact}
use Rattle.world_rules.specs.Rules.{GivesAt, of_point, IsDerived, derived}
use Rattle.world_tables.specs.Tables.{Tables, the_point, fact_at, items_of, AreTables}
use Rattle.world_tables.proofs.Changed.{changed}
use Rattle.world_tables.proofs.Items.{In, in_contexts, in_edges, in_facts, in_entries, has_known, has_edge, has_fact, has_entry}

module _ (s : Source) (t : Tables) (a : AreTables s t) (p : ℕ) (f : Fact) (valid : graph_validity.IsValid (with_fact p f t.graph)) (g : GivesAt s (items_of t) (the_point t p) (a_fact (fact_at t p f))) where
  abbrev u : Tables
  u = record t { graph = with_fact p f t.graph }

  given : IsDerived s (a_fact (fact_at t p f))
  given = derived (items_of t) a.derived.each (of_point g)

  -- a fact of a row was there, or is the new one
  fact_derived : (q : ℕ) (h : Fact) → Contains (row_of (slice_get u.graph.facts q)) h → IsDerived s (a_fact (fact_at t q h))
  fact_derived q h c =
      elim (changed_row (push_fact f) t.graph.facts p q) [
        | inl same ↦ a.derived.each _ (has_fact t q h (subst (λ r. Contains r h) same c))
        | inr here ↦ elim (Contains-push_cases (row_of (slice_get t.graph.facts q)) f h (subst (λ r. Contains r h) here.1 c)) [
          | inl old ↦ a.derived.each _ (has_fact t q h old)
          | inr new ↦ subst (λ x. IsDerived s (a_fact (fact_at t q x))) new (subst (λ x. IsDerived s (a_fact (fact_at t x f))) (sym here.0) given)
        ]
      ]

  item_derived : (i : Item) → In u i → IsDerived s i
  item_derived _ (in_contexts c k) = a.derived.each _ (has_known t c k)
  item_derived _ (in_edges e k) = a.derived.each _ (has_edge t e k)
  item_derived _ (in_facts q h k) = fact_derived q h k
  item_derived _ (in_entries e k) = a.derived.each _ (has_entry t e k)

  pub fact_keeps : AreTables s (record t { graph = with_fact p f t.graph })
  fact_keeps = changed s t a u.graph.facts t.entries valid a.entries_once a.entries_there item_derived
