-- The world that a program begins with.
use Rattle.std.proofs.Common.{◌≡◌, ◌≢◌, ◌↔◌, ◌⊎◌, ◌+◌, ◌<◌, ◌≤◌, ℕ, Bool, true, false, IsTrue, List, [], ◌∷◌, ◌++◌, None, Some, length, take, refl, sym, ap, ◌∙◌, subst, inl, inr, arith}
use Rattle.std.specs.List.{AllPairs, Contains}
use Rattle.std.proofs.lemmas.List.Elements.{Contains-push_cases}
use Rattle.program_tables.specs.Programs.{Compiled}
use Rattle.flow_graph.specs.declared.context.Context.{Context as ContextRow}
use Rattle.flow_graph.specs.Flows.{HasContext}
use Rattle.abstract_shapes.specs.declared.place.Place.{Place}
use Rattle.abstract_shapes.specs.Tables.{entries}
use Rattle.world_rules.specs.Places.{Context, main}
use Rattle.world_rules.specs.Sources.{Source}
use Rattle.world_rules.specs.Items.{Item, a_context}
use Rattle.world_rules.specs.Rules.{IsContained, Gives, of_module, leads}
use Rattle.world_tables.specs.Tables.{items_of, AreTables, AreFinished}
use Rattle.world_tables.specs.Rows.{WorldRows, no_rows, contexts_of, context_of, the_context, tables_of}
use Rattle.context_code.specs.Sources.{IsSourceOf}
use Rattle.context_graph.specs.Growth.{IsGrown, IsEdgeOf, edge_of, IsWithEdges}
use Rattle.abstract_vm.specs.Worlds.{WorldState, items_in, most_items, AreEntriesThere}
use Rattle.abstract_vm.specs.Beginning.{IsFirstItem, the_module, its_edge, AreFirst, IsNewWorld, AreTooMany, has_module, IsBegun}

only_context : (i : Item) → Contains (a_context main ∷ []) i → a_context main ≡ i
only_context i c =
    elim (Contains-push_cases [] (a_context main) i c) [
      | inl (k, low, at) ↦ absurd (omega (arith, low))
      | inr e ↦ e
    ]

main_is : Contains (main ∷ []) main
main_is = (0, omega arith, refl)

-- the laws of counted items, for the tables at hand
abbrev pub StandOnce : Source → WorldRows → Type 0
StandOnce s rows = AllPairs (λ i j. i ≢ j) (items_of (tables_of rows))

pub begun : (s : Source) (old new : WorldRows) → old ≡ has_module → AreTables s (tables_of new) → IsGrown old new → new.finished ≡ old.finished + 1 →
    IsWithEdges s (the_context (contexts_of old) 0) (items_of (tables_of old)) (items_of (tables_of new)) → StandOnce s new → IsBegun s new
begun s old new same tables grown finished items once =
    record {
      tables = tables;
      finished = finished_is;
      has_main = has_main;
      first = record { each = λ i. (first_item i, has_item i); once = once };
    }
  where
    contexts : contexts_of new ≡ main ∷ []
    contexts = grown.contexts ∙ ap contexts_of same

    one : new.finished ≡ 1
    one = finished ∙ ap (λ (rows : WorldRows). rows.finished + 1) same

    finished_is : new.finished ≡ length (contexts_of new)
    finished_is = one ∙ sym (ap length contexts)

    has_main : Contains (contexts_of new) main
    has_main = subst (λ cs. Contains cs main) (sym contexts) main_is

    of_main : IsWithEdges s main (a_context main ∷ []) (items_of (tables_of new))
    of_main = subst (λ rows. IsWithEdges s (the_context (contexts_of rows) 0) (items_of (tables_of rows)) (items_of (tables_of new))) same items

    first_item : (i : Item) → Contains (items_of (tables_of new)) i → IsFirstItem s i
    first_item i c =
        elim (of_main.more i c) [
          | inl was ↦ subst (IsFirstItem s) (only_context i was) the_module
          | inr edge ↦ its_edge edge
        ]

    finished_main : Contains (take new.finished (contexts_of new)) main
    finished_main = subst (λ n. Contains (take n (contexts_of new)) main) (sym one) (subst (λ cs. Contains (take 1 cs) main) (sym contexts) main_is)

    has_edge : (i : Item) → IsEdgeOf s main i → Contains (items_of (tables_of new)) i
    has_edge i (edge_of stands goes there) = tables.leads main _ _ _ _ finished_main stands goes there

    has_item : (i : Item) → IsFirstItem s i → Contains (items_of (tables_of new)) i
    has_item i the_module = of_main.contained.at (a_context main) (0, omega arith, refl)
    has_item i (its_edge edge) = has_edge i edge

abbrev the_row : ContextRow
the_row = record { parent = None; call = None; fun = None }

-- the module's context keeps tables with nothing in them
pub module_keeps : (old new : WorldRows) → old ≡ no_rows → (s : Source) → AreTables s (tables_of old) →
    ((s : Source) → AreTables s (tables_of old) → (HasContext old.graph.flow the_row → ⊥) → Gives s (items_of (tables_of old)) (a_context (context_of (contexts_of old) old.points the_row)) → AreTables s (tables_of new)) →
    AreTables s (tables_of new)
module_keeps old new same s tables keeps = keeps s tables none gives
  where
    nothing : Contains [] the_row → ⊥
    nothing (k, low, at) = absurd (omega (arith, low))

    none : HasContext old.graph.flow the_row → ⊥
    none = subst (λ (rows : WorldRows). HasContext rows.graph.flow the_row → ⊥) (sym same) nothing

    gives : Gives s (items_of (tables_of old)) (a_context (context_of (contexts_of old) old.points the_row))
    gives = subst (λ rows. Gives s (items_of (tables_of rows)) (a_context (context_of (contexts_of rows) rows.points the_row))) (sym same) of_module

-- without entries each entry's shape is there
pub no_entries : (rows : WorldRows) → rows.joined ≡ [] → AreEntriesThere rows
no_entries rows none = record { at = λ e c. absurd (of_none e (subst (λ joined. Contains (entries joined) e) none c)) }
  where
    of_none : (e : Place × ℕ) → Contains (entries []) e → ⊥
    of_none e (k, low, at) = absurd (omega (arith, low))

no_more : (n m : ℕ) → (m < n → ⊥) → n ≤ m
no_more n m h = grind (arith, h)

-- what is begun is a new world, or it is too much
pub is_new : (s : Source) (w : WorldState) → IsBegun s w.rows → (most_items < length (items_in w) → ⊥) → IsNewWorld s w
is_new s w b few =
    record {
      world = record { tables = b.tables; finished = b.finished };
      has_main = b.has_main;
      first = b.first;
      few = no_more (length (items_in w)) most_items few;
    }

pub are_too_many : (s : Source) (rows : WorldRows) → IsBegun s rows → most_items < length (items_of (tables_of rows)) → AreTooMany s
are_too_many s rows b many = record { items = items_of (tables_of rows); first = b.first; many = many }

pub not_both : (b : Bool) → b ≡ false → IsTrue b → ⊥
not_both true first second = absurd (cc)
not_both false first second = absurd (cc)
