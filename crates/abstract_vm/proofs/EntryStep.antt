-- What adding an entry that is given does to a world.
use Rattle.std.proofs.Common.{◌≡◌, ℕ, ◌+◌, ◌<◌, ◌⊎◌, inl, inr, Bool, true, false, Result, Ok, Err, List, ◌∷◌, length, refl, sym, ap, subst, ◌∙◌, arith}
use Rattle.std.specs.List.{Contains}
use Rattle.std.specs.List.Sorted.{IsPermutation}
use Rattle.std.specs.Prelude.{OnErr}
use Rattle.std.proofs.lemmas.List.Sorted.{IsPermutation-sym, Contains-permutation}
use Rattle.graph_walks.proofs.Lists.{first_or_later}
use Rattle.goal_solver.specs.Memos.{SolverState, IsSound}
use Rattle.abstract_shapes.specs.declared.place.Place.{Place}
use Rattle.abstract_shapes.specs.declared.table.TableRow.{TableRow}
use Rattle.abstract_shapes.specs.Tables.{entries}
use Rattle.world_rules.specs.Places.{Point}
use Rattle.world_rules.specs.Sources.{Source}
use Rattle.world_rules.specs.Items.{Item}
use Rattle.world_rules.specs.Rules.{GivesAt}
use Rattle.world_tables.specs.Tables.{items_of, AreTables}
use Rattle.world_tables.specs.Rows.{WorldRows, tables_of}
use Rattle.world_tables.proofs.Items.{has_entry}
use Rattle.abstract_vm.specs.Worlds.{WorldState, items_in, AreEntriesThere, IsWorldOf}
use Rattle.abstract_vm.specs.Steps.{NumbersStay, IsStep, entry_in}
use Rattle.abstract_vm.proofs.Added.{IsWithItem, added, flag_new}
use Rattle.abstract_vm.proofs.MoreEntries.{entry_new, entry_old, entry_is_there, entry_counted}
use Rattle.abstract_vm.proofs.Steps.{step_none, step_refused}

module _ (old : WorldState) (place : Place) (shape : ℕ) (p : Point) where
  pub entry_known : {E : Type 0} (new : WorldState) → new ≡ old → Contains (entries old.rows.joined) (place, shape) →
      IsStep {E = E} (λ s. GivesAt s (items_in old) p (entry_in old place shape)) p (λ s i. i ≡ entry_in old place shape) (Ok false) old new
  entry_known new same k =
      step_none (λ s. GivesAt s (items_in old) p (entry_in old place shape)) p (λ s i. i ≡ entry_in old place shape) old new same
      (λ s h g i e. subst (Contains (items_in old)) (sym e) (has_entry (tables_of old.rows) (place, shape) k))

  module _ (joined : List TableRow) (grown : IsPermutation ((place, shape) ∷ entries old.rows.joined) (entries joined)) where
    abbrev new : WorldState
    new = record old { rows = record old.rows { joined = joined } }

    numbers_stay : NumbersStay old new
    numbers_stay = record { flow = refl; finished = refl; points = refl; variables = refl; shapes = λ id x h. h; facts = λ q f c. c; truths = omega arith; budget = refl; library = refl }

    module _ (s : Source) (h : IsWorldOf s old) (tables : AreTables s (tables_of new.rows)) where
      with_entry_item : IsWithItem s old new (entry_in old place shape)
      with_entry_item =
          record {
            tables = tables;
            stays = λ i k. entry_old s (tables_of old.rows) h.tables place shape (entries joined) grown i k;
            more = λ i k. entry_new s (tables_of old.rows) h.tables place shape (entries joined) grown i k;
            there = entry_is_there s (tables_of old.rows) h.tables place shape (entries joined) grown;
            counted = entry_counted s (tables_of old.rows) h.tables place shape (entries joined) grown;
          }

    pub entry_added : {E : Type 0} → ((s : Source) → AreTables s (tables_of old.rows) → GivesAt s (items_in old) p (entry_in old place shape) → AreTables s (tables_of (record old.rows { joined = joined }))) →
        IsStep {E = E} (λ s. GivesAt s (items_in old) p (entry_in old place shape)) p (λ s i. i ≡ entry_in old place shape) (Ok true) old (record old { rows = record old.rows { joined = joined } })
    entry_added keeps =
        record {
          stay = numbers_stay;
          fired = λ s h g. added s p old new (entry_in old place shape) numbers_stay h (with_entry_item s h (keeps s h.tables g)) g;
          told = λ s h g. flag_new s p old new (entry_in old place shape) numbers_stay h (with_entry_item s h (keeps s h.tables g)) g;
          has = λ s h g i e. subst (Contains (items_in new)) (sym e) (with_entry_item s h (keeps s h.tables g)).there;
        }

-- ---- what a call answers

module _ {E : Type 0} (old : WorldState) (rows : WorldRows) (place : Place) (shape : ℕ) (r : Result Bool E)
    (fresh : r ≡ Ok true → (Contains (entries old.rows.joined) (place, shape) → ⊥) × IsPermutation ((place, shape) ∷ entries old.rows.joined) (entries rows.joined) × (rows ≡ record old.rows { joined = rows.joined }))
    (known : r ≡ Ok false → Contains (entries old.rows.joined) (place, shape) × (rows ≡ old.rows)) (refused : OnErr r (rows ≡ old.rows)) where
  pub entry_answers : (p : Point) → ((s : Source) (p : Point) → AreTables s (tables_of old.rows) → GivesAt s (items_in old) p (entry_in old place shape) → AreTables s (tables_of rows)) →
      IsStep (λ s. GivesAt s (items_in old) p (entry_in old place shape)) p (λ s i. i ≡ entry_in old place shape) r old (record old { rows = rows })
  entry_answers p keeps = go r refl
    where
      go : (q : Result Bool E) → r ≡ q → IsStep (λ s. GivesAt s (items_in old) p (entry_in old place shape)) p (λ s i. i ≡ entry_in old place shape) q old (record old { rows = rows })
      go (Ok true) e =
          let f : rows ≡ record old.rows { joined = rows.joined } = (fresh e).2 in
          subst (λ (n : WorldRows). IsStep {E = E} (λ s. GivesAt s (items_in old) p (entry_in old place shape)) p (λ s i. i ≡ entry_in old place shape) (Ok true) old (record old { rows = n })) (sym f)
          (entry_added old place shape p rows.joined (fresh e).1 (λ s a g. subst (λ n. AreTables s (tables_of n)) f (keeps s p a g)))
      go (Ok false) e = entry_known old place shape p (record old { rows = rows }) (ap (λ (n : WorldRows). record old { rows = n }) (known e).1) (known e).0
      go (Err x) e =
          step_refused (λ s. GivesAt s (items_in old) p (entry_in old place shape)) p (λ s i. i ≡ entry_in old place shape) old (record old { rows = rows }) x
          (ap (λ (n : WorldRows). record old { rows = n }) (subst (λ q. OnErr q (rows ≡ old.rows)) e refused))

  -- the graph is the same, and the entries are there
  pub entry_invariant : (solver : SolverState) → IsSound solver old.rows.graph × AreEntriesThere old.rows → shape < length old.rows.graph.truths → IsSound solver rows.graph × AreEntriesThere rows
  entry_invariant solver h there = go r refl
    where
      stay : rows ≡ old.rows → IsSound solver rows.graph × AreEntriesThere rows
      stay e = subst (λ (n : WorldRows). IsSound solver n.graph × AreEntriesThere n) (sym e) h

      more : IsPermutation ((place, shape) ∷ entries old.rows.joined) (entries rows.joined) → AreEntriesThere (record old.rows { joined = rows.joined })
      more grown =
          record {
            at = λ e c. elim (first_or_later (place, shape) e (entries old.rows.joined) (Contains-permutation (entries rows.joined) ((place, shape) ∷ entries old.rows.joined) e (IsPermutation-sym _ _ grown) c)) [
              | inl same ↦ subst (λ (z : Place × ℕ). z.1 < length old.rows.graph.truths) (sym same) there
              | inr c ↦ h.1.at e c
            ];
          }

      go : (q : Result Bool E) → r ≡ q → IsSound solver rows.graph × AreEntriesThere rows
      go (Ok true) e = subst (λ (n : WorldRows). IsSound solver n.graph × AreEntriesThere n) (sym (fresh e).2) (h.0, more (fresh e).1)
      go (Ok false) e = stay (known e).1
      go (Err x) e = stay (subst (λ q. OnErr q (rows ≡ old.rows)) e refused)
