-- What adding a fact that is given does to a world.
use Rattle.std.proofs.Common.{◌≡◌, ℕ, ◌<◌, ◌≤◌, Bool, true, false, Result, Ok, Some, IsSome, List, length, slice_get, ◌+◌, ◌⊎◌, refl, sym, ap, subst, ◌∙◌, arith}
use Rattle.std.specs.List.{All, Contains}
use Rattle.flow_graph.specs.Flows.{target_of}
use Rattle.typegraph.specs.declared.fact.Fact.{Fact}
use Rattle.typegraph.specs.declared.goals.Binding.{Binding}
use Rattle.typegraph.specs.Graphs.{with_fact, HasFact, IsWithFact}
use Rattle.typegraph.specs.Validity.{IsBindingThere}
use Rattle.typegraph.proofs.Clashing.{joined_look, joined_there}
use Rattle.typegraph.proofs.Tables.{some_within}
use Rattle.abstract_shapes.specs.Numbering.{structures}
use Rattle.world_rules.specs.Sources.{Source}
use Rattle.world_rules.specs.Items.{Item, a_fact}
use Rattle.world_rules.specs.Rules.{GivesAt}
use Rattle.world_tables.specs.Tables.{Tables, the_shape, memory_at, fact_at, items_of, AreTables}
use Rattle.world_tables.specs.Rows.{WorldRows, tables_of, with_graph}
use Rattle.world_tables.proofs.Items.{has_fact}
use Rattle.world_tables.proofs.Memories.{same_memory}
use Rattle.world_tables.proofs.There.{fact_bindings}
use Rattle.abstract_vm.specs.Worlds.{WorldState, items_in, point_in, AreEntriesThere, IsWorldOf}
use Rattle.abstract_vm.specs.Steps.{NumbersStay, IsStep, fact_in}
use Rattle.abstract_vm.proofs.Added.{IsWithItem, added, flag_new}
use Rattle.abstract_vm.proofs.MoreFacts.{row_old, fact_new, fact_old, fact_is_there, fact_counted}
use Rattle.abstract_vm.proofs.Stay.{stay_itself, bindings_there}
use Rattle.abstract_vm.proofs.Steps.{step_none}

module _ (old : WorldState) (point shape : ℕ) (goals : List Binding) (bound : All (IsBindingThere old.rows.graph.flow.vars (length old.rows.graph.truths)) goals) where
  abbrev Given : Source → Type 0
  Given s = GivesAt s (items_in old) (point_in old point) (fact_in old point shape goals)

  abbrev Wanted : Source → Item → Type 0
  Wanted s i = i ≡ fact_in old point shape goals

  -- ---- it was there

  module _ (h : HasFact old.rows.graph point shape goals) (s : Source) (w : IsWorldOf s old) where
    found_is : a_fact (fact_at (tables_of old.rows) point h.fact) ≡ fact_in old point shape goals
    found_is =
        let x : the_shape (tables_of old.rows) h.fact.shape ≡ the_shape (tables_of old.rows) shape = ap (the_shape (tables_of old.rows)) h.shape_is in
        let m : memory_at (tables_of old.rows) h.fact.source ≡ memory_at (tables_of old.rows) goals =
        same_memory (tables_of old.rows) w.tables.numbering.variables_once h.fact.source goals (fact_bindings s (tables_of old.rows) w.tables.numbering point h.fact h.is)
        (bindings_there old old (stay_itself old) s w.tables.numbering goals bound) h.source_is in
        λ i. a_fact (record { point = point_in old point; shape = x i; source = m i })

    known_there : Contains (items_in old) (fact_in old point shape goals)
    known_there = subst (Contains (items_in old)) found_is (has_fact (tables_of old.rows) point h.fact h.is)

  pub fact_known : {E : Type 0} (new : WorldState) → new ≡ old → HasFact old.rows.graph point shape goals → IsStep {E = E} (λ s. GivesAt s (items_in old) (point_in old point) (fact_in old point shape goals)) (point_in old point)
      (λ s i. i ≡ fact_in old point shape goals) (Ok false) old new
  fact_known new same h = step_none Given (point_in old point) Wanted old new same (λ s w g i e. subst (Contains (items_in old)) (sym e) (known_there h s w))

  -- ---- it is new

  module _ (new : WorldState) (target : IsSome (target_of (slice_get old.rows.graph.flow.points point))) (w : IsWithFact old.rows.graph point shape goals new.rows.graph) (rows_are : new.rows ≡ with_graph new.rows.graph old.rows)
      (budget : new.solver.budget ≡ old.solver.budget) (library : new.library ≡ old.library) where
    abbrev fact : Fact
    fact = record { shape = shape; source = w.map }

    abbrev rows : WorldRows
    rows = with_graph (with_fact point fact old.rows.graph) old.rows

    rows_is : new.rows ≡ rows
    rows_is = rows_are ∙ ap (λ g. with_graph g old.rows) w.is

    numbers : NumbersStay old (record { rows = rows; solver = new.solver; library = new.library })
    numbers = record { flow = refl; finished = refl; points = refl; variables = refl; shapes = λ id x h. h; facts = λ q f c. row_old old.rows.graph.facts point fact q f c; truths = omega arith; budget = budget; library = library }

    numbers_stay : NumbersStay old new
    numbers_stay = subst (λ (r : WorldRows). NumbersStay old (record { rows = r; solver = new.solver; library = new.library })) (sym rows_is) numbers

    module _ (s : Source) (h : IsWorldOf s old) (tables : AreTables s (tables_of new.rows)) where
      fact_is : a_fact (fact_at (tables_of old.rows) point fact) ≡ fact_in old point shape goals
      fact_is =
          let there : All (IsBindingThere old.rows.graph.flow.vars (length old.rows.graph.truths)) w.map = joined_there (IsBindingThere old.rows.graph.flow.vars (length old.rows.graph.truths)) goals w.map w.rising w.joined bound in
          let m : memory_at (tables_of old.rows) w.map ≡ memory_at (tables_of old.rows) goals =
          same_memory (tables_of old.rows) h.tables.numbering.variables_once w.map goals (bindings_there old old (stay_itself old) s h.tables.numbering w.map there)
          (bindings_there old old (stay_itself old) s h.tables.numbering goals bound) (joined_look goals w.map w.joined) in
          λ i. a_fact (record { point = point_in old point; shape = the_shape (tables_of old.rows) shape; source = m i })

      row_there : point < length old.rows.graph.facts
      row_there = subst (λ n. point < n) (sym h.tables.numbering.graph_valid.rows) (some_within old.rows.graph.flow.points point target)

      pub with_fact_item : IsWithItem s old new (fact_in old point shape goals)
      with_fact_item =
          record {
            tables = tables;
            stays = λ i k. subst (λ r. Contains (items_of (tables_of r)) i) (sym rows_is) (fact_old s (tables_of old.rows) h.tables point fact row_there i k);
            more = λ i k. subst (λ x. Contains (items_in old) i ⊎ (i ≡ x)) fact_is (fact_new s (tables_of old.rows) h.tables point fact row_there i (subst (λ r. Contains (items_of (tables_of r)) i) rows_is k));
            there = subst (λ r. Contains (items_of (tables_of r)) (fact_in old point shape goals)) (sym rows_is) (subst (Contains (items_of (tables_of rows))) fact_is (fact_is_there s (tables_of old.rows) h.tables point fact row_there));
            counted = subst (λ r. length (items_of (tables_of r)) ≡ length (items_in old) + 1) (sym rows_is) (fact_counted s (tables_of old.rows) h.tables point fact row_there);
          }

    pub fact_added : {E : Type 0} → ((s : Source) → AreTables s (tables_of old.rows) → GivesAt s (items_in old) (point_in old point) (fact_in old point shape goals) → AreTables s (tables_of new.rows)) →
        IsStep {E = E} (λ s. GivesAt s (items_in old) (point_in old point) (fact_in old point shape goals)) (point_in old point) (λ s i. i ≡ fact_in old point shape goals) (Ok true) old new
    fact_added keeps =
        record {
          stay = numbers_stay;
          fired = λ s h g. added s (point_in old point) old new (fact_in old point shape goals) numbers_stay h (with_fact_item s h (keeps s h.tables g)) g;
          told = λ s h g. flag_new s (point_in old point) old new (fact_in old point shape goals) numbers_stay h (with_fact_item s h (keeps s h.tables g)) g;
          has = λ s h g i e. subst (Contains (items_in new)) (sym e) (with_fact_item s h (keeps s h.tables g)).there;
        }

-- ---- what a call answers, where the world that it had is the one of before

module _ {E : Type 0} (old now : WorldState) (view : old ≡ now) (point shape : ℕ) (source goals : List Binding) (same : source ≡ goals) where
  abbrev FactStep : WorldState → List Binding → Result Bool E → WorldState → Type 0
  FactStep w gs r new =
      All (IsBindingThere w.rows.graph.flow.vars (length w.rows.graph.truths)) gs →
      IsStep {E = E} (λ s. GivesAt s (items_in w) (point_in w point) (fact_in w point shape gs)) (point_in w point) (λ s i. i ≡ fact_in w point shape gs) r w new

  moved : (r : Result Bool E) (new : WorldState) → FactStep old source r new → FactStep now goals r new
  moved r new h = subst (λ w. FactStep w goals r new) view (subst (λ gs. FactStep old gs r new) same h)

  pub added_now : (new : WorldState) → IsSome (target_of (slice_get now.rows.graph.flow.points point)) → All (IsBindingThere now.rows.graph.flow.vars (length now.rows.graph.truths)) goals →
      IsWithFact old.rows.graph point shape source new.rows.graph → new.rows ≡ with_graph new.rows.graph old.rows → new.solver.budget ≡ old.solver.budget → new.library ≡ old.library →
      ((s : Source) → AreTables s (tables_of old.rows) → GivesAt s (items_in old) (point_in old point) (fact_in old point shape source) → AreTables s (tables_of new.rows)) →
      IsStep {E = E} (λ s. GivesAt s (items_in now) (point_in now point) (fact_in now point shape goals)) (point_in now point) (λ s i. i ≡ fact_in now point shape goals) (Ok true) now new
  added_now new target bound w rows budget library keeps =
      moved (Ok true) new
      (λ b. fact_added old point shape source b new (subst (λ w. IsSome (target_of (slice_get w.rows.graph.flow.points point))) (sym view) target) w rows budget library keeps) bound

  pub known_now : (new : WorldState) → All (IsBindingThere now.rows.graph.flow.vars (length now.rows.graph.truths)) goals → new ≡ old → HasFact old.rows.graph point shape source →
      IsStep {E = E} (λ s. GivesAt s (items_in now) (point_in now point) (fact_in now point shape goals)) (point_in now point) (λ s i. i ≡ fact_in now point shape goals) (Ok false) now new
  known_now new bound is h = moved (Ok false) new (λ b. fact_known old point shape source b new is h) bound

-- the entries are there still
pub fact_entries : (old new : WorldRows) (point shape : ℕ) (source : List Binding) → IsWithFact old.graph point shape source new.graph → new ≡ with_graph new.graph old → AreEntriesThere old → AreEntriesThere new
fact_entries old new point shape source w rows h =
    let same : new ≡ with_graph (with_fact point (record { shape = shape; source = w.map }) old.graph) old = rows ∙ ap (λ g. with_graph g old) w.is in
    let there : AreEntriesThere (with_graph (with_fact point (record { shape = shape; source = w.map }) old.graph) old) = record { at = h.at } in
    subst AreEntriesThere (sym same) there
