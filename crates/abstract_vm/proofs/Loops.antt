-- Steps of loops over what is added.
use Rattle.std.proofs.Common.{◌≡◌, ℕ, ◌+◌, ◌<◌, Bool, true, false, Result, Ok, Err, List, take, get_or, length, ◌⊎◌, inl, inr, refl, sym, ap, subst, ◌∙◌}
use Rattle.std.specs.List.{All, Contains}
use Rattle.typegraph.specs.declared.goals.Binding.{Binding}
use Rattle.typegraph.specs.Validity.{IsBindingThere}
use Rattle.abstract_shapes.specs.declared.place.Place.{Place}
use Rattle.abstract_shapes.specs.Shapes.{Shape}
use Rattle.world_rules.specs.declared.row.TableEntry.{TableEntry}
use Rattle.world_rules.specs.declared.row.TransferRow.{TransferRow}
use Rattle.world_rules.specs.declared.row.Yield.{Yield}
use Rattle.world_rules.specs.Places.{Point}
use Rattle.world_rules.specs.Sources.{Source}
use Rattle.world_rules.specs.Items.{Item, a_fact, an_entry}
use Rattle.world_rules.specs.Rules.{GivesAt}
use Rattle.world_rules.proofs.Growing.{point_more}
use Rattle.world_tables.specs.Tables.{the_shape, memory_at}
use Rattle.world_tables.specs.Rows.{tables_of}
use Rattle.abstract_vm.specs.Worlds.{WorldState, items_in, point_in, IsWorldOf}
use Rattle.abstract_vm.specs.Firing.{IsFired}
use Rattle.abstract_vm.specs.Steps.{NumbersStay, IsStep, IsOneOf, HasNumber, AreYielded, IsFiring, IsFiringUnder, MayResult, MayEnter, IsGivenFact, IsGivenEntry, shapes_in, fact_in, entry_in}
use Rattle.abstract_vm.proofs.Firings.{firing_on, under_on, given_fact_on, given_entry_on, fact_given, entry_given}
use Rattle.abstract_vm.proofs.Stay.{point_stays, shape_stays, memory_stays, fact_stays}
use Rattle.abstract_vm.proofs.Steps.{joined, joined_none, step_then, step_quiet, one_of_more, at_place}

-- ---- one fact, or one entry, for each of some shapes

module _ {E : Type 0} (u v w : WorldState) (ids : List ℕ) (there : All (λ id. id < length u.rows.graph.truths) ids) (k x : ℕ) (below : k < length ids) (at : x ≡ get_or ids k x) (one : Bool) (r : Result Bool E) where
  x_there : x < length u.rows.graph.truths
  x_there = subst (λ n. n < length u.rows.graph.truths) (sym at) (there k x below)

  module _ (point : ℕ) (goals : List Binding) (bound : All (IsBindingThere u.rows.graph.flow.vars (length u.rows.graph.truths)) goals) where
    abbrev Given : Source → Type 0
    Given s = (id : ℕ) → Contains ids id → GivesAt s (items_in u) (point_in u point) (fact_in u point id goals)

    pub facts_more : IsStep {E = E} (λ s. (id : ℕ) → Contains ids id → GivesAt s (items_in u) (point_in u point) (fact_in u point id goals)) (point_in u point) (λ s. IsOneOf (λ id i. i ≡ fact_in u point id goals) (take k ids)) (Ok one) u v →
        IsStep (λ s. GivesAt s (items_in v) (point_in v point) (fact_in v point x goals)) (point_in v point) (λ s i. i ≡ fact_in v point x goals) r v w →
        IsStep (λ s. (id : ℕ) → Contains ids id → GivesAt s (items_in u) (point_in u point) (fact_in u point id goals)) (point_in u point) (λ s. IsOneOf (λ id i. i ≡ fact_in u point id goals) (take (k + 1) ids)) (joined one r) u w
    facts_more a b =
        step_then Given (λ s. GivesAt s (items_in v) (point_in v point) (fact_in v point x goals)) (point_in u point) (point_in v point)
        (λ s. IsOneOf (λ id i. i ≡ fact_in u point id goals) (take k ids)) (λ s i. i ≡ fact_in v point x goals) (λ s. IsOneOf (λ id i. i ≡ fact_in u point id goals) (take (k + 1) ids))
        one u v w a (point_stays u v a.stay point) gives covers r b
      where
        same : (s : Source) → IsWorldOf s u → fact_in v point x goals ≡ fact_in u point x goals
        same s h = fact_stays u v a.stay s h.tables.numbering point x goals x_there bound

        gives : (s : Source) → IsWorldOf s u → Given s → IsFired s (point_in u point) u v → GivesAt s (items_in v) (point_in v point) (fact_in v point x goals)
        gives s h g f =
            let now : GivesAt s (items_in v) (point_in u point) (fact_in u point x goals) = point_more s (items_in u) (items_in v) f.contained (g x (at_place ids k x below at)) in
            subst (λ p. GivesAt s (items_in v) p (fact_in v point x goals)) (sym (point_stays u v a.stay point)) (subst (GivesAt s (items_in v) (point_in u point)) (sym (same s h)) now)

        covers : (s : Source) → IsWorldOf s u → Given s → IsFired s (point_in u point) u v → (i : Item) → IsOneOf (λ id i. i ≡ fact_in u point id goals) (take (k + 1) ids) i →
            IsOneOf (λ id i. i ≡ fact_in u point id goals) (take k ids) i ⊎ (i ≡ fact_in v point x goals)
        covers s h g f i o = elim (one_of_more (λ id i. i ≡ fact_in u point id goals) ids k x i below at o) [ inl m ↦ inl m | inr e ↦ inr (e ∙ sym (same s h)) ]

  module _ (place : Place) (p : Point) where
    abbrev Entered : Source → Type 0
    Entered s = (id : ℕ) → Contains ids id → GivesAt s (items_in u) p (entry_in u place id)

    pub entries_more : IsStep {E = E} (λ s. (id : ℕ) → Contains ids id → GivesAt s (items_in u) p (entry_in u place id)) p (λ s. IsOneOf (λ id i. i ≡ entry_in u place id) (take k ids)) (Ok one) u v →
        IsStep (λ s. GivesAt s (items_in v) p (entry_in v place x)) p (λ s i. i ≡ entry_in v place x) r v w →
        IsStep (λ s. (id : ℕ) → Contains ids id → GivesAt s (items_in u) p (entry_in u place id)) p (λ s. IsOneOf (λ id i. i ≡ entry_in u place id) (take (k + 1) ids)) (joined one r) u w
    entries_more a b =
        step_then Entered (λ s. GivesAt s (items_in v) p (entry_in v place x)) p p
        (λ s. IsOneOf (λ id i. i ≡ entry_in u place id) (take k ids)) (λ s i. i ≡ entry_in v place x) (λ s. IsOneOf (λ id i. i ≡ entry_in u place id) (take (k + 1) ids))
        one u v w a refl gives covers r b
      where
        same : (s : Source) → IsWorldOf s u → entry_in v place x ≡ entry_in u place x
        same s h = ap (an_entry place) (shape_stays u v a.stay s h.tables.numbering x x_there)

        gives : (s : Source) → IsWorldOf s u → Entered s → IsFired s p u v → GivesAt s (items_in v) p (entry_in v place x)
        gives s h g f = subst (GivesAt s (items_in v) p) (sym (same s h)) (point_more s (items_in u) (items_in v) f.contained (g x (at_place ids k x below at)))

        covers : (s : Source) → IsWorldOf s u → Entered s → IsFired s p u v → (i : Item) → IsOneOf (λ id i. i ≡ entry_in u place id) (take (k + 1) ids) i → IsOneOf (λ id i. i ≡ entry_in u place id) (take k ids) i ⊎ (i ≡ entry_in v place x)
        covers s h g f i o = elim (one_of_more (λ id i. i ≡ entry_in u place id) ids k x i below at o) [ inl m ↦ inl m | inr e ↦ inr (e ∙ sym (same s h)) ]

-- ---- the shapes of one result, or of one entry

module _ {E : Type 0} (u v w : WorldState) (n : NumbersStay u v) (same : (s : Source) → IsWorldOf s u → IsWorldOf s v × (items_in v ≡ items_in u)) (choice ids : List ℕ) (r : Result Bool E) where
  module _ (point : ℕ) (goals : List Binding) (bound : All (IsBindingThere u.rows.graph.flow.vars (length u.rows.graph.truths)) goals) (y : Yield) (yielded : (s : Source) → IsWorldOf s u → AreYielded s (items_in u) (shapes_in u choice) y v ids) where
    abbrev Resulting : Source → Type 0
    Resulting s = MayResult s u (point_in u point) choice goals y

    fact_moves : (s : Source) → IsWorldOf s u → (x : Shape) → a_fact (record { point = point_in u point; shape = x; source = memory_at (tables_of u.rows) goals }) ≡ a_fact (record { point = point_in v point; shape = x; source = memory_at (tables_of v.rows) goals })
    fact_moves s h x =
        let m : memory_at (tables_of v.rows) goals ≡ memory_at (tables_of u.rows) goals = memory_stays u v n s h.tables.numbering goals bound in
        λ j. a_fact (record { point = sym (point_stays u v n point) j; shape = x; source = sym m j })

    pub result_step : IsStep {E = E} (λ s. (id : ℕ) → Contains ids id → GivesAt s (items_in v) (point_in v point) (fact_in v point id goals)) (point_in v point) (λ s. IsOneOf (λ id i. i ≡ fact_in v point id goals) ids) r v w →
        IsStep (λ s. MayResult s u (point_in u point) choice goals y) (point_in u point) (λ s. IsGivenFact s u point choice goals y) r u w
    result_step b =
        subst (λ q. IsStep Resulting (point_in u point) (λ s. IsGivenFact s u point choice goals y) q u w) (joined_none r)
        (step_then Resulting (λ s. (id : ℕ) → Contains ids id → GivesAt s (items_in v) (point_in v point) (fact_in v point id goals)) (point_in u point) (point_in v point)
        (λ s i. ⊥) (λ s. IsOneOf (λ id i. i ≡ fact_in v point id goals) ids) (λ s. IsGivenFact s u point choice goals y)
        false u v w (step_quiet Resulting (point_in u point) u v n same) (point_stays u v n point) gives covers r b)
      where
        gives : (s : Source) → IsWorldOf s u → Resulting s → IsFired s (point_in u point) u v → (id : ℕ) → Contains ids id → GivesAt s (items_in v) (point_in v point) (fact_in v point id goals)
        gives s h g f id c =
            let x : Shape = the_shape (tables_of v.rows) id in
            let then : GivesAt s (items_in u) (point_in u point) (a_fact (record { point = point_in u point; shape = x; source = memory_at (tables_of u.rows) goals })) =
            fact_given s u (point_in u point) choice goals y x g ((yielded s h).each id c) in
            let now : GivesAt s (items_in v) (point_in u point) (fact_in v point id goals) = subst (GivesAt s (items_in v) (point_in u point)) (fact_moves s h x) (point_more s (items_in u) (items_in v) f.contained then) in
            subst (λ p. GivesAt s (items_in v) p (fact_in v point id goals)) (sym (point_stays u v n point)) now

        covers : (s : Source) → IsWorldOf s u → Resulting s → IsFired s (point_in u point) u v → (i : Item) → IsGivenFact s u point choice goals y i → ⊥ ⊎ IsOneOf (λ id i. i ≡ fact_in v point id goals) ids i
        covers s h g f i k =
            let m : HasNumber v ids k.shape = (yielded s h).all k.shape k.given in
            inr (record { one = m.id; among = m.among; is = k.is ∙ (fact_moves s h k.shape ∙ ap (λ x. a_fact (record { point = point_in v point; shape = x; source = memory_at (tables_of v.rows) goals })) (sym m.is)) })

  module _ (e : TableEntry) (p : Point) (yielded : (s : Source) → IsWorldOf s u → AreYielded s (items_in u) (shapes_in u choice) e.given v ids) where
    abbrev Entering : Source → Type 0
    Entering s = MayEnter s u p choice e

    pub entry_step : IsStep {E = E} (λ s. (id : ℕ) → Contains ids id → GivesAt s (items_in v) p (entry_in v e.place id)) p (λ s. IsOneOf (λ id i. i ≡ entry_in v e.place id) ids) r v w →
        IsStep (λ s. MayEnter s u p choice e) p (λ s. IsGivenEntry s u choice e) r u w
    entry_step b =
        subst (λ q. IsStep Entering p (λ s. IsGivenEntry s u choice e) q u w) (joined_none r)
        (step_then Entering (λ s. (id : ℕ) → Contains ids id → GivesAt s (items_in v) p (entry_in v e.place id)) p p
        (λ s i. ⊥) (λ s. IsOneOf (λ id i. i ≡ entry_in v e.place id) ids) (λ s. IsGivenEntry s u choice e)
        false u v w (step_quiet Entering p u v n same) refl gives covers r b)
      where
        gives : (s : Source) → IsWorldOf s u → Entering s → IsFired s p u v → (id : ℕ) → Contains ids id → GivesAt s (items_in v) p (entry_in v e.place id)
        gives s h g f id c = point_more s (items_in u) (items_in v) f.contained (entry_given s u p choice e (the_shape (tables_of v.rows) id) g ((yielded s h).each id c))

        covers : (s : Source) → IsWorldOf s u → Entering s → IsFired s p u v → (i : Item) → IsGivenEntry s u choice e i → ⊥ ⊎ IsOneOf (λ id i. i ≡ entry_in v e.place id) ids i
        covers s h g f i k =
            let m : HasNumber v ids k.shape = (yielded s h).all k.shape k.given in
            inr (record { one = m.id; among = m.among; is = k.is ∙ ap (an_entry e.place) (sym m.is) })

-- ---- each result, each entry, and both

module _ {E : Type 0} (u v w : WorldState) (choice : List ℕ) (there : All (λ id. id < length u.rows.graph.truths) choice) (row : TransferRow) (one : Bool) (r : Result Bool E) where
  module _ (point : ℕ) (goals : List Binding) (bound : All (IsBindingThere u.rows.graph.flow.vars (length u.rows.graph.truths)) goals) where
    abbrev Firing : Source → Type 0
    Firing s = IsFiringUnder s u (point_in u point) choice goals row

    under_now : (n : NumbersStay u v) (s : Source) → IsWorldOf s u → Firing s → IsFired s (point_in u point) u v → IsFiringUnder s v (point_in v point) choice goals row
    under_now n s h g f =
        subst (λ p. IsFiringUnder s v p choice goals row) (sym (point_stays u v n point)) (under_on u v n s h.tables.numbering f.contained choice there goals bound (point_in u point) row g)

    pub results_more : (k : ℕ) (y : Yield) (below : k < length row.results) (at : y ≡ get_or row.results k y) →
        IsStep {E = E} (λ s. IsFiringUnder s u (point_in u point) choice goals row) (point_in u point) (λ s. IsOneOf (IsGivenFact s u point choice goals) (take k row.results)) (Ok one) u v →
        IsStep (λ s. MayResult s v (point_in v point) choice goals y) (point_in v point) (λ s. IsGivenFact s v point choice goals y) r v w →
        IsStep (λ s. IsFiringUnder s u (point_in u point) choice goals row) (point_in u point) (λ s. IsOneOf (IsGivenFact s u point choice goals) (take (k + 1) row.results)) (joined one r) u w
    results_more k y below at a b =
        step_then Firing (λ s. MayResult s v (point_in v point) choice goals y) (point_in u point) (point_in v point)
        (λ s. IsOneOf (IsGivenFact s u point choice goals) (take k row.results)) (λ s. IsGivenFact s v point choice goals y) (λ s. IsOneOf (IsGivenFact s u point choice goals) (take (k + 1) row.results))
        one u v w a (point_stays u v a.stay point) gives covers r b
      where
        gives : (s : Source) → IsWorldOf s u → Firing s → IsFired s (point_in u point) u v → MayResult s v (point_in v point) choice goals y
        gives s h g f = record { row = row; under = under_now a.stay s h g f; among = at_place row.results k y below at }

        covers : (s : Source) → IsWorldOf s u → Firing s → IsFired s (point_in u point) u v → (i : Item) → IsOneOf (IsGivenFact s u point choice goals) (take (k + 1) row.results) i →
            IsOneOf (IsGivenFact s u point choice goals) (take k row.results) i ⊎ IsGivenFact s v point choice goals y i
        covers s h g f i o =
            elim (one_of_more (IsGivenFact s u point choice goals) row.results k y i below at o) [
              | inl m ↦ inl m
              | inr m ↦ inr (given_fact_on u v a.stay s h.tables.numbering f.contained choice there goals bound point y i m)
            ]

    pub row_step : IsStep {E = E} (λ s. IsFiringUnder s u (point_in u point) choice goals row) (point_in u point) (λ s. IsOneOf (IsGivenFact s u point choice goals) row.results) (Ok one) u v →
        ((p : Point) → IsStep (λ s. IsFiring s v p choice row) p (λ s. IsOneOf (IsGivenEntry s v choice) row.entries) r v w) →
        IsStep (λ s. IsFiringUnder s u (point_in u point) choice goals row) (point_in u point) (λ s i. IsOneOf (IsGivenFact s u point choice goals) row.results i ⊎ IsOneOf (IsGivenEntry s u choice) row.entries i) (joined one r) u w
    row_step a b =
        step_then Firing (λ s. IsFiring s v (point_in v point) choice row) (point_in u point) (point_in v point)
        (λ s. IsOneOf (IsGivenFact s u point choice goals) row.results) (λ s. IsOneOf (IsGivenEntry s v choice) row.entries)
        (λ s i. IsOneOf (IsGivenFact s u point choice goals) row.results i ⊎ IsOneOf (IsGivenEntry s u choice) row.entries i)
        one u v w a (point_stays u v a.stay point) (λ s h g f. (under_now a.stay s h g f).firing) covers r (b (point_in v point))
      where
        covers : (s : Source) → IsWorldOf s u → Firing s → IsFired s (point_in u point) u v → (i : Item) → IsOneOf (IsGivenFact s u point choice goals) row.results i ⊎ IsOneOf (IsGivenEntry s u choice) row.entries i →
            IsOneOf (IsGivenFact s u point choice goals) row.results i ⊎ IsOneOf (IsGivenEntry s v choice) row.entries i
        covers s h g f i (inl o) = inl o
        covers s h g f i (inr o) = inr (record { one = o.one; among = o.among; is = given_entry_on u v a.stay s h.tables.numbering f.contained choice there o.one i o.is })

  module _ (p : Point) where
    abbrev Fired : Source → Type 0
    Fired s = IsFiring s u p choice row

    pub enters_more : (k : ℕ) (e : TableEntry) (below : k < length row.entries) (at : e ≡ get_or row.entries k e) →
        IsStep {E = E} (λ s. IsFiring s u p choice row) p (λ s. IsOneOf (IsGivenEntry s u choice) (take k row.entries)) (Ok one) u v → IsStep (λ s. MayEnter s v p choice e) p (λ s. IsGivenEntry s v choice e) r v w →
        IsStep (λ s. IsFiring s u p choice row) p (λ s. IsOneOf (IsGivenEntry s u choice) (take (k + 1) row.entries)) (joined one r) u w
    enters_more k e below at a b =
        step_then Fired (λ s. MayEnter s v p choice e) p p
        (λ s. IsOneOf (IsGivenEntry s u choice) (take k row.entries)) (λ s. IsGivenEntry s v choice e) (λ s. IsOneOf (IsGivenEntry s u choice) (take (k + 1) row.entries))
        one u v w a refl gives covers r b
      where
        gives : (s : Source) → IsWorldOf s u → Fired s → IsFired s p u v → MayEnter s v p choice e
        gives s h g f = record { row = row; firing = firing_on u v a.stay s h.tables.numbering f.contained choice there p row g; among = at_place row.entries k e below at }

        covers : (s : Source) → IsWorldOf s u → Fired s → IsFired s p u v → (i : Item) → IsOneOf (IsGivenEntry s u choice) (take (k + 1) row.entries) i → IsOneOf (IsGivenEntry s u choice) (take k row.entries) i ⊎ IsGivenEntry s v choice e i
        covers s h g f i o =
            elim (one_of_more (IsGivenEntry s u choice) row.entries k e i below at o) [
              | inl m ↦ inl m
              | inr m ↦ inr (given_entry_on u v a.stay s h.tables.numbering f.contained choice there e i m)
            ]
