-- What fires goes on to fire, and what it gives is given still.
use Rattle.std.proofs.Common.{◌≡◌, ℕ, ◌<◌, List, length, ◌⊎◌, inl, inr, refl, sym, ap, subst, ◌∙◌}
use Rattle.std.specs.List.{All, Contains}
use Rattle.typegraph.specs.declared.goals.Binding.{Binding}
use Rattle.typegraph.specs.Validity.{IsBindingThere}
use Rattle.abstract_shapes.specs.declared.place.Place.{Place}
use Rattle.abstract_shapes.specs.Shapes.{Shape}
use Rattle.world_rules.specs.declared.row.TableEntry.{TableEntry}
use Rattle.world_rules.specs.declared.row.TransferRow.{TransferRow}
use Rattle.world_rules.specs.declared.row.Yield.{Yield}
use Rattle.world_rules.specs.declared.row.Yield.TheVariants.{Each}
use Rattle.world_rules.specs.Places.{Point, at}
use Rattle.world_rules.specs.Sources.{Source}
use Rattle.world_rules.specs.Items.{Item, a_fact, an_entry, map_of, variables}
use Rattle.world_rules.specs.Rows.{row_of}
use Rattle.world_rules.specs.Rules.{Yields, it, one, Fires, GivesAt, result, enter, IsContained}
use Rattle.world_rules.proofs.Growing.{fires_still}
use Rattle.world_tables.specs.Tables.{the_shape, memory_at, IsNumbering}
use Rattle.world_tables.specs.Rows.{tables_of}
use Rattle.abstract_vm.specs.Worlds.{WorldState, items_in, point_in, IsWorldOf}
use Rattle.abstract_vm.specs.Steps.{NumbersStay, IsFiring, IsFiringUnder, MayResult, MayEnter, IsGivenFact, IsGivenEntry, shapes_in, fact_in, entry_in}
use Rattle.abstract_vm.proofs.Stay.{point_stays, choice_stays, memory_stays}

pub yield_still : (s : Source) (items more : List Item) → IsContained items more → {shapes : List Shape} {y : Yield} {x : Shape} → Yields s items shapes y x → Yields s more shapes y x
yield_still s items more within (it h) = it h
yield_still s items more within (one k) = one (within.at _ k)

module _ (old new : WorldState) (n : NumbersStay old new) (s : Source) (numbered : IsNumbering s (tables_of old.rows)) (within : IsContained (items_in old) (items_in new))
    (choice : List ℕ) (there : All (λ id. id < length old.rows.graph.truths) choice) where
  same_choice : shapes_in old choice ≡ shapes_in new choice
  same_choice = sym (choice_stays old new n s numbered choice there)

  pub firing_on : (p : Point) (row : TransferRow) → IsFiring s old p choice row → IsFiring s new p choice row
  firing_on p row f =
      record {
        context = f.context;
        place = f.place;
        depth = f.depth;
        reading = f.reading;
        is_point = f.is_point;
        fires = subst (λ xs. Fires s (items_in new) f.context f.place f.depth f.reading xs) same_choice (fires_still s (items_in old) (items_in new) within f.fires);
        row_is = f.row_is ∙ ap (row_of f.reading.transfer) same_choice;
      }

  pub given_entry_on : (e : TableEntry) (i : Item) → IsGivenEntry s old choice e i → IsGivenEntry s new choice e i
  given_entry_on e i g =
      record { shape = g.shape; given = subst (λ xs. Yields s (items_in new) xs e.given g.shape) same_choice (yield_still s (items_in old) (items_in new) within g.given); is = g.is }

  pub may_enter_on : (p : Point) (e : TableEntry) → MayEnter s old p choice e → MayEnter s new p choice e
  may_enter_on p e m = record { row = m.row; firing = firing_on p m.row m.firing; among = m.among }

  module _ (goals : List Binding) (bound : All (IsBindingThere old.rows.graph.flow.vars (length old.rows.graph.truths)) goals) where
    same_memory : memory_at (tables_of new.rows) goals ≡ memory_at (tables_of old.rows) goals
    same_memory = memory_stays old new n s numbered goals bound

    pub under_on : (p : Point) (row : TransferRow) → IsFiringUnder s old p choice goals row → IsFiringUnder s new p choice goals row
    unfolding firing_on
    under_on p row u =
        record {
          firing = firing_on p row u.firing;
          goals_are = same_memory ∙ (u.goals_are ∙ ap (map_of (variables u.firing.context u.firing.reading.seats)) same_choice);
        }

    pub given_fact_on : (point : ℕ) (y : Yield) (i : Item) → IsGivenFact s old point choice goals y i → IsGivenFact s new point choice goals y i
    given_fact_on point y i g =
        record {
          shape = g.shape;
          given = subst (λ xs. Yields s (items_in new) xs y g.shape) same_choice (yield_still s (items_in old) (items_in new) within g.given);
          is = g.is ∙ (λ j. a_fact (record { point = sym (point_stays old new n point) j; shape = g.shape; source = sym same_memory j }));
        }

-- ---- what a row gives is given by the rules

module _ (s : Source) (w : WorldState) (p : Point) (choice : List ℕ) where
  pub fact_given : (goals : List Binding) (y : Yield) (x : Shape) → MayResult s w p choice goals y → Yields s (items_in w) (shapes_in w choice) y x →
      GivesAt s (items_in w) p (a_fact (record { point = p; shape = x; source = memory_at (tables_of w.rows) goals }))
  fact_given goals y x m v =
      let f : IsFiring s w p choice m.row = m.under.firing in
      let g : GivesAt s (items_in w) (at f.context f.place f.depth) (a_fact (record { point = at f.context f.place f.depth; shape = x; source = map_of (variables f.context f.reading.seats) (shapes_in w choice) })) =
      result (shapes_in w choice) y f.fires (subst (λ (r : TransferRow). Contains r.results y) f.row_is m.among) v in
      let h : GivesAt s (items_in w) p (a_fact (record { point = p; shape = x; source = map_of (variables f.context f.reading.seats) (shapes_in w choice) })) =
      subst (λ q. GivesAt s (items_in w) q (a_fact (record { point = q; shape = x; source = map_of (variables f.context f.reading.seats) (shapes_in w choice) }))) (sym f.is_point) g in
      subst (λ m. GivesAt s (items_in w) p (a_fact (record { point = p; shape = x; source = m }))) (sym m.under.goals_are) h

  pub entry_given : (e : TableEntry) (x : Shape) → MayEnter s w p choice e → Yields s (items_in w) (shapes_in w choice) e.given x → GivesAt s (items_in w) p (an_entry e.place x)
  entry_given e x m v =
      let f : IsFiring s w p choice m.row = m.firing in
      subst (λ q. GivesAt s (items_in w) q (an_entry e.place x)) (sym f.is_point) (enter (shapes_in w choice) e f.fires (subst (λ (r : TransferRow). Contains r.entries e) f.row_is m.among) v)
