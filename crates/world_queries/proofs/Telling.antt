-- What a point gives and tells, by numbers.
use Rattle.std.proofs.Common.{◌≡◌, ◌↔◌, ℕ, true, Some, List, sym, ap, subst, ◌∙◌}
use Rattle.std.specs.List.{Contains}
use Rattle.stack_code.specs.declared.op.Op.{Op}
use Rattle.typegraph.specs.declared.goals.Binding.{Binding}
use Rattle.abstract_shapes.specs.Shapes.{Shape}
use Rattle.world_rules.specs.declared.finding.FaultText.{FaultText}
use Rattle.world_rules.specs.declared.row.TableEntry.{TableEntry}
use Rattle.world_rules.specs.declared.row.Yield.{Yield}
use Rattle.world_rules.specs.declared.transfer.SeatReading.{SeatReading}
use Rattle.world_rules.specs.Places.{Context, at}
use Rattle.world_rules.specs.Sources.{Source}
use Rattle.world_rules.specs.Items.{Item, a_fact, an_entry, map_of, variables}
use Rattle.world_rules.specs.Rows.{row_of}
use Rattle.world_rules.specs.Rules.{Yields, Fires, GivesAt, result, enter}
use Rattle.world_rules.specs.Findings.{FindsAt, UnchecksAt}
use Rattle.world_rules.specs.Texts.{fault_text}
use Rattle.world_tables.specs.Tables.{Tables, the_point, items_of, memory_at, IsNumbering}
use Rattle.world_queries.specs.Choices.{AreMap, shapes_by}
use Rattle.world_queries.specs.Queries.{StandsAt, IsReadBy, HasSeenChoice}
use Rattle.world_queries.specs.Firings.{IsSeenChoice, GivenBy, a_result, entered, HasFault, HasUnchecked}
use Rattle.world_queries.proofs.Firing.{stands_point, found, is_read, as_map, fires}

module _ (s : Source) (t : Tables) (n : IsNumbering s t) (id : ℕ) (c : Context) (place depth : ℕ) (o : Op) (h : StandsAt s t id c place depth o) where
  -- the choice by which a reading fires
  record HasFired (r : SeatReading) (shapes : List Shape) : Type 0 where
    ids : List ℕ
    goals : List Binding
    choice : IsSeenChoice s t id c depth o r ids goals
    shapes_are : shapes_by t ids ≡ shapes

  fired : (r : SeatReading) (shapes : List Shape) → Fires s (items_of t) c place depth r shapes → HasFired r shapes
  fired r shapes f =
      let v : (vars : List ℕ) × IsReadBy s t c depth o r vars = is_read s t n id c place depth o h r shapes f in
      let k : HasSeenChoice s t id v.0 shapes = found s t n id c place depth o h r v.0 v.1.numbers_are shapes f in
      record { ids = k.ids; goals = k.goals; choice = record { vars = v.0; is_read = v.1; is = k.is; seen = k.seen }; shapes_are = k.shapes_are }

  module _ {r : SeatReading} {ids : List ℕ} {goals : List Binding} (k : IsSeenChoice s t id c depth o r ids goals) where
    fires_then : Fires s (items_of t) c place depth r (shapes_by t ids)
    fires_then = fires s t n id c place depth o h r k.vars k.is_read ids goals k.is k.seen

    source_is : memory_at t goals ≡ map_of (variables c r.seats) (shapes_by t ids)
    source_is = let m : AreMap s t goals (variables c r.seats) (shapes_by t ids) = as_map s t n id c place depth o h r k.vars k.is_read ids goals k.is in m.map_is

  -- ---- what is given

  result_to : (r : SeatReading) (shapes : List Shape) → HasFired r shapes → (y : Yield) (shape : Shape) → Contains (row_of r.transfer shapes).results y → Yields s (items_of t) shapes y shape →
      GivenBy s t id c depth o (a_fact (record { point = at c place depth; shape = shape; source = map_of (variables c r.seats) shapes }))
  result_to r shapes f y shape e made =
      subst (λ p. GivenBy s t id c depth o (a_fact (record { point = p; shape = shape; source = map_of (variables c r.seats) shapes }))) (stands_point s t id c place depth o h)
      (subst (λ m. GivenBy s t id c depth o (a_fact (record { point = the_point t id; shape = shape; source = m }))) (source_is f.choice ∙ ap (map_of (variables c r.seats)) f.shapes_are)
      (a_result y f.choice (subst (λ ys. Contains (row_of r.transfer ys).results y) (sym f.shapes_are) e) (subst (λ ys. Yields s (items_of t) ys y shape) (sym f.shapes_are) made)))

  entry_to : (r : SeatReading) (shapes : List Shape) → HasFired r shapes → (e : TableEntry) (shape : Shape) → Contains (row_of r.transfer shapes).entries e → Yields s (items_of t) shapes e.given shape →
      GivenBy s t id c depth o (an_entry e.place shape)
  entry_to r shapes f e shape d made =
      entered e f.choice (subst (λ ys. Contains (row_of r.transfer ys).entries e) (sym f.shapes_are) d) (subst (λ ys. Yields s (items_of t) ys e.given shape) (sym f.shapes_are) made)

  given_to : (i : Item) → GivesAt s (items_of t) (at c place depth) i → GivenBy s t id c depth o i
  given_to i (result {r = r} {t = shape} shapes y f e made) = result_to r shapes (fired r shapes f) y shape e made
  given_to i (enter {r = r} {t = shape} shapes e f d made) = entry_to r shapes (fired r shapes f) e shape d made

  given_from : (i : Item) → GivenBy s t id c depth o i → GivesAt s (items_of t) (at c place depth) i
  given_from i (a_result {r = r} {ids = ids} {goals = goals} {shape = shape} y k e made) =
      subst (λ p. GivesAt s (items_of t) (at c place depth) (a_fact (record { point = p; shape = shape; source = memory_at t goals }))) (sym (stands_point s t id c place depth o h))
      (subst (λ m. GivesAt s (items_of t) (at c place depth) (a_fact (record { point = at c place depth; shape = shape; source = m }))) (sym (source_is k))
      (result (shapes_by t ids) y (fires_then k) e made))
  given_from i (entered {ids = ids} e k d made) = enter (shapes_by t ids) e (fires_then k) d made

  pub given_same : (i : Item) → GivesAt s (items_of t) (the_point t id) i ↔ GivenBy s t id c depth o i
  given_same i = (
    λ g. given_to i (subst (λ p. GivesAt s (items_of t) p i) (stands_point s t id c place depth o h) g),
    λ g. subst (λ p. GivesAt s (items_of t) p i) (sym (stands_point s t id c place depth o h)) (given_from i g),
  )

  -- ---- what is told

  pub faults_same : (f : FaultText) → FindsAt s (items_of t) c place depth f ↔ HasFault s t id c depth o f
  faults_same f = (to, from)
    where
      to : FindsAt s (items_of t) c place depth f → HasFault s t id c depth o f
      to g =
          let k : HasFired g.reading g.shapes = fired g.reading g.shapes g.fires in
          record {
            reading = g.reading;
            ids = k.ids;
            goals = k.goals;
            choice = k.choice;
            fault = g.fault;
            has_fault = subst (λ ys. (row_of g.reading.transfer ys).fault ≡ Some g.fault) (sym k.shapes_are) g.has_fault;
            told = subst (λ ys. f ≡ fault_text s.program g.fault ys) (sym k.shapes_are) g.told;
          }

      from : HasFault s t id c depth o f → FindsAt s (items_of t) c place depth f
      from k = record { reading = k.reading; shapes = shapes_by t k.ids; fires = fires_then k.choice; fault = k.fault; has_fault = k.has_fault; told = k.told }

  pub unchecked_same : UnchecksAt s (items_of t) c place depth ↔ HasUnchecked s t id c depth o
  unchecked_same = (to, from)
    where
      to : UnchecksAt s (items_of t) c place depth → HasUnchecked s t id c depth o
      to g =
          let k : HasFired g.reading g.shapes = fired g.reading g.shapes g.fires in
          record {
            reading = g.reading;
            ids = k.ids;
            goals = k.goals;
            choice = k.choice;
            unchecked = subst (λ ys. (row_of g.reading.transfer ys).unchecked ≡ true) (sym k.shapes_are) g.unchecked;
          }

      from : HasUnchecked s t id c depth o → UnchecksAt s (items_of t) c place depth
      from k = record { reading = k.reading; shapes = shapes_by t k.ids; fires = fires_then k.choice; unchecked = k.unchecked }
