-- A reading fires for the shapes of the choices that are seen, and what it gives then is given by the point.
use Rattle.std.proofs.Common.{◌≡◌, ℕ, Some, List, slice_get, refl, sym, ap, subst, ◌∙◌}
use Rattle.std.specs.Option.{unwrap_or}
use Rattle.std.specs.List.{Contains}
use Rattle.graph_walks.specs.Backs.{Seen}
use Rattle.graph_walks.proofs.Lists.{got}
use Rattle.stack_code.specs.declared.code.Code.{Code}
use Rattle.stack_code.specs.declared.op.Op.{Op}
use Rattle.typegraph.specs.declared.goals.Binding.{Binding}
use Rattle.typegraph.specs.Maps.{look}
use Rattle.goal_solver.specs.Graphs as numbers
use Rattle.abstract_shapes.specs.Shapes.{Shape}
use Rattle.world_rules.specs.declared.row.TableEntry.{TableEntry}
use Rattle.world_rules.specs.declared.row.Yield.{Yield}
use Rattle.world_rules.specs.declared.transfer.SeatReading.{SeatReading}
use Rattle.world_rules.specs.Places.{Context, main, Variable, Point, at}
use Rattle.world_rules.specs.Sources.{Source}
use Rattle.world_rules.specs.Items.{a_context, a_fact, an_entry, map_of, Agree, variables}
use Rattle.world_rules.specs.Rows.{row_of}
use Rattle.world_rules.specs.Rules.{Stands, readings_at, IsSeen, Yields, Fires, GivesAt, result, enter}
use Rattle.world_rules.proofs.Extending.{some_same}
use Rattle.world_rules.proofs.Given.{seen_given}
use Rattle.world_tables.specs.Tables.{Tables, the_point, the_shape, items_of, memory_at, IsNumbering}
use Rattle.world_tables.proofs.Items.{has_known}
use Rattle.world_tables.proofs.Queries.{seen_by_numbers}
use Rattle.world_queries.specs.Choices.{AreNumbersOf, shapes_by, IsChoice, HasChoice, AreMap}
use Rattle.world_queries.specs.Queries.{StandsAt, IsReadBy, HasSeenChoice}
use Rattle.world_queries.proofs.Choosing.{choice_map, map_choice, numbers_given}

pub one_instruction : (s : Source) (c : Context) (place depth other : ℕ) (o p : Op) → Stands s c place depth o → Stands s c place other p → o ≡ p
one_instruction s c place depth other o p h k =
    let same : h.code ≡ k.code = some_same (sym h.of ∙ k.of) in
    some_same (sym h.op ∙ (ap (λ (code : Code). slice_get code.ops place) same ∙ k.op))

pub stands_point : (s : Source) (t : Tables) (id : ℕ) (c : Context) (place depth : ℕ) (o : Op) → StandsAt s t id c place depth o → the_point t id ≡ at c place depth
stands_point s t id c place depth o h = ap (λ p. unwrap_or p (at main 0 0)) h.point

module _ (s : Source) (t : Tables) (n : IsNumbering s t) where
  -- the context of a point that has a number is known
  pub known_context : (id : ℕ) (c : Context) (place depth : ℕ) → slice_get t.points id ≡ Some (at c place depth) → Contains (items_of t) (a_context c)
  known_context id c place depth h = has_known t c (n.are_points c place depth (got t.points id (at c place depth) h)).0

  module _ (id : ℕ) (p : Point) (stands : slice_get t.points id ≡ Some p) (vars : List ℕ) (xs : List Variable) (h : AreNumbersOf t vars xs) where
    -- a choice that is seen by numbers is seen by structure
    pub seen_map : (ids : List ℕ) (goals : List Binding) → IsChoice t.graph vars ids goals → Seen (numbers.world_of t.graph) id (look goals) s.budget → IsSeen s (items_of t) p (map_of xs (shapes_by t ids))
    seen_map ids goals k seen =
        let m : AreMap s t goals xs (shapes_by t ids) = choice_map s t n vars ids xs h goals k in
        subst (λ z. IsSeen s (items_of t) p z) m.map_is ((seen_by_numbers s t n id p stands goals m.there s.budget).1 seen)

    -- and what is seen by structure has such a choice
    pub seen_choice : (shapes : List Shape) → Agree xs shapes (map_of xs shapes) → IsSeen s (items_of t) p (map_of xs shapes) → HasSeenChoice s t id vars shapes
    seen_choice shapes a seen =
        let k : HasChoice t vars shapes = map_choice s t n vars xs h shapes a (seen_given s (items_of t) p (map_of xs shapes) seen) in
        let m : AreMap s t k.goals xs (shapes_by t k.ids) = choice_map s t n vars k.ids xs h k.goals k.is in
        let same : memory_at t k.goals ≡ map_of xs shapes = m.map_is ∙ ap (map_of xs) k.shapes_are in
        record {
          ids = k.ids;
          goals = k.goals;
          is = k.is;
          shapes_are = k.shapes_are;
          seen = (seen_by_numbers s t n id p stands k.goals m.there s.budget).0 (subst (λ z. IsSeen s (items_of t) p z) (sym same) seen);
        }

  module _ (id : ℕ) (c : Context) (place depth : ℕ) (o : Op) (h : StandsAt s t id c place depth o) where
    pub found : (r : SeatReading) (vars : List ℕ) → AreNumbersOf t vars (variables c r.seats) → (shapes : List Shape) → Fires s (items_of t) c place depth r shapes → HasSeenChoice s t id vars shapes
    found r vars k shapes f = seen_choice id (at c place depth) h.point vars (variables c r.seats) k shapes f.agree f.seen

    pub is_read : (r : SeatReading) (shapes : List Shape) → Fires s (items_of t) c place depth r shapes → (vars : List ℕ) × IsReadBy s t c depth o r vars
    is_read r shapes f =
        let same : f.op ≡ o = one_instruction s c place depth depth f.op o f.stands h.stands in
        let v : (vars : List ℕ) × AreNumbersOf t vars (variables c r.seats) =
        numbers_given s t n (map_of (variables c r.seats) shapes) (seen_given s (items_of t) (at c place depth) _ f.seen) (variables c r.seats) shapes f.agree in
        (v.0, record { is_reading = subst (λ q. Contains (readings_at s c depth q) r) same f.is_reading; numbers_are = v.1 })

    module _ (r : SeatReading) (vars : List ℕ) (by : IsReadBy s t c depth o r vars) (ids : List ℕ) (goals : List Binding) (k : IsChoice t.graph vars ids goals) where
      abbrev xs : List Variable
      xs = variables c r.seats

      pub as_map : AreMap s t goals xs (shapes_by t ids)
      as_map = choice_map s t n vars ids xs by.numbers_are goals k

      module _ (seen : Seen (numbers.world_of t.graph) id (look goals) s.budget) where
        pub fires : Fires s (items_of t) c place depth r (shapes_by t ids)
        fires =
            record {
              context = known_context id c place depth h.point;
              op = o;
              stands = h.stands;
              is_reading = by.is_reading;
              asked = refl;
              agree = as_map.agree;
              seen = seen_map id (at c place depth) h.point vars xs by.numbers_are ids goals k seen;
            }

        pub gives_fact : (y : Yield) (shape : ℕ) → Contains (row_of r.transfer (shapes_by t ids)).results y → Yields s (items_of t) (shapes_by t ids) y (the_shape t shape) →
            GivesAt s (items_of t) (the_point t id) (a_fact (record { point = the_point t id; shape = the_shape t shape; source = memory_at t goals }))
        gives_fact y shape e made =
            subst (λ p. GivesAt s (items_of t) p (a_fact (record { point = p; shape = the_shape t shape; source = memory_at t goals }))) (sym (stands_point s t id c place depth o h))
            (subst (λ m. GivesAt s (items_of t) (at c place depth) (a_fact (record { point = at c place depth; shape = the_shape t shape; source = m }))) (sym as_map.map_is)
            (result (shapes_by t ids) y fires e made))

        pub gives_entry : (e : TableEntry) (shape : ℕ) → Contains (row_of r.transfer (shapes_by t ids)).entries e → Yields s (items_of t) (shapes_by t ids) e.given (the_shape t shape) →
            GivesAt s (items_of t) (the_point t id) (an_entry e.place (the_shape t shape))
        gives_entry e shape d made = subst (λ p. GivesAt s (items_of t) p (an_entry e.place (the_shape t shape))) (sym (stands_point s t id c place depth o h)) (enter (shapes_by t ids) e fires d made)
