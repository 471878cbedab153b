-- A query is heavy exactly where a choice is heavy by numbers.
use Rattle.std.proofs.Common.{◌≡◌, ◌↔◌, ℕ, Some, List, [], ◌∷◌, slice_get, ◌⊎◌, inl, inr, refl, sym, ap, subst, ◌∙◌}
use Rattle.std.specs.List.{Contains}
use Rattle.graph_walks.specs.Worlds.{Memory, AllGiven}
use Rattle.graph_walks.specs.Backs.{Heavy}
use Rattle.graph_walks.proofs.Lists as lists
use Rattle.graph_walks.proofs.Lists.{stands}
use Rattle.stack_code.specs.declared.op.Op.{Op}
use Rattle.stack_code.specs.declared.op.Op.TheVariants as op
use Rattle.typegraph.specs.declared.goals.Binding.{Binding}
use Rattle.abstract_shapes.specs.Shapes.{Shape}
use Rattle.world_rules.specs.declared.transfer.SeatReading.{SeatReading}
use Rattle.world_rules.specs.Places.{Context, Variable, global, slot, Point, at, below_top}
use Rattle.world_rules.specs.Sources.{Source}
use Rattle.world_rules.specs.Items.{a_context, map_of, Agree, variables, world_of}
use Rattle.world_rules.specs.Rules.{Stands, readings_at}
use Rattle.world_rules.specs.Findings.{IsQuery, OutputQuery, at_end, at_return, IsHeavyAt}
use Rattle.world_rules.proofs.Same.{variable_same}
use Rattle.world_tables.specs.Tables.{Tables, items_of, memory_at, IsNumbering}
use Rattle.world_tables.proofs.Given.{has_numbers}
use Rattle.world_tables.proofs.Queries.{heavy_by_numbers}
use Rattle.world_queries.specs.Choices.{AreNumbersOf, shapes_by, IsChoice, HasChoice, AreMap}
use Rattle.world_queries.specs.Queries as queries
use Rattle.world_queries.specs.Queries.{StandsAt, IsReadBy, HasHeavyChoice, HasHeavyQuery, HasHeavyReading, IsOutput, HasHeavyOutput, HasHeavyShape}
use Rattle.world_queries.proofs.Choosing.{choice_map, map_choice, numbers_given}
use Rattle.world_queries.proofs.Firing.{one_instruction, known_context}

-- ---- one variable

one_gives : (x : Variable) (y : Shape) → map_of (x ∷ []) (y ∷ []) x ≡ Some y
one_gives x y = let same = variable_same x in rw same refl

pub one_agrees : (x : Variable) (y : Shape) → Agree (x ∷ []) (y ∷ []) (map_of (x ∷ []) (y ∷ []))
one_agrees x y = (one_gives x y, tt)

pub one_number : (t : Tables) (v : ℕ) (x : Variable) → slice_get t.variables v ≡ Some x → AreNumbersOf t (v ∷ []) (x ∷ [])
one_number t v x h = ap (λ o. o ∷ []) h

-- the shapes of a choice for one variable are one shape
pub data IsOne : List Shape → Type 0 where
  one : (y : Shape) → IsOne (y ∷ [])

pub is_one : (x : Variable) (shapes : List Shape) (m : Memory Variable Shape) → Agree (x ∷ []) shapes m → IsOne shapes
is_one x [] m a = absurd a
is_one x (y ∷ []) m a = one y
is_one x (y ∷ z ∷ zs) m a = absurd a.1

-- ---- queries of the output by their variable

record OutputOf (s : Source) (t : Tables) (c : Context) (place depth : ℕ) (m : Memory Variable Shape) : Type 0 where
  op : Op
  stands : Stands s c place depth op
  variable : Variable
  shape : Shape
  is : IsOutput depth c op variable
  goals_are : m ≡ map_of (variable ∷ []) (shape ∷ [])
  given : AllGiven (world_of s (items_of t)) (map_of (variable ∷ []) (shape ∷ []))

output_of : (s : Source) (t : Tables) (c : Context) (place depth : ℕ) (m : Memory Variable Shape) → OutputQuery s (items_of t) c place depth m → OutputOf s t c place depth m
output_of s t c place depth m (at_end k y known st g) = record { op = op.End; stands = st; variable = global k; shape = y; is = queries.at_end k; goals_are = refl; given = g }
output_of s t c place depth m (at_return y known st g) = record { op = op.Return; stands = st; variable = slot c (below_top depth 0); shape = y; is = queries.at_return c; goals_are = refl; given = g }

output_query : (s : Source) (t : Tables) (c : Context) (place depth : ℕ) (o : Op) (x : Variable) (y : Shape) → IsOutput depth c o x → Contains (items_of t) (a_context c) → Stands s c place depth o →
    AllGiven (world_of s (items_of t)) (map_of (x ∷ []) (y ∷ [])) → OutputQuery s (items_of t) c place depth (map_of (x ∷ []) (y ∷ []))
output_query s t c place depth o x y (queries.at_end k) known st g = at_end k y known st g
output_query s t c place depth o x y (queries.at_return d) known st g = at_return y known st g

module _ (s : Source) (t : Tables) (n : IsNumbering s t) where
  -- what facts give a shape has a number
  pub given_number : (x : Variable) (y : Shape) → AllGiven (world_of s (items_of t)) (map_of (x ∷ []) (y ∷ [])) → lists.Stands t.variables x
  given_number x y g = stands t.variables x (has_numbers s t n x y (g.at x y (one_gives x y))).0

  module _ (id : ℕ) (p : Point) (here : slice_get t.points id ≡ Some p) (vars : List ℕ) (xs : List Variable) (h : AreNumbersOf t vars xs) where
    -- shapes that a heavy query is for
    record IsHeavyFor (shapes : List Shape) : Type 0 where
      agree : Agree xs shapes (map_of xs shapes)
      given : AllGiven (world_of s (items_of t)) (map_of xs shapes)
      heavy : Heavy (world_of s (items_of t)) p (map_of xs shapes) s.budget

    choice_heavy : (k : HasHeavyChoice s t id vars) → IsHeavyFor (shapes_by t k.ids)
    choice_heavy k =
        let m : AreMap s t k.goals xs (shapes_by t k.ids) = choice_map s t n vars k.ids xs h k.goals k.is in
        record {
          agree = m.agree;
          given = m.items_give;
          heavy = subst (λ z. Heavy (world_of s (items_of t)) p z s.budget) m.map_is ((heavy_by_numbers s t n id p here k.goals m.there s.budget).1 k.heavy);
        }

    heavy_choice : (shapes : List Shape) → IsHeavyFor shapes → HasHeavyChoice s t id vars
    heavy_choice shapes w =
        let k : HasChoice t vars shapes = map_choice s t n vars xs h shapes w.agree w.given in
        let m : AreMap s t k.goals xs (shapes_by t k.ids) = choice_map s t n vars k.ids xs h k.goals k.is in
        let same : memory_at t k.goals ≡ map_of xs shapes = m.map_is ∙ ap (map_of xs) k.shapes_are in
        record {
          ids = k.ids;
          goals = k.goals;
          is = k.is;
          heavy = (heavy_by_numbers s t n id p here k.goals m.there s.budget).0 (subst (λ z. Heavy (world_of s (items_of t)) p z s.budget) (sym same) w.heavy);
        }

  module _ (id : ℕ) (c : Context) (place depth : ℕ) (o : Op) (h : StandsAt s t id c place depth o) where
    -- ---- readings

    query_of : (r : SeatReading) → Contains (readings_at s c depth o) r → (shapes : List Shape) →
        Agree (variables c r.seats) shapes (map_of (variables c r.seats) shapes) → AllGiven (world_of s (items_of t)) (map_of (variables c r.seats) shapes) →
        IsQuery s (items_of t) c place depth (map_of (variables c r.seats) shapes)
    query_of r is shapes a g =
        record {
          context = known_context s t n id c place depth h.point;
          op = o;
          stands = h.stands;
          reading = r;
          is_reading = is;
          shapes = shapes;
          asked = refl;
          goals_are = refl;
          agree = a;
          given = g;
        }

    pub choice_query : (r : SeatReading) (vars : List ℕ) → IsReadBy s t c depth o r vars → (ids : List ℕ) (goals : List Binding) → IsChoice t.graph vars ids goals →
        IsQuery s (items_of t) c place depth (memory_at t goals)
    choice_query r vars by ids goals k =
        let m : AreMap s t goals (variables c r.seats) (shapes_by t ids) = choice_map s t n vars ids (variables c r.seats) by.numbers_are goals k in
        subst (IsQuery s (items_of t) c place depth) (sym m.map_is) (query_of r by.is_reading (shapes_by t ids) m.agree m.items_give)

    reading_heavy : HasHeavyReading s t id c depth o → HasHeavyQuery s (items_of t) c place depth
    reading_heavy w =
        let k : IsHeavyFor id (at c place depth) h.point w.vars (variables c w.reading.seats) w.is.numbers_are (shapes_by t w.choice.ids) =
        choice_heavy id (at c place depth) h.point w.vars (variables c w.reading.seats) w.is.numbers_are w.choice in
        record { goals = map_of (variables c w.reading.seats) (shapes_by t w.choice.ids); query = query_of w.reading w.is.is_reading (shapes_by t w.choice.ids) k.agree k.given; heavy = k.heavy }

    heavy_reading : HasHeavyQuery s (items_of t) c place depth → HasHeavyReading s t id c depth o
    heavy_reading w = by w.query.reading w.query.shapes w.query.is_reading
        (subst (λ m. Agree (variables c w.query.reading.seats) w.query.shapes m) w.query.goals_are w.query.agree)
        (subst (AllGiven (world_of s (items_of t))) w.query.goals_are w.query.given)
        (subst (λ m. Heavy (world_of s (items_of t)) (at c place depth) m s.budget) w.query.goals_are w.heavy)
      where
        same : w.query.op ≡ o
        same = one_instruction s c place depth depth w.query.op o w.query.stands h.stands

        by : (r : SeatReading) (shapes : List Shape) → Contains (readings_at s c depth w.query.op) r → Agree (variables c r.seats) shapes (map_of (variables c r.seats) shapes) →
            AllGiven (world_of s (items_of t)) (map_of (variables c r.seats) shapes) → Heavy (world_of s (items_of t)) (at c place depth) (map_of (variables c r.seats) shapes) s.budget →
            HasHeavyReading s t id c depth o
        by r shapes is a g heavy =
            let v : (vars : List ℕ) × AreNumbersOf t vars (variables c r.seats) = numbers_given s t n (map_of (variables c r.seats) shapes) g (variables c r.seats) shapes a in
            record {
              reading = r;
              vars = v.0;
              is = record { is_reading = subst (λ q. Contains (readings_at s c depth q) r) same is; numbers_are = v.1 };
              choice = heavy_choice id (at c place depth) h.point v.0 (variables c r.seats) v.1 shapes (record { agree = a; given = g; heavy = heavy });
            }

    pub readings_heavy : HasHeavyQuery s (items_of t) c place depth ↔ HasHeavyReading s t id c depth o
    readings_heavy = (heavy_reading, reading_heavy)

    -- ---- the output

    query_for : (x : Variable) (y : Shape) → IsOutput depth c o x → AllGiven (world_of s (items_of t)) (map_of (x ∷ []) (y ∷ [])) → OutputQuery s (items_of t) c place depth (map_of (x ∷ []) (y ∷ []))
    query_for x y is g = output_query s t c place depth o x y is (known_context s t n id c place depth h.point) h.stands g

    shape_heavy : HasHeavyShape s t id c depth o → HasHeavyOutput s (items_of t) c place depth
    shape_heavy w = by (shapes_by t w.choice.ids) (is_one w.variable (shapes_by t w.choice.ids) _ k.agree) k
      where
        k : IsHeavyFor id (at c place depth) h.point (w.var ∷ []) (w.variable ∷ []) (one_number t w.var w.variable w.number_is) (shapes_by t w.choice.ids)
        k = choice_heavy id (at c place depth) h.point (w.var ∷ []) (w.variable ∷ []) (one_number t w.var w.variable w.number_is) w.choice

        by : (shapes : List Shape) → IsOne shapes → IsHeavyFor id (at c place depth) h.point (w.var ∷ []) (w.variable ∷ []) (one_number t w.var w.variable w.number_is) shapes → HasHeavyOutput s (items_of t) c place depth
        by shapes (one y) f = record { goals = map_of (w.variable ∷ []) (y ∷ []); query = query_for w.variable y w.is_output f.given; heavy = f.heavy }

    heavy_shape : HasHeavyOutput s (items_of t) c place depth → HasHeavyShape s t id c depth o
    heavy_shape w =
        let q : OutputOf s t c place depth w.goals = output_of s t c place depth w.goals w.query in
        let same : q.op ≡ o = one_instruction s c place depth depth q.op o q.stands h.stands in
        let v : lists.Stands t.variables q.variable = given_number q.variable q.shape q.given in
        record {
          variable = q.variable;
          is_output = subst (λ z. IsOutput depth c z q.variable) same q.is;
          var = v.place;
          number_is = v.at;
          choice = heavy_choice id (at c place depth) h.point (v.place ∷ []) (q.variable ∷ []) (one_number t v.place q.variable v.at) (q.shape ∷ []) (record {
            agree = one_agrees q.variable q.shape;
            given = q.given;
            heavy = subst (λ m. Heavy (world_of s (items_of t)) (at c place depth) m s.budget) q.goals_are w.heavy;
          });
        }

    pub outputs_heavy : HasHeavyOutput s (items_of t) c place depth ↔ HasHeavyShape s t id c depth o
    outputs_heavy = (heavy_shape, shape_heavy)

    -- ---- the point

    by_reading : HasHeavyReading s t id c depth o → IsHeavyAt s (items_of t) c place depth
    by_reading r = let q : HasHeavyQuery s (items_of t) c place depth = reading_heavy r in record { goals = q.goals; query = inl q.query; heavy = q.heavy }

    by_output : HasHeavyShape s t id c depth o → IsHeavyAt s (items_of t) c place depth
    by_output r = let q : HasHeavyOutput s (items_of t) c place depth = shape_heavy r in record { goals = q.goals; query = inr q.query; heavy = q.heavy }

    pub point_heavy : IsHeavyAt s (items_of t) c place depth ↔ (HasHeavyReading s t id c depth o ⊎ HasHeavyShape s t id c depth o)
    point_heavy = (
      λ w. elim w.query [
        | inl q ↦ inl (heavy_reading (record { goals = w.goals; query = q; heavy = w.heavy }))
        | inr q ↦ inr (heavy_shape (record { goals = w.goals; query = q; heavy = w.heavy }))
      ],
      λ e. elim e [ inl r ↦ by_reading r | inr r ↦ by_output r ],
    )
