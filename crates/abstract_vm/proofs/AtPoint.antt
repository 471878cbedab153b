-- What the readings of a point give is what its rules give.
use Rattle.std.proofs.Common.{◌≡◌, ℕ, ◌+◌, ◌<◌, Bool, true, false, Result, Ok, Err, Option, Some, None, List, [], ◌∷◌, map, length, take, get_or, slice_get, option_map, ◌⊎◌, inl, inr, refl, sym, ap, subst, ◌∙◌, arith}
use Rattle.std.specs.Option.{unwrap_or, option_and_then}
use Rattle.std.specs.List.{All, Contains}
use Rattle.graph_walks.proofs.Lists.{empty, got}
use Rattle.flow_graph.specs.Flows as flows
use Rattle.stack_code.specs.declared.op.Op.{Op}
use Rattle.stack_code.specs.declared.op.Op.TheVariants as op
use Rattle.program_tables.specs.Programs.{Compiled}
use Rattle.abstract_shapes.specs.Shapes.{Shape}
use Rattle.world_rules.specs.declared.transfer.SeatReading.{SeatReading}
use Rattle.world_rules.specs.Places.{Context, Variable, Point, main, at, code_of, op_at, written, target_of}
use Rattle.world_rules.specs.Sources.{Source}
use Rattle.world_rules.specs.Items.{Item, variables}
use Rattle.world_rules.specs.Rules.{HasPlace, Stands, readings_at, Fires, GivesAt, result, enter}
use Rattle.world_tables.specs.declared.spot.PointSpot.{PointSpot}
use Rattle.world_tables.specs.declared.spot.VariableSpot.{VariableSpot}
use Rattle.world_tables.specs.Tables.{the_variable, the_point, IsNumbering}
use Rattle.world_tables.specs.Rows.{contexts_of, the_context, point_of, variable_of, tables_of, IsSpotThere, IsKept}
use Rattle.world_queries.specs.Queries.{IsReadBy}
use Rattle.world_queries.proofs.Firing.{is_read}
use Rattle.context_code.specs.Readings.{readings_by, readings_of}
use Rattle.context_code.specs.Seats.{owned_spots, IsOneMissing}
use Rattle.context_code.specs.Sources.{IsSourceOf}
use Rattle.context_code.proofs.SeatVariables.{all_stand}
use Rattle.context_code.proofs.SourceReadings.{readings_are}
use Rattle.abstract_vm.specs.Worlds.{WorldState, items_in, point_in, IsWorldOf}
use Rattle.abstract_vm.specs.Firing.{IsFired}
use Rattle.abstract_vm.specs.Readings.{IsSourceIn, IsReadAt, IsReadingOf}
use Rattle.abstract_vm.specs.Steps.{IsStep, IsOneOf, IsResult, IsEntry, GivesFor, GivesBy}
use Rattle.abstract_vm.proofs.Lifting.{FiresAt, fires_of}
use Rattle.abstract_vm.proofs.Missing.{one_number, numbers_as, none_numbered}
use Rattle.abstract_vm.proofs.ReadOn.{gives_by_on, read_at_on}
use Rattle.abstract_vm.proofs.Standing.{map_get}
use Rattle.abstract_vm.proofs.Stay.{point_stays}
use Rattle.abstract_vm.proofs.Steps.{joined, step_then, one_of_more, at_place}

-- ---- an instruction that reads writes

record IsWritten (o : Option Variable) : Type 0 where
  variable : Variable
  is : o ≡ Some variable

writes : (s : Source) (c : Context) (depth : ℕ) (o : Op) (r : SeatReading) → Contains (readings_at s c depth o) r → IsWritten (written s.program c depth o)
writes s c depth (op.Const k) r h = record { variable = _; is = refl }
writes s c depth (op.LoadLocal i) r h = record { variable = _; is = refl }
writes s c depth (op.StoreLocal i) r h = record { variable = _; is = refl }
writes s c depth (op.ForgetLocal i) r h = record { variable = _; is = refl }
writes s c depth (op.LoadName n) r h = record { variable = _; is = refl }
writes s c depth (op.StoreName n) r h = record { variable = _; is = refl }
writes s c depth (op.ForgetName n) r h = record { variable = _; is = refl }
writes s c depth (op.Pick n) r h = record { variable = _; is = refl }
writes s c depth (op.Unary o) r h = record { variable = _; is = refl }
writes s c depth op.Not r h = record { variable = _; is = refl }
writes s c depth (op.Binary o site) r h = record { variable = _; is = refl }
writes s c depth (op.InPlace o site) r h = record { variable = _; is = refl }
writes s c depth (op.Compare o) r h = record { variable = _; is = refl }
writes s c depth _ r h = empty r h

-- ---- the variables of a reading

module _ (s : Source) (u : WorldState) (point : ℕ) (spot : PointSpot) (r : SeatReading) (h : IsReadAt s u point spot r) where
  abbrev context : Context
  context = the_context (contexts_of u.rows) spot.context

  pub stands_there : slice_get (tables_of u.rows).points point ≡ Some (at context spot.place spot.depth)
  stands_there = map_get (point_of (contexts_of u.rows)) u.rows.points point spot h.is_spot

  -- its variables have these numbers
  pub reading_of : (vars : List ℕ) → map (slice_get u.rows.variables) vars ≡ map Some (owned_spots spot.context r.seats) → IsReadingOf s u point r vars
  reading_of vars e =
      record {
        context = context;
        place = spot.place;
        depth = spot.depth;
        op = h.op;
        stands = record { point = stands_there; stands = h.stands };
        read = record {
          is_reading = h.is_reading;
          numbers_are = numbers_as (variable_of (contexts_of u.rows)) u.rows.variables vars (owned_spots spot.context r.seats) e ∙ ap (map Some) (all_stand (contexts_of u.rows) spot.context r.seats);
        };
        budget = h.budget;
      }

  -- where one has no number nothing is given
  pub missing_gives : IsKept u.rows → IsWorldOf s u → IsOneMissing u.rows.variables (owned_spots spot.context r.seats) → (i : Item) → GivesBy s (items_in u) r (point_in u point) i → ⊥
  missing_gives kept w missing i g =
      let count : length (contexts_of u.rows) ≡ length u.rows.graph.flow.contexts = w.tables.numbering.context_count in
      let place : point_in u point ≡ at context spot.place spot.depth = ap (λ o. unwrap_or o (at main 0 0)) stands_there in
      let f : Fires s (items_in u) context spot.place spot.depth r g.shapes = subst (FiresAt s (items_in u) r g.shapes) place (fires_of s (items_in u) r g.shapes (point_in u point) i g.gives) in
      let v : (vars : List ℕ) × IsReadBy s (tables_of u.rows) context spot.depth h.op r vars =
      is_read s (tables_of u.rows) w.tables.numbering point context spot.place spot.depth h.op (record { point = stands_there; stands = h.stands }) r g.shapes f in
      none_numbered (contexts_of u.rows) (one_number (contexts_of u.rows) w.tables.contexts_once) u.rows.variables
      (λ x c. subst (IsSpotThere x) (sym count) (kept.variables_there x c))
      spot.context (subst (λ n. spot.context < n) (sym count) (kept.points_there spot (got u.rows.points point spot h.is_spot))) r.seats missing v.0
      (v.1.numbers_are ∙ ap (map Some) (sym (all_stand (contexts_of u.rows) spot.context r.seats)))

-- ---- one reading more

module _ {E : Type 0} (u v w : WorldState) (point : ℕ) (spot : PointSpot) (readings : List SeatReading) (k : ℕ) (x : SeatReading) (below : k < length readings) (is : x ≡ get_or readings k x) (one : Bool) (res : Result Bool E) where
  abbrev Reading : Source → Type 0
  Reading s = (r : SeatReading) → Contains readings r → IsReadAt s u point spot r

  pub readings_more : IsStep {E = E} (λ s. (r : SeatReading) → Contains readings r → IsReadAt s u point spot r) (point_in u point) (λ s. IsOneOf (λ r. GivesBy s (items_in u) r (point_in u point)) (take k readings)) (Ok one) u v →
      IsStep (λ s. IsReadAt s v point spot x) (point_in v point) (λ s. GivesBy s (items_in v) x (point_in v point)) res v w →
      IsStep (λ s. (r : SeatReading) → Contains readings r → IsReadAt s u point spot r) (point_in u point) (λ s. IsOneOf (λ r. GivesBy s (items_in u) r (point_in u point)) (take (k + 1) readings)) (joined one res) u w
  readings_more a b =
      step_then Reading (λ s. IsReadAt s v point spot x) (point_in u point) (point_in v point)
      (λ s. IsOneOf (λ r. GivesBy s (items_in u) r (point_in u point)) (take k readings)) (λ s. GivesBy s (items_in v) x (point_in v point)) (λ s. IsOneOf (λ r. GivesBy s (items_in u) r (point_in u point)) (take (k + 1) readings))
      one u v w a (point_stays u v a.stay point) (λ s h g f. read_at_on u v a.stay s point spot x (g x (at_place readings k x below is))) covers res b
    where
      covers : (s : Source) → IsWorldOf s u → Reading s → IsFired s (point_in u point) u v → (i : Item) → IsOneOf (λ r. GivesBy s (items_in u) r (point_in u point)) (take (k + 1) readings) i →
          IsOneOf (λ r. GivesBy s (items_in u) r (point_in u point)) (take k readings) i ⊎ GivesBy s (items_in v) x (point_in v point) i
      covers s h g f i o =
          elim (one_of_more (λ r. GivesBy s (items_in u) r (point_in u point)) readings k x i below is o) [
            | inl m ↦ inl m
            | inr m ↦ inr (subst (λ p. GivesBy s (items_in v) x p i) (sym (point_stays u v a.stay point)) (gives_by_on s (items_in u) (items_in v) f.contained x (point_in u point) i m))
          ]

-- ---- all readings

-- what the rules of a point give, by the reading
record IsByReading (s : Source) (items : List Item) (p : Point) (i : Item) : Type 0 where
  reading : SeatReading
  gives : GivesBy s items reading p i

by_reading : (s : Source) (items : List Item) {p : Point} {i : Item} → GivesAt s items p i → IsByReading s items p i
by_reading s items (result {c} {place} {depth} {r} {t} shapes y f k v) =
    record {
      reading = r;
      gives = record { shapes = shapes; gives = inl (record { context = c; place = place; depth = depth; is_point = refl; fires = f; y = y; is_result = k; shape = t; given = v; is = refl }) };
    }
by_reading s items (enter {c} {place} {depth} {r} {t} shapes e f k v) =
    record {
      reading = r;
      gives = record { shapes = shapes; gives = inr (record { context = c; place = place; depth = depth; is_point = refl; fires = f; e = e; is_entry = k; shape = t; given = v; is = refl }) };
    }

-- an instruction of a reading
record HasOp (o : Option Op) : Type 0 where
  op : Op
  is : o ≡ Some op

has_op : (compiled : Compiled) (c : Context) (depth : ℕ) (o : Option Op) (r : SeatReading) → Contains (readings_by compiled c depth o) r → HasOp o
has_op compiled c depth None r h = empty r h
has_op compiled c depth (Some op) r h = record { op = op; is = refl }

module _ (s : Source) (u : WorldState) (w : IsWorldOf s u) (compiled : Compiled) (source : IsSourceIn s compiled u) (point : ℕ) (spot : PointSpot) (is : slice_get u.rows.points point ≡ Some spot) where
  abbrev own : Context
  own = the_context (contexts_of u.rows) spot.context

  point_at : slice_get (tables_of u.rows).points point ≡ Some (at own spot.place spot.depth)
  point_at = map_get (point_of (contexts_of u.rows)) u.rows.points point spot is

  the_place : point_in u point ≡ at own spot.place spot.depth
  the_place = ap (λ o. unwrap_or o (at main 0 0)) point_at

  has_place : HasPlace s own spot.place spot.depth
  has_place = (w.tables.numbering.are_points own spot.place spot.depth (got (tables_of u.rows).points point (at own spot.place spot.depth) point_at)).1

  stands_here : (o : Op) → op_at compiled.program own spot.place ≡ Some o → Stands s own spot.place spot.depth o
  stands_here o e =
      record {
        code = has_place.code;
        of = has_place.of;
        op = sym (ap (option_and_then (λ x. slice_get x.ops spot.place)) has_place.of) ∙ (ap (λ p. op_at p own spot.place) source.program.program ∙ e);
        has_depth = has_place.has_depth;
      }

  -- each reading is one of the instruction that stands there
  pub reads : (r : SeatReading) → Contains (readings_of compiled (contexts_of u.rows) spot) r → IsReadAt s u point spot r
  reads r k =
      let o : HasOp (op_at compiled.program own spot.place) = has_op compiled own spot.depth (op_at compiled.program own spot.place) r k in
      record {
        op = o.op;
        is_spot = is;
        stands = stands_here o.op o.is;
        is_reading = subst (λ rs. Contains rs r) (readings_are s compiled source.program (contexts_of u.rows) spot o.op o.is) k;
        budget = source.budget;
      }

  fires_there : (r : SeatReading) (shapes : List Shape) (i : Item) → GivesFor s (items_in u) r shapes (point_in u point) i → Fires s (items_in u) own spot.place spot.depth r shapes
  fires_there r shapes i g = subst (FiresAt s (items_in u) r shapes) the_place (fires_of s (items_in u) r shapes (point_in u point) i g)

  op_here : (o : Op) → Stands s own spot.place spot.depth o → op_at compiled.program own spot.place ≡ Some o
  op_here o h = ap (λ p. op_at p own spot.place) (sym source.program.program) ∙ (ap (option_and_then (λ x. slice_get x.ops spot.place)) h.of ∙ h.op)

  -- and what the rules give is given by one of them
  pub by_one : (i : Item) → GivesAt s (items_in u) (point_in u point) i → IsOneOf (λ r. GivesBy s (items_in u) r (point_in u point)) (readings_of compiled (contexts_of u.rows) spot) i
  by_one i g =
      let b : IsByReading s (items_in u) (point_in u point) i = by_reading s (items_in u) g in
      let f : Fires s (items_in u) own spot.place spot.depth b.reading b.gives.shapes = fires_there b.reading b.gives.shapes i b.gives.gives in
      record {
        one = b.reading;
        among = subst (λ rs. Contains rs b.reading) (sym (readings_are s compiled source.program (contexts_of u.rows) spot f.op (op_here f.op f.stands))) f.is_reading;
        is = b.gives;
      }

  -- where nothing is written nothing is given
  pub nothing_written : flows.target_of (slice_get u.rows.graph.flow.points point) ≡ None → (i : Item) → GivesAt s (items_in u) (point_in u point) i → ⊥
  nothing_written none i g =
      let b : IsByReading s (items_in u) (point_in u point) i = by_reading s (items_in u) g in
      let f : Fires s (items_in u) own spot.place spot.depth b.reading b.gives.shapes = fires_there b.reading b.gives.shapes i b.gives.gives in
      let x : IsWritten (written s.program own spot.depth f.op) = writes s own spot.depth f.op b.reading f.is_reading in
      let there : target_of s.program (at own spot.place spot.depth) ≡ Some x.variable =
      ap (λ o. option_and_then (written s.program own spot.depth) o) (ap (option_and_then (λ y. slice_get y.ops spot.place)) f.stands.of ∙ f.stands.op) ∙ x.is in
      let absent : target_of s.program (at own spot.place spot.depth) ≡ None =
      sym (w.tables.numbering.targets point (at own spot.place spot.depth) point_at) ∙ ap (option_map (the_variable (tables_of u.rows))) none in
      let e : Some x.variable ≡ None = sym there ∙ absent in
      cc
