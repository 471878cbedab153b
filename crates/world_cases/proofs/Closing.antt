-- A computed world that passes the tests is closed, and what fires in it was computed.
use Rattle.std.proofs.Common.{◌≡◌, ℕ, ◌*◌, ◌≤◌, true, not, cond, Some, List, [], ◌∷◌, map, length, slice_get, refl, sym, ap, subst}
use Rattle.std.specs.List.{Contains, list_any}
use Rattle.std.proofs.lemmas.List.Elements.{Contains-append_left, Contains-append_right}
use Rattle.graph_walks.specs.Worlds as worlds
use Rattle.graph_walks.specs.Worlds.{Memory, Edge, Fact, HasFact, FactGives}
use Rattle.graph_walks.specs.Walks.{Visible}
use Rattle.graph_walks.proofs.Lists.{first, map_has}
use Rattle.stack_code.specs.declared.op.Op.{Op}
use Rattle.stack_code.specs.Depths.{HasDepth}
use Rattle.stack_code.specs.Effects.{falls}
use Rattle.abstract_shapes.specs.Shapes.{Shape}
use Rattle.world_rules.specs.declared.row.TableEntry.{TableEntry}
use Rattle.world_rules.specs.declared.row.Yield.{Yield}
use Rattle.world_rules.specs.declared.transfer.SeatReading.{SeatReading}
use Rattle.world_rules.specs.Places.{Context, main, Variable, Point, at, same_variable, target_of}
use Rattle.world_rules.specs.Sources.{Source}
use Rattle.world_rules.specs.Branches.{is_call}
use Rattle.world_rules.specs.Items.{Agree, Item, a_context, an_edge, a_fact, an_entry, map_of, variables, world_of}
use Rattle.world_rules.specs.Rows.{row_of, made}
use Rattle.world_rules.specs.Rules.{IsSeen, Stands, readings_at, fall_edge, jump_edge, Leads, on, off, Yields, it, one, Fires, GivesAt, result, enter, Gives, of_module, leads, of_point, IsClosed}
use Rattle.world_rules.proofs.Same.{variable_equal}
use Rattle.world_rules.proofs.Extending.{some_same}
use Rattle.world_cases.proofs.Pairs.{all, each, both, joined, IsAmong, chosen, same_shape, shape_equal}
use Rattle.world_cases.proofs.Few.{IsOf, IsSmall, count, seen_is_visible}
use Rattle.world_cases.proofs.Tables.{Spot, shapes_given, entries_given, is_plain, is_plain_row}
use Rattle.world_cases.proofs.Tables as tables
use Rattle.world_cases.proofs.Walked.{Found, found_any, or_else, made_there, entry_there, IsPlaced, placed, listed, Way, fell, jumped, EdgeFrom, edge_from, FactFrom, fact_from, main_only, held, held_at, flows, edge_there, given_there}

module _ (s : Source) (table : List Spot) (no_ranges : s.program.body.ranges ≡ []) (ok : tables.checked s table ≡ true) (vars : List Variable) (shapes : List Shape) (fits : tables.small s table vars shapes ≡ true) where
  abbrev spot : ℕ → Spot
  spot p = tables.spot s table p

  abbrev here : ℕ → Point
  here p = tables.here s table p

  abbrev world : List Item
  world = tables.world s table

  abbrev w : worlds.World Point Variable Shape
  w = world_of s world

  abbrev places : List ℕ
  places = tables.places s table

  abbrev pub points : List Point
  points = map here places

  -- ---- it is small

  these : (v : Variable) (t : Shape) → tables.of_these s table vars shapes v t ≡ true → Contains vars v × Contains shapes t
  these v t h =
      let k = both (list_any (λ x. same_variable x v) vars) _ h in
      let x : Found (λ x. same_variable x v) vars = found_any _ vars k.0 in
      let u : Found (λ u. same_shape u t) shapes = found_any _ shapes k.1 in
      (subst (Contains vars) (variable_equal x.item v x.holds) x.is, subst (Contains shapes) (shape_equal u.item t u.holds) u.is)

  fits_on : (p : ℕ) → Contains places p → tables.small_on s table vars shapes p ≡ true
  fits_on p c = each (tables.small_on s table vars shapes) places fits p c

  small_there : (p : ℕ) → Contains places p → (spot p).reached ≡ true → tables.small_by s table vars shapes p (slice_get s.program.body.ops p) ≡ true
  small_there p c h = or_else (spot p).reached _ (both (all (λ x. tables.of_these s table vars shapes x.0 x.1) (spot p).may) _ (fits_on p c)).1 h

  fits_may : (p : ℕ) → Contains places p → all (λ x. tables.of_these s table vars shapes x.0 x.1) (spot p).may ≡ true
  fits_may p c = (both (all (λ x. tables.of_these s table vars shapes x.0 x.1) (spot p).may) _ (fits_on p c)).0

  from_here : (p : ℕ) (o : Op) (e : Edge Point Variable Shape) → Way s table no_ranges ok p o e → here p ≡ e.from
  from_here p o e (fell f) = refl
  from_here p o e (jumped b f) = refl

  pub small_world : IsSmall w points vars shapes
  small_world = record { edges = λ e c. edges e (edge_from s table no_ranges ok e c); sources = λ p u source f. sources (record { point = p; shape = u; source = source }) (fact_from s table no_ranges ok (record { point = p; shape = u; source = source }) f); given = λ v t g. given v t g (fact_from s table no_ranges ok (record { point = g.point; shape = t; source = g.source }) g.fact) }
    where
      edges : (e : Edge Point Variable Shape) → EdgeFrom s table no_ranges ok e → Contains points e.from
      edges e from = subst (Contains points) (from_here from.place from.op e from.way) (map_has here places from.place from.is_listed)

      sources : (f : Fact Point Variable Shape) → FactFrom s table no_ranges ok f → IsOf vars shapes f.source
      sources f from = record { at = λ v t e. these v t (each (λ x. tables.of_these s table vars shapes x.0 x.1) (spot from.place).may (fits_may from.place from.is_listed) (v, t) (from.source v t e)) }

      given : (v : Variable) (t : Shape) (g : FactGives w v t) → FactFrom s table no_ranges ok (record { point = g.point; shape = t; source = g.source }) → Contains vars v × Contains shapes t
      given v t g from =
          let target : target_of s.program (here from.place) ≡ Some v = subst (λ q. target_of s.program q ≡ Some v) from.point g.target in
          let all_small : tables.small_by s table vars shapes from.place (slice_get s.program.body.ops from.place) ≡ true = small_there from.place from.is_listed from.reached in
          let two : tables.given_of s table vars shapes (target_of s.program (here from.place)) (tables.results s table from.place from.op) ≡ true = subst (λ x. tables.small_by s table vars shapes from.place x ≡ true) from.is_op all_small in
          these v t (each (tables.of_these s table vars shapes v) (tables.results s table from.place from.op) (subst (λ x. tables.given_of s table vars shapes x (tables.results s table from.place from.op) ≡ true) target two) t from.given)

  module _ (few : length points * count vars shapes ≤ s.budget) where
    -- ---- what stands at a point, and what fires

    pub record StandsAt (p : ℕ) (o : Op) : Type 0 where
      pub is_op : slice_get s.program.body.ops p ≡ Some o
      pub is_listed : Contains places p

    pub data Standing : Context → ℕ → ℕ → Op → Type 0 where
      standing : (p : ℕ) (o : Op) → StandsAt p o → Standing main p (spot p).depth o

    pub stands_at : (c : Context) (p d : ℕ) (o : Op) → Contains world (a_context c) → Stands s c p d o → Standing c p d o
    stands_at c p d o k st = subst (λ z. Stands s z p d o → Standing z p d o) (main_only s table no_ranges ok c k) (λ z. go z) st
      where
        go : Stands s main p d o → Standing main p d o
        go st =
            let code : st.code ≡ s.program.body = sym (some_same st.of) in
            let i : IsPlaced s table no_ranges ok p d = placed s table no_ranges ok (subst (λ k. HasDepth k p d) code st.has_depth) in
            subst (λ x. Standing main p x o) i.deep (standing p o (record { is_op = subst (λ k. slice_get k.ops p ≡ Some o) code st.op; is_listed = listed s table no_ranges ok p i.few }))

    pub record FiresAt (p : ℕ) (r : SeatReading) (read : List Shape) : Type 0 where
      pub op : Op
      pub at : StandsAt p op
      pub reached : (spot p).reached ≡ true
      pub is_reading : Contains (tables.reads_at s table p op) r
      pub chosen : Contains (tables.chosen_at s table p r) read

    pub data Firing : Context → ℕ → ℕ → SeatReading → List Shape → Type 0 where
      firing : (p : ℕ) (r : SeatReading) (read : List Shape) → FiresAt p r read → Firing main p (spot p).depth r read

    pub visible_at : (p : ℕ) → Contains places p → (m : Memory Variable Shape) → IsSeen s world (here p) m → ((spot p).reached ≡ true) × IsAmong (spot p).may m
    visible_at p l m seen =
        let v : Visible w (here p) m = seen_is_visible w points vars shapes small_world (here p) m s.budget few (map_has here places p l) seen in
        let h : ((spot p).reached ≡ true) × IsAmong (spot p).may v.memory = held_at s table no_ranges ok p v.memory (held s table no_ranges ok v.walk) in
        (h.0, record { at = λ x t e. h.1.at x t (v.holds.at x t e) })

    pub fires_at : (c : Context) (p d : ℕ) (r : SeatReading) (read : List Shape) → Fires s world c p d r read → Firing c p d r read
    fires_at c p d r read f = go (stands_at c p d f.op f.context f.stands) f.is_reading f.agree f.seen
      where
        go : {c : Context} {p d : ℕ} {o : Op} → Standing c p d o → Contains (readings_at s c d o) r → Agree (variables c r.seats) read (map_of (variables c r.seats) read) → IsSeen s world (at c p d) (map_of (variables c r.seats) read) → Firing c p d r read
        go (standing p o st) is agree seen =
            let h = visible_at p st.is_listed (map_of (variables main r.seats) read) seen in
            firing p r read (record { op = o; at = st; reached = h.0; is_reading = is; chosen = chosen (spot p).may _ h.1 (variables main r.seats) read agree })

    -- ---- it is closed

    leads_there : {c : Context} {p d : ℕ} {o : Op} (e : Edge Point Variable Shape) → Standing c p d o → Leads c p d o e → Contains world (an_edge e)
    leads_there e (standing p o st) l = edge_there s table no_ranges ok p o st.is_op st.is_listed e (go l)
      where
        go : {e : Edge Point Variable Shape} → Leads main p (spot p).depth o e → Contains (tables.edges_at s table p o) e
        go (on f n) =
            Contains-append_left (cond (tables.falls_on s table o) (fall_edge main p (spot p).depth o ∷ []) []) _ _
            (subst (λ b. Contains (cond b (fall_edge main p (spot p).depth o ∷ []) []) (fall_edge main p (spot p).depth o)) (sym (joined (falls o) (not (is_call o)) f (ap not n))) (first _ []))
        go (off {b} i) =
            Contains-append_right (cond (tables.falls_on s table o) (fall_edge main p (spot p).depth o ∷ []) []) _ _
            (subst (λ x. Contains (tables.jumps_by s table p o x) (jump_edge main p (spot p).depth o b)) (sym i) (first _ []))

    plain_row : (p : ℕ) (r : SeatReading) (read : List Shape) (f : FiresAt p r read) → is_plain_row (row_of r.transfer read) ≡ true
    plain_row p r read f =
        let all_plain : tables.plain s table p f.op ≡ true = (flows s table no_ranges ok p f.op f.at.is_op f.at.is_listed f.reached).2 in
        let one = each (λ r. all (λ read. is_plain_row (row_of r.transfer read)) (tables.chosen_at s table p r)) (tables.reads_at s table p f.op) all_plain r f.is_reading in
        each (λ read. is_plain_row (row_of r.transfer read)) (tables.chosen_at s table p r) one read f.chosen

    yield_made : (read : List Shape) (y : Yield) (t : Shape) → is_plain y ≡ true → Yields s world read y t → made read y ≡ Some t
    yield_made read y t h (it e) = e
    yield_made read y t h (one c) = cc

    result_there : {c : Context} {p d : ℕ} {r : SeatReading} {read : List Shape} (y : Yield) (t : Shape) → Firing c p d r read → Contains (row_of r.transfer read).results y → Yields s world read y t →
        Contains world (a_fact (record { point = at c p d; shape = t; source = map_of (variables c r.seats) read }))
    result_there y t (firing p r read f) c g =
        let plain : is_plain y ≡ true = each is_plain (row_of r.transfer read).results (both _ _ (plain_row p r read f)).0 y c in
        given_there s table no_ranges ok p f.op f.at.is_op f.at.is_listed f.reached r f.is_reading read f.chosen _
        (Contains-append_left (map (tables.fact_at s table p r read) (shapes_given read (row_of r.transfer read).results)) _ _
        (map_has (tables.fact_at s table p r read) (shapes_given read (row_of r.transfer read).results) t (made_there read (row_of r.transfer read).results y t c (yield_made read y t plain g))))

    entry_given : {c : Context} {p d : ℕ} {r : SeatReading} {read : List Shape} (e : TableEntry) (t : Shape) → Firing c p d r read → Contains (row_of r.transfer read).entries e → Yields s world read e.given t → Contains world (an_entry e.place t)
    entry_given e t (firing p r read f) c g =
        let plain : is_plain e.given ≡ true = each (λ e. is_plain e.given) (row_of r.transfer read).entries (both _ _ (plain_row p r read f)).1 e c in
        given_there s table no_ranges ok p f.op f.at.is_op f.at.is_listed f.reached r f.is_reading read f.chosen _
        (Contains-append_right (map (tables.fact_at s table p r read) (shapes_given read (row_of r.transfer read).results)) _ _
        (entry_there read (row_of r.transfer read).entries e t c (yield_made read e.given t plain g)))

    at_point : (q : Point) (i : Item) → GivesAt s world q i → Contains world i
    at_point q i (result {c} {place} {depth} {r} {t} read y f k g) = result_there y t (fires_at c place depth r read f) k g
    at_point q i (enter {c} {place} {depth} {r} {t} read e f k g) = entry_given e t (fires_at c place depth r read f) k g

    there : (i : Item) → Gives s world i → Contains world i
    there i of_module = first (a_context main) _
    there i (leads {c} {place} {depth} {o} {e} k st l p) = leads_there e (stands_at c place depth o k st) l
    there i (of_point {p} g) = at_point p i g

    pub is_closed : IsClosed s world
    is_closed = record { has = there }
