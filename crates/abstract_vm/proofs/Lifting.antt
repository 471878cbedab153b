-- What fires by numbers, and what it gives.
use Rattle.std.proofs.Common.{◌≡◌, ℕ, ◌+◌, ◌<◌, Bool, true, false, Result, Ok, Err, Some, None, List, [], length, take, get_or, ◌⊎◌, ◌↔◌, inl, inr, refl, sym, ap, subst, ◌∙◌, arith}
use Rattle.std.specs.List.{All, Contains}
use Rattle.std.specs.Prelude.{IsTrue}
use Rattle.std.proofs.lemmas.List.Elements.{All-contains}
use Rattle.graph_walks.specs.Backs.{Seen}
use Rattle.typegraph.specs.declared.goals.Binding.{Binding}
use Rattle.typegraph.specs.Maps.{look, IsJoined}
use Rattle.goal_solver.specs.Graphs as numbers
use Rattle.goal_solver.specs.Memos.{SolverState}
use Rattle.graph_queries.specs.Choices.{AreGiven, bindings}
use Rattle.abstract_shapes.specs.Shapes.{Shape}
use Rattle.world_rules.specs.declared.row.TransferRow.{TransferRow}
use Rattle.world_rules.specs.declared.transfer.SeatReading.{SeatReading}
use Rattle.world_rules.specs.Places.{Context, Point, at}
use Rattle.world_rules.specs.Sources.{Source}
use Rattle.world_rules.specs.Items.{Item, a_fact, map_of, variables}
use Rattle.world_rules.specs.Rows.{row_of}
use Rattle.world_rules.specs.Rules.{Fires, IsSeen}
use Rattle.world_tables.specs.Tables.{memory_at, items_of, IsNumbering}
use Rattle.world_tables.specs.Rows.{tables_of}
use Rattle.world_tables.proofs.Queries.{seen_by_numbers}
use Rattle.world_queries.specs.Choices.{shapes_by, IsChoice, AreMap}
use Rattle.world_queries.specs.Queries.{HasSeenChoice}
use Rattle.world_queries.proofs.Choosing.{choice_map, no_map}
use Rattle.world_queries.proofs.Firing.{fires, found}
use Rattle.abstract_vm.specs.Worlds.{WorldState, items_in, point_in, IsWorldOf}
use Rattle.abstract_vm.specs.Firing.{IsFired}
use Rattle.abstract_vm.specs.Steps.{NumbersStay, IsStep, IsOneOf, IsResult, IsEntry, GivesFor, GivesBy, IsFiringUnder, IsGivenFact, IsGivenEntry, shapes_in}
use Rattle.abstract_vm.specs.Readings.{IsReadingOf, IsQueryOf, IsSeenQuery}
use Rattle.abstract_vm.proofs.Known.{given_there}
use Rattle.abstract_vm.proofs.ReadOn.{gives_for_on, reading_on, is_at, same_context_at}
use Rattle.abstract_vm.proofs.Stay.{point_stays, choice_stays}
use Rattle.abstract_vm.proofs.Steps.{joined, joined_none, step_none, step_then, step_as, step_quiet, one_of_more}

-- ---- at a point

abbrev pub FiresAt : Source → List Item → SeatReading → List Shape → Point → Type 0
FiresAt s items r shapes (at c place depth) = Fires s items c place depth r shapes

pub fires_of : (s : Source) (items : List Item) (r : SeatReading) (shapes : List Shape) (p : Point) (i : Item) → GivesFor s items r shapes p i → FiresAt s items r shapes p
fires_of s items r shapes p i (inl h) = subst (FiresAt s items r shapes) (sym h.is_point) h.fires
fires_of s items r shapes p i (inr h) = subst (FiresAt s items r shapes) (sym h.is_point) h.fires

module _ (s : Source) (u : WorldState) (h : IsWorldOf s u) (point : ℕ) (r : SeatReading) (vars : List ℕ) (q : IsReadingOf s u point r vars) where
  abbrev n : IsNumbering s (tables_of u.rows)
  n = h.tables.numbering

  -- what fires at the point fires where the reading stands
  pub fires_here : (shapes : List Shape) (i : Item) → GivesFor s (items_in u) r shapes (point_in u point) i → Fires s (items_in u) q.context q.place q.depth r shapes
  fires_here shapes i g = subst (FiresAt s (items_in u) r shapes) (is_at s u point r vars q) (fires_of s (items_in u) r shapes (point_in u point) i g)

  -- a choice that is no map gives nothing
  pub no_map_gives : (ids : List ℕ) → AreGiven u.rows.graph vars ids → IsJoined [] (bindings vars ids) None → (i : Item) → GivesFor s (items_in u) r (shapes_in u ids) (point_in u point) i → ⊥
  no_map_gives ids given none i g = no_map s (tables_of u.rows) n vars (variables q.context r.seats) q.read.numbers_are ids given none (fires_here (shapes_in u ids) i g).agree

  -- what is given for some shapes is given for a choice
  pub by_choice : (i : Item) → GivesBy s (items_in u) r (point_in u point) i → (chosen : List (List ℕ)) → ((ids : List ℕ) → Contains chosen ids ↔ AreGiven u.rows.graph vars ids) →
      IsOneOf (λ ids. GivesFor s (items_in u) r (shapes_in u ids) (point_in u point)) chosen i
  by_choice i g chosen are =
      let c : HasSeenChoice s (tables_of u.rows) point vars g.shapes =
      found s (tables_of u.rows) n point q.context q.place q.depth q.op q.stands r vars q.read.numbers_are g.shapes (fires_here g.shapes i g.gives) in
      record { one = c.ids; among = (are c.ids).1 c.is.given; is = subst (λ xs. GivesFor s (items_in u) r xs (point_in u point) i) (sym c.shapes_are) g.gives }

-- ---- goals

module _ (s : Source) (u : WorldState) (h : IsWorldOf s u) (point : ℕ) (r : SeatReading) (ids : List ℕ) (goals : List Binding) (k : IsQueryOf s u point r ids goals) where
  abbrev its : IsNumbering s (tables_of u.rows)
  its = h.tables.numbering

  pub as_map : AreMap s (tables_of u.rows) goals (variables k.reading.context r.seats) (shapes_by (tables_of u.rows) ids)
  as_map = choice_map s (tables_of u.rows) its k.vars ids (variables k.reading.context r.seats) k.reading.read.numbers_are goals k.is_choice

  -- what gives something is seen
  pub giving_seen : (i : Item) → GivesFor s (items_in u) r (shapes_in u ids) (point_in u point) i → Seen (numbers.world_of u.rows.graph) point (look goals) u.solver.budget
  giving_seen i g =
      let f : Fires s (items_in u) k.reading.context k.reading.place k.reading.depth r (shapes_in u ids) = fires_here s u h point r k.vars k.reading (shapes_in u ids) i g in
      let seen : IsSeen s (items_in u) (at k.reading.context k.reading.place k.reading.depth) (memory_at (tables_of u.rows) goals) =
      subst (λ m. IsSeen s (items_in u) (at k.reading.context k.reading.place k.reading.depth) m) (sym as_map.map_is) f.seen in
      subst (λ b. Seen (numbers.world_of u.rows.graph) point (look goals) b) k.reading.budget
      ((seen_by_numbers s (tables_of u.rows) its point (at k.reading.context k.reading.place k.reading.depth) k.reading.stands.point goals as_map.there s.budget).0 seen)

-- ---- a choice that is seen

module _ (s : Source) (u : WorldState) (h : IsWorldOf s u) (point : ℕ) (r : SeatReading) (ids : List ℕ) (goals : List Binding) (row : TransferRow) (row_is : row ≡ row_of r.transfer (shapes_in u ids)) (k : IsSeenQuery s u point r ids goals) where
  abbrev reading : IsReadingOf s u point r k.query.vars
  reading = k.query.reading

  pub seen_under : IsFiringUnder s u (point_in u point) ids goals row
  seen_under =
      record {
        firing = record {
          context = reading.context;
          place = reading.place;
          depth = reading.depth;
          reading = r;
          is_point = is_at s u point r k.query.vars reading;
          fires = fires s (tables_of u.rows) h.tables.numbering point reading.context reading.place reading.depth reading.op reading.stands r k.query.vars reading.read ids goals k.query.is_choice k.seen;
          row_is = row_is;
        };
        goals_are = (as_map s u h point r ids goals k.query).map_is;
      }

  pub seen_wanted : (i : Item) → GivesFor s (items_in u) r (shapes_in u ids) (point_in u point) i →
      IsOneOf (IsGivenFact s u point ids goals) row.results i ⊎ IsOneOf (IsGivenEntry s u ids) row.entries i
  seen_wanted i (inl g) =
      let c : g.context ≡ reading.context = same_context_at g.context reading.context g.place g.depth reading.place reading.depth (sym g.is_point ∙ is_at s u point r k.query.vars reading) in
      let m : map_of (variables g.context r.seats) (shapes_in u ids) ≡ memory_at (tables_of u.rows) goals =
      ap (λ d. map_of (variables d r.seats) (shapes_in u ids)) c ∙ sym (as_map s u h point r ids goals k.query).map_is in
      inl (record {
        one = g.y;
        among = subst (λ (w : TransferRow). Contains w.results g.y) (sym row_is) g.is_result;
        is = record { shape = g.shape; given = g.given; is = g.is ∙ (λ j. a_fact (record { point = sym g.is_point j; shape = g.shape; source = m j })) };
      })
  seen_wanted i (inr g) = inr (record { one = g.e; among = subst (λ (w : TransferRow). Contains w.entries g.e) (sym row_is) g.is_entry; is = record { shape = g.shape; given = g.given; is = g.is } })

-- ---- steps

-- what is remembered changes no world
module _ (u : WorldState) (solver : SolverState) (budget : solver.budget ≡ u.solver.budget) where
  abbrev pub asked : WorldState
  asked = record u { solver = solver }

  pub asked_stay : NumbersStay u (record u { solver = solver })
  asked_stay = record { flow = refl; finished = refl; points = refl; variables = refl; shapes = λ id x h. h; facts = λ q f c. c; truths = omega arith; budget = budget; library = refl }

  pub asked_same : (s : Source) → IsWorldOf s u → IsWorldOf s (record u { solver = solver }) × (items_in (record u { solver = solver }) ≡ items_in u)
  asked_same s h = (record { tables = h.tables; finished = h.finished }, refl)

  module _ (point : ℕ) (r : SeatReading) (ids : List ℕ) (goals : List Binding) where
    abbrev Given : Source → Type 0
    Given s = IsQueryOf s u point r ids goals

    abbrev Wanted : Source → Item → Type 0
    Wanted s = GivesFor s (items_in u) r (shapes_in u ids) (point_in u point)

    -- the query isn't seen
    pub unseen_step : {E : Type 0} → (Seen (numbers.world_of u.rows.graph) point (look goals) u.solver.budget → ⊥) →
        IsStep {E = E} (λ s. IsQueryOf s u point r ids goals) (point_in u point) (λ s. GivesFor s (items_in u) r (shapes_in u ids) (point_in u point)) (Ok false) u (record u { solver = solver })
    unseen_step never =
        step_as Given Given (point_in u point) (λ s i. ⊥) Wanted (Ok false) u asked (λ s h g. g) (λ s h g i k. never (giving_seen s u h point r ids goals g i k))
        (step_quiet Given (point_in u point) u asked asked_stay asked_same)

    -- the query is seen
    pub seen_step : {E : Type 0} → Seen (numbers.world_of u.rows.graph) point (look goals) u.solver.budget → (result : Result Bool E) (w : WorldState) →
        IsStep (λ s. IsSeenQuery s (record u { solver = solver }) point r ids goals) (point_in u point) (λ s. GivesFor s (items_in u) r (shapes_in u ids) (point_in u point)) result (record u { solver = solver }) w →
        IsStep (λ s. IsQueryOf s u point r ids goals) (point_in u point) (λ s. GivesFor s (items_in u) r (shapes_in u ids) (point_in u point)) result u w
    seen_step seen result w b =
        subst (λ q. IsStep Given (point_in u point) Wanted q u w) (joined_none result)
        (step_then Given (λ s. IsSeenQuery s asked point r ids goals) (point_in u point) (point_in u point) (λ s i. ⊥) Wanted Wanted false u asked w
        (step_quiet Given (point_in u point) u asked asked_stay asked_same) refl gives (λ s h g f i k. inr k) result b)
      where
        gives : (s : Source) → IsWorldOf s u → Given s → IsFired s (point_in u point) u asked → IsSeenQuery s asked point r ids goals
        gives s h g f =
            record {
              query = record { vars = g.vars; reading = reading_on u asked asked_stay s point r g.vars g.reading; is_choice = g.is_choice };
              seen = subst (λ b. Seen (numbers.world_of u.rows.graph) point (look goals) b) (sym g.reading.budget) seen;
            }

-- one choice more
module _ {E : Type 0} (u v w : WorldState) (point : ℕ) (r : SeatReading) (vars : List ℕ) (chosen : List (List ℕ)) (given : All (AreGiven u.rows.graph vars) chosen)
    (k : ℕ) (x : List ℕ) (below : k < length chosen) (is : x ≡ get_or chosen k x) (one : Bool) (result : Result Bool E) where
  abbrev Reading : Source → Type 0
  Reading s = IsReadingOf s u point r vars

  pub each_more : IsStep {E = E} (λ s. IsReadingOf s u point r vars) (point_in u point) (λ s. IsOneOf (λ ids. GivesFor s (items_in u) r (shapes_in u ids) (point_in u point)) (take k chosen)) (Ok one) u v →
      IsStep (λ s. IsReadingOf s v point r vars) (point_in v point) (λ s. GivesFor s (items_in v) r (shapes_in v x) (point_in v point)) result v w →
      IsStep (λ s. IsReadingOf s u point r vars) (point_in u point) (λ s. IsOneOf (λ ids. GivesFor s (items_in u) r (shapes_in u ids) (point_in u point)) (take (k + 1) chosen)) (joined one result) u w
  each_more a b =
      step_then Reading (λ s. IsReadingOf s v point r vars) (point_in u point) (point_in v point)
      (λ s. IsOneOf (λ ids. GivesFor s (items_in u) r (shapes_in u ids) (point_in u point)) (take k chosen)) (λ s. GivesFor s (items_in v) r (shapes_in v x) (point_in v point))
      (λ s. IsOneOf (λ ids. GivesFor s (items_in u) r (shapes_in u ids) (point_in u point)) (take (k + 1) chosen))
      one u v w a (point_stays u v a.stay point) (λ s h g f. reading_on u v a.stay s point r vars g) covers result b
    where
      there : (s : Source) → IsWorldOf s u → All (λ id. id < length u.rows.graph.truths) x
      there s h = given_there u.rows.graph h.tables.numbering.flow_valid h.tables.numbering.graph_valid vars x (subst (AreGiven u.rows.graph vars) (sym is) (given k x below))

      moved : (s : Source) → IsWorldOf s u → IsFired s (point_in u point) u v → (i : Item) → GivesFor s (items_in u) r (shapes_in u x) (point_in u point) i → GivesFor s (items_in v) r (shapes_in v x) (point_in v point) i
      moved s h f i g =
          let same : shapes_in u x ≡ shapes_in v x = sym (choice_stays u v a.stay s h.tables.numbering x (there s h)) in
          let now : GivesFor s (items_in v) r (shapes_in u x) (point_in u point) i = gives_for_on s (items_in u) (items_in v) f.contained r (shapes_in u x) (point_in u point) i g in
          subst (λ p. GivesFor s (items_in v) r (shapes_in v x) p i) (sym (point_stays u v a.stay point)) (subst (λ xs. GivesFor s (items_in v) r xs (point_in u point) i) same now)

      covers : (s : Source) → IsWorldOf s u → Reading s → IsFired s (point_in u point) u v → (i : Item) → IsOneOf (λ ids. GivesFor s (items_in u) r (shapes_in u ids) (point_in u point)) (take (k + 1) chosen) i →
          IsOneOf (λ ids. GivesFor s (items_in u) r (shapes_in u ids) (point_in u point)) (take k chosen) i ⊎ GivesFor s (items_in v) r (shapes_in v x) (point_in v point) i
      covers s h g f i o =
          elim (one_of_more (λ ids. GivesFor s (items_in u) r (shapes_in u ids) (point_in u point)) chosen k x i below is o) [ inl m ↦ inl m | inr m ↦ inr (moved s h f i m) ]
