-- What the least world of a module tells, where walks through it have been computed and traced.
use Rattle.std.proofs.Common.{◌≡◌, ◌↔◌, ℕ, ◌*◌, ◌<◌, ◌≤◌, Bool, true, false, cond, ◌⊎◌, inl, inr, is_some, Option, Some, None, List, [], ◌∷◌, map, length, slice_get, refl, sym, ap, subst}
use Rattle.std.specs.List.{Contains, flat_map}
use Rattle.std.specs.List.Sorted.{IsStrictlySortedBy}
use Rattle.std.specs.Ordering.{nat_cmp}
use Rattle.std.specs.declared.cmp.Ordering.{Ordering}
use Rattle.graph_walks.specs.Worlds.{Memory, AllGiven}
use Rattle.graph_walks.specs.Backs.{Heavy}
use Rattle.graph_walks.proofs.Lists.{empty, first, first_as, only, map_has, flat_map_has, flat_map_from, Part}
use Rattle.stack_code.specs.declared.op.Op.{Op}
use Rattle.stack_code.specs.declared.op.Op.TheVariants as op
use Rattle.abstract_shapes.specs.Shapes.{Shape}
use Rattle.world_rules.specs.declared.finding.Fault.{Fault}
use Rattle.world_rules.specs.declared.finding.Finding.{Finding}
use Rattle.world_rules.specs.declared.transfer.SeatReading.{SeatReading}
use Rattle.world_rules.specs.Places.{Context, main, Variable, global, at, op_at}
use Rattle.world_rules.specs.Sources.{Source}
use Rattle.world_rules.specs.Items.{Item, map_of, world_of}
use Rattle.world_rules.specs.Rows.{row_of}
use Rattle.world_rules.specs.Rules.{Fires, IsSeen, IsClosed, IsContained, IsLeast}
use Rattle.world_rules.specs.Findings.{line_of, finding_order, IsFinding, IsUnchecked, IsHeavyLine, AreFindings, AreUnchecked, AreHeavy, IsQuery, OutputQuery, at_end, at_return}
use Rattle.world_rules.specs.Stubs.{EndsWith}
use Rattle.world_rules.specs.Texts.{fault_text, kind_of_fault, text_of_fault}
use Rattle.world_rules.proofs.Paths as paths
use Rattle.world_rules.proofs.Same.{same}
use Rattle.world_rules.proofs.Told.{same_findings, same_unchecked, same_heavy, same_ends}
use Rattle.world_cases.proofs.Pairs.{shapes_of, shape_of}
use Rattle.world_cases.proofs.Few.{count, not_heavy}
use Rattle.world_cases.proofs.Tables.{Spot}
use Rattle.world_cases.proofs.Tables as tables
use Rattle.world_cases.proofs.Traces.{Turn, State, begin}
use Rattle.world_cases.proofs.Traces as traces
use Rattle.world_cases.proofs.Closing.{small_world, is_closed, StandsAt, Standing, standing, stands_at, FiresAt, Firing, firing, fires_at, visible_at}
use Rattle.world_cases.proofs.Standing as standings

abbrev pub visits : Source → List (List Turn) → List State
visits s turns = flat_map (λ t. traces.follow s t begin) turns

-- a module whose walks were computed, with traces that come to all that they read
pub record Sampled (s : Source) (table : List Spot) : Type 0 where
  pub no_ranges : s.program.body.ranges ≡ []
  pub ok : tables.checked s table ≡ true
  pub vars : List Variable
  pub shapes : List Shape
  pub fits : tables.small s table vars shapes ≡ true
  pub few : length (map (tables.here s table) (tables.places s table)) * count vars shapes ≤ s.budget
  pub some : 0 < length s.program.body.ops
  pub begins : is_some (op_at s.program main 0) ≡ true
  pub turns : List (List Turn)
  pub traced : traces.traced s table (visits s turns) ≡ true

-- what the rows of a reading find, and the lines that they mark
abbrev pub finding_by : Source → Fault → List Shape → Option ℕ → List Finding
finding_by s f read None = []
finding_by s f read (Some line) = record { line = line; kind = kind_of_fault f; text = text_of_fault s.program f read } ∷ []

abbrev pub findings_by : Source → ℕ → Option Fault → List Shape → List Finding
findings_by s p None read = []
findings_by s p (Some f) read = finding_by s f read (slice_get s.program.body.lines p)

abbrev pub line_by : Option ℕ → List ℕ
line_by None = []
line_by (Some line) = line ∷ []

abbrev pub marks_by : Source → ℕ → Bool → List ℕ
marks_by s p b = cond b (line_by (slice_get s.program.body.lines p)) []

module _ (s : Source) (table : List Spot) where
  abbrev pub of_readings : {X : Type 0} → (ℕ → SeatReading → List Shape → List X) → ℕ → Option Op → List X
  of_readings f p None = []
  of_readings f p (Some o) = cond (tables.spot s table p).reached (flat_map (λ r. flat_map (f p r) (tables.chosen_at s table p r)) (tables.reads_at s table p o)) []

  abbrev pub on_places : {X : Type 0} → (ℕ → SeatReading → List Shape → List X) → List X
  on_places f = flat_map (λ p. of_readings f p (slice_get s.program.body.ops p)) (tables.places s table)

  abbrev pub found : List Finding
  found = on_places (λ p r read. findings_by s p (row_of r.transfer read).fault read)

  abbrev pub marked : List ℕ
  marked = on_places (λ p r read. marks_by s p (row_of r.transfer read).unchecked)

  abbrev pub ends_by : ℕ → ℕ → Option Op → List Shape
  ends_by n p (Some op.End) = shapes_of (tables.spot s table p).may (global n)
  ends_by n p _ = []

  abbrev pub ended : ℕ → List Shape
  ended n = flat_map (λ p. ends_by n p (slice_get s.program.body.ops p)) (tables.places s table)

module _ (s : Source) (table : List Spot) (x : Sampled s table) where
  abbrev world : List Item
  world = tables.world s table

  pub closed : IsClosed s world
  closed = is_closed s table x.no_ranges x.ok x.vars x.shapes x.fits x.few

  came : (other : List Item) (c : IsClosed s other) (st : State) → Contains (visits s x.turns) st → standings.Arrived s other c st
  came other c st k = let p : Part (λ t. traces.follow s t begin) x.turns st = flat_map_from _ x.turns st k in standings.followed s other c p.item begin (paths.begin s other c x.some x.begins) st p.part

  pub contained : (other : List Item) → IsClosed s other → IsContained world other
  contained other c = standings.is_contained s other c table x.no_ranges x.ok (visits s x.turns) x.traced (came other c)

  pub least : IsLeast s world
  least = record { closed = closed; least = contained }

  -- ---- what fires was computed, and the other way round

  record Comes {X : Type 0} (f : ℕ → SeatReading → List Shape → List X) (i : X) : Type 0 where
    place : ℕ
    reading : SeatReading
    read : List Shape
    fires : Fires s world main place (tables.spot s table place).depth reading read
    part : Contains (f place reading read) i

  comes_from : {X : Type 0} (f : ℕ → SeatReading → List Shape → List X) (i : X) → Contains (on_places s table f) i → Comes f i
  comes_from f i c = let q = flat_map_from (λ p. of_readings s table f p (slice_get s.program.body.ops p)) (tables.places s table) i c in by_op q.item q.is (slice_get s.program.body.ops q.item) refl q.part
    where
      by_reached : (p : ℕ) → Contains (tables.places s table) p → (o : Op) → slice_get s.program.body.ops p ≡ Some o → (b : Bool) → (tables.spot s table p).reached ≡ b →
          Contains (cond b (flat_map (λ r. flat_map (f p r) (tables.chosen_at s table p r)) (tables.reads_at s table p o)) []) i → Comes f i
      by_reached p l o e false h k = empty i k
      by_reached p l o e true h k =
          let one = flat_map_from (λ r. flat_map (f p r) (tables.chosen_at s table p r)) (tables.reads_at s table p o) i k in
          let two = flat_map_from (f p one.item) (tables.chosen_at s table p one.item) i one.part in
          record {
            place = p;
            reading = one.item;
            read = two.item;
            fires = standings.fires s world closed table x.no_ranges x.ok (visits s x.turns) x.traced (came world closed) p o one.item two.item e l h one.is two.is;
            part = two.part;
          }

      by_op : (p : ℕ) → Contains (tables.places s table) p → (o : Option Op) → slice_get s.program.body.ops p ≡ o → Contains (of_readings s table f p o) i → Comes f i
      by_op p l None e k = empty i k
      by_op p l (Some o) e k = by_reached p l o e (tables.spot s table p).reached refl k

  goes_in : {X : Type 0} (f : ℕ → SeatReading → List Shape → List X) (i : X) (p : ℕ) (r : SeatReading) (read : List Shape) → FiresAt s table x.no_ranges x.ok x.vars x.shapes x.fits x.few p r read → Contains (f p r read) i → Contains (on_places s table f) i
  goes_in f i p r read a c =
      flat_map_has (λ p. of_readings s table f p (slice_get s.program.body.ops p)) (tables.places s table) p i a.at.is_listed
      (subst (λ o. Contains (of_readings s table f p o) i) (sym a.at.is_op)
      (subst (λ b. Contains (cond b (flat_map (λ r. flat_map (f p r) (tables.chosen_at s table p r)) (tables.reads_at s table p a.op)) []) i) (sym a.reached)
      (flat_map_has (λ r. flat_map (f p r) (tables.chosen_at s table p r)) (tables.reads_at s table p a.op) r i a.is_reading (flat_map_has (f p r) (tables.chosen_at s table p r) read i a.chosen c))))

  -- ---- findings

  found_is : (f : Finding) → Contains (found s table) f → IsFinding s world f
  found_is f c = let q : Comes (λ p r read. findings_by s p (row_of r.transfer read).fault read) f = comes_from _ f c in by_fault q.place q.reading q.read q.fires (row_of q.reading.transfer q.read).fault refl q.part
    where
      by_line : (p : ℕ) (r : SeatReading) (read : List Shape) → Fires s world main p (tables.spot s table p).depth r read → (fault : Fault) → (row_of r.transfer read).fault ≡ Some fault →
          (line : Option ℕ) → slice_get s.program.body.lines p ≡ line → Contains (finding_by s fault read line) f → IsFinding s world f
      by_line p r read a fault e None h k = empty f k
      by_line p r read a fault e (Some line) h k =
          subst (IsFinding s world) (sym (only _ f k)) (record { context = main; place = p; depth = (tables.spot s table p).depth; on_line = h; finds = record { reading = r; shapes = read; fires = a; fault = fault; has_fault = e; told = refl } })

      by_fault : (p : ℕ) (r : SeatReading) (read : List Shape) → Fires s world main p (tables.spot s table p).depth r read → (fault : Option Fault) → (row_of r.transfer read).fault ≡ fault →
          Contains (findings_by s p fault read) f → IsFinding s world f
      by_fault p r read a None e k = empty f k
      by_fault p r read a (Some fault) e k = by_line p r read a fault e (slice_get s.program.body.lines p) refl k

  finding_there : (f : Finding) → IsFinding s world f → Contains (found s table) f
  finding_there f h = go (fires_at s table x.no_ranges x.ok x.vars x.shapes x.fits x.few h.context h.place h.depth h.finds.reading h.finds.shapes h.finds.fires) h.on_line h.finds.has_fault h.finds.told
    where
      go : {c : Context} {p d : ℕ} {r : SeatReading} {read : List Shape} {fault : Fault} → Firing s table x.no_ranges x.ok x.vars x.shapes x.fits x.few c p d r read → line_of s (at c p d) ≡ Some f.line → (row_of r.transfer read).fault ≡ Some fault →
          (record { kind = f.kind; text = f.text } ≡ fault_text s.program fault read) → Contains (found s table) f
      go {fault} (firing p r read a) line e told =
          let same : record { line = f.line; kind = kind_of_fault fault; text = text_of_fault s.program fault read } ≡ f = ap (λ t. record { line = f.line; kind = t.kind; text = t.text }) (sym told) in
          goes_in (λ p r read. findings_by s p (row_of r.transfer read).fault read) f p r read a
          (subst (λ y. Contains (findings_by s p y read) f) (sym e) (subst (λ y. Contains (finding_by s fault read y) f) (sym line) (first_as _ f [] (sym same))))

  pub findings : (f : Finding) → Contains (found s table) f ↔ IsFinding s world f
  findings f = (found_is f, finding_there f)

  -- ---- unchecked lines

  marked_is : (line : ℕ) → Contains (marked s table) line → IsUnchecked s world line
  marked_is line c = let q : Comes (λ p r read. marks_by s p (row_of r.transfer read).unchecked) line = comes_from _ line c in by_mark q.place q.reading q.read q.fires (row_of q.reading.transfer q.read).unchecked refl q.part
    where
      by_line : (p : ℕ) (r : SeatReading) (read : List Shape) → Fires s world main p (tables.spot s table p).depth r read → (row_of r.transfer read).unchecked ≡ true →
          (l : Option ℕ) → slice_get s.program.body.lines p ≡ l → Contains (line_by l) line → IsUnchecked s world line
      by_line p r read a e None h k = empty line k
      by_line p r read a e (Some l) h k =
          subst (IsUnchecked s world) (sym (only l line k)) (record { context = main; place = p; depth = (tables.spot s table p).depth; on_line = h; unchecks = record { reading = r; shapes = read; fires = a; unchecked = e } })

      by_mark : (p : ℕ) (r : SeatReading) (read : List Shape) → Fires s world main p (tables.spot s table p).depth r read → (b : Bool) → (row_of r.transfer read).unchecked ≡ b → Contains (marks_by s p b) line → IsUnchecked s world line
      by_mark p r read a false e k = empty line k
      by_mark p r read a true e k = by_line p r read a e (slice_get s.program.body.lines p) refl k

  unchecked_there : (line : ℕ) → IsUnchecked s world line → Contains (marked s table) line
  unchecked_there line h = go (fires_at s table x.no_ranges x.ok x.vars x.shapes x.fits x.few h.context h.place h.depth h.unchecks.reading h.unchecks.shapes h.unchecks.fires) h.on_line h.unchecks.unchecked
    where
      go : {c : Context} {p d : ℕ} {r : SeatReading} {read : List Shape} → Firing s table x.no_ranges x.ok x.vars x.shapes x.fits x.few c p d r read → line_of s (at c p d) ≡ Some line → (row_of r.transfer read).unchecked ≡ true → Contains (marked s table) line
      go (firing p r read a) on e =
          goes_in (λ p r read. marks_by s p (row_of r.transfer read).unchecked) line p r read a
          (subst (λ y. Contains (marks_by s p y) line) (sym e) (subst (λ y. Contains (line_by y) line) (sym on) (first line [])))

  pub unchecked : (line : ℕ) → Contains (marked s table) line ↔ IsUnchecked s world line
  unchecked line = (marked_is line, unchecked_there line)

  -- ---- heavy lines, and the ends of names

  light : {c : Context} {p d : ℕ} {o : Op} (goals : Memory Variable Shape) → Standing s table x.no_ranges x.ok x.vars x.shapes x.fits x.few c p d o → AllGiven (world_of s world) goals → Heavy (world_of s world) (at c p d) goals s.budget → ⊥
  light goals (standing p o st) g heavy =
      not_heavy (world_of s world) (map (tables.here s table) (tables.places s table)) x.vars x.shapes (small_world s table x.no_ranges x.ok x.vars x.shapes x.fits) (at main p (tables.spot s table p).depth) goals s.budget x.few
      (map_has (tables.here s table) (tables.places s table) p st.is_listed) g heavy

  pub no_heavy : (line : ℕ) → IsHeavyLine s world line → ⊥
  no_heavy line h = go h.heavy.query h.heavy.heavy
    where
      out : {c : Context} {p d : ℕ} {goals : Memory Variable Shape} → OutputQuery s world c p d goals → Heavy (world_of s world) (at c p d) goals s.budget → ⊥
      out (at_end {place} {depth} n t k st g) heavy = light _ (stands_at s table x.no_ranges x.ok x.vars x.shapes x.fits x.few main place depth op.End k st) g heavy
      out (at_return {c} {place} {depth} t k st g) heavy = light _ (stands_at s table x.no_ranges x.ok x.vars x.shapes x.fits x.few c place depth op.Return k st) g heavy

      go : {c : Context} {p d : ℕ} {goals : Memory Variable Shape} → IsQuery s world c p d goals ⊎ OutputQuery s world c p d goals → Heavy (world_of s world) (at c p d) goals s.budget → ⊥
      go {c} {p} {d} {goals} (inl q) heavy = light goals (stands_at s table x.no_ranges x.ok x.vars x.shapes x.fits x.few c p d q.op q.context q.stands) q.given heavy
      go (inr q) heavy = out q heavy

  pub ends_among : (n : ℕ) (t : Shape) → EndsWith s world n t → Contains (ended s table n) t
  ends_among n t h = go (stands_at s table x.no_ranges x.ok x.vars x.shapes x.fits x.few main h.place h.depth op.End h.context h.stands) h.seen
    where
      itself : (m : ℕ) (u : Shape) → map_of (global m ∷ []) (u ∷ []) (global m) ≡ Some u
      itself m u = let e = same m in rw e refl

      end : {p : ℕ} → StandsAt s table x.no_ranges x.ok x.vars x.shapes x.fits x.few p op.End → IsSeen s world (at main p (tables.spot s table p).depth) (map_of (global n ∷ []) (t ∷ [])) → Contains (ended s table n) t
      end {p} st seen =
          let k = visible_at s table x.no_ranges x.ok x.vars x.shapes x.fits x.few p st.is_listed (map_of (global n ∷ []) (t ∷ [])) seen in
          flat_map_has (λ p. ends_by s table n p (slice_get s.program.body.ops p)) (tables.places s table) p t st.is_listed
          (subst (λ y. Contains (ends_by s table n p y) t) (sym st.is_op) (shape_of (tables.spot s table p).may (global n) t (k.1.at (global n) t (itself n t))))

      go : {c : Context} {p d : ℕ} → Standing s table x.no_ranges x.ok x.vars x.shapes x.fits x.few c p d op.End → IsSeen s world (at c p d) (map_of (global n ∷ []) (t ∷ [])) → Contains (ended s table n) t
      go (standing p o st) seen = end st seen

  -- ---- as each least world tells it

  pub are_findings : (fs : List Finding) → found s table ≡ fs → IsStrictlySortedBy finding_order fs → (items : List Item) → IsLeast s items → AreFindings s items fs
  are_findings fs same rise items l =
      record {
        members = λ f. let here : Contains (found s table) f ↔ IsFinding s world f = findings f in let there : IsFinding s world f ↔ IsFinding s items f = same_findings s world items least l f in
            (λ c. there.0 (here.0 (subst (λ z. Contains z f) (sym same) c)), λ h. subst (λ z. Contains z f) same (here.1 (there.1 h)));
        rise = rise;
      }

  pub are_unchecked : (lines : List ℕ) → marked s table ≡ lines → IsStrictlySortedBy nat_cmp lines → (items : List Item) → IsLeast s items → AreUnchecked s items lines
  are_unchecked lines same rise items l =
      record {
        members = λ line. let here : Contains (marked s table) line ↔ IsUnchecked s world line = unchecked line in let there : IsUnchecked s world line ↔ IsUnchecked s items line = same_unchecked s world items least l line in
            (λ c. there.0 (here.0 (subst (λ z. Contains z line) (sym same) c)), λ h. subst (λ z. Contains z line) same (here.1 (there.1 h)));
        rise = rise;
      }

  pub none_heavy : (items : List Item) → IsLeast s items → AreHeavy s items []
  unfolding IsStrictlySortedBy
  none_heavy items l = record { members = λ line. (λ c. empty line c, λ h. absurd (no_heavy line ((same_heavy s world items least l line).1 h))); rise = tt }

  pub ends_with : (n : ℕ) (ts : List Shape) → ended s table n ≡ ts → (items : List Item) → IsLeast s items → (t : Shape) → EndsWith s items n t → Contains ts t
  ends_with n ts same items l t h = subst (λ z. Contains z t) same (ends_among n t ((same_ends s world items least l n t).1 h))

-- the order of lists of one and of none
pub none_rise : {K : Type 0} (order : K → K → Ordering) → IsStrictlySortedBy order []
unfolding IsStrictlySortedBy
none_rise order = tt

pub one_rises : {K : Type 0} (order : K → K → Ordering) (k : K) → IsStrictlySortedBy order (k ∷ [])
unfolding IsStrictlySortedBy
one_rises order k = (tt, tt)
