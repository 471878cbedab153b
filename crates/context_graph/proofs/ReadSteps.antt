-- What instructions read becomes variables.
use Rattle.std.proofs.Common.{◌≡◌, ℕ, suc, ◌+◌, ◌<◌, Option, Some, None, List, length, map, take, slice_get, ◌⊎◌, inl, inr, refl, sym, ap, subst, ◌∙◌, arith, add-one}
use Rattle.std.specs.Option.{option_and_then}
use Rattle.std.specs.List.{Contains}
use Rattle.std.proofs.Math.Decide.{ℕ_discrete}
use Rattle.graph_walks.proofs.Lists.{empty, got, map_has, map_from, Origin}
use Rattle.stack_code.specs.declared.code.Code.{Code}
use Rattle.stack_code.specs.declared.op.Op.{Op}
use Rattle.stack_code.specs.Depths.{HasDepth}
use Rattle.program_tables.specs.Programs.{Compiled}
use Rattle.world_rules.specs.declared.seat.OwnedSeat.{OwnedSeat}
use Rattle.world_rules.specs.declared.transfer.SeatReading.{SeatReading}
use Rattle.world_rules.specs.Places as places
use Rattle.world_rules.specs.Places.{Context, Variable, code_of, op_at, thread_of}
use Rattle.world_rules.specs.Sources.{Source}
use Rattle.world_rules.specs.Items.{variables}
use Rattle.world_rules.specs.Readings.{readings}
use Rattle.world_rules.specs.Rules.{readings_at}
use Rattle.world_tables.specs.declared.spot.PointSpot.{PointSpot}
use Rattle.world_tables.specs.declared.spot.VariableSpot.{VariableSpot}
use Rattle.world_tables.specs.Tables.{used_read, IsUsedIn, AreTables}
use Rattle.world_tables.specs.Rows.{WorldRows, contexts_of, the_context, variable_of, tables_of, IsKept}
use Rattle.world_tables.proofs.Keeping.{known_context}
use Rattle.world_tables.proofs.Lists.{take_next}
use Rattle.context_code.specs.Readings.{readings_by, readings_of}
use Rattle.context_code.specs.Seats.{owned_spot, owned_spots}
use Rattle.context_code.specs.Sources.{IsSourceOf}
use Rattle.context_code.proofs.SeatVariables.{owned_stands}
use Rattle.context_graph.specs.Growth.{IsGrown, IsStep, IsPart}
use Rattle.context_graph.specs.Places.{IsCodeOf, IsPlaceOf, IsSpotAt, HasReads, HaveReads}
use Rattle.context_graph.specs.Worlds.{IsWorld, AreUsed, AreKnown}
use Rattle.context_graph.proofs.Grown.{step_same, step_on}
use Rattle.context_graph.proofs.Parts.{part_same, part_on, variable_stays}

-- ---- seats

-- the seats so far are variables
pub record SeatsAdded (initial rows : WorldRows) (context : ℕ) (seats : List OwnedSeat) (n : ℕ) : Type 0 where
  pub step : IsStep initial rows
  pub keeps : (s : Source) → AreTables s (tables_of initial) → AreUsed s initial (owned_spots context seats) → IsPart s context initial rows
  pub known : (spot : VariableSpot) → Contains (owned_spots context (take n seats)) spot → Contains rows.variables spot

pub no_seats : (initial : WorldRows) (context : ℕ) (seats : List OwnedSeat) → SeatsAdded initial initial context seats 0
no_seats initial context seats = record { step = step_same initial; keeps = λ s a used. part_same s context initial a; known = λ spot c. empty spot c }

used_on : (s : Source) (initial rows : WorldRows) (spots : List VariableSpot) → IsGrown initial rows → AreUsed s initial spots → AreUsed s rows spots
used_on s initial rows spots grown used = record { each = λ spot c. subst (λ cs. IsUsedIn s cs (variable_of cs spot)) (sym grown.contexts) (used.each spot c) }

-- an element of the front that is one longer
front_cases : {X Y : Type 0} (f : X → Y) (xs : List X) (n : ℕ) (x : X) (y : Y) → slice_get xs n ≡ Some x → Contains (map f (take (suc n) xs)) y → Contains (map f (take n xs)) y ⊎ (y ≡ f x)
front_cases f xs n x y at c = let o : Origin f (take (suc n) xs) y = map_from f (take (suc n) xs) y c in go o (take_next n xs o.item o.is)
  where
    go : (o : Origin f (take (suc n) xs) y) → Contains (take n xs) o.item ⊎ (slice_get xs n ≡ Some o.item) → Contains (map f (take n xs)) y ⊎ (y ≡ f x)
    go o (inl d) = inl (subst (λ z. Contains (map f (take n xs)) z) o.same (map_has f (take n xs) o.item d))
    go o (inr e) = let i : Some o.item ≡ Some x = sym e ∙ at in let j : o.item ≡ x = cc in inr (sym o.same ∙ ap f j)

-- one seat more
pub next_seat : (initial rows new : WorldRows) (context : ℕ) (seats : List OwnedSeat) (n : ℕ) (seat : OwnedSeat) → SeatsAdded initial rows context seats n → slice_get seats n ≡ Some seat → IsStep rows new →
    ((s : Source) → AreTables s (tables_of rows) → IsUsedIn s (contexts_of rows) (variable_of (contexts_of rows) (owned_spot context seat)) → IsPart s context rows new) →
    Contains new.variables (owned_spot context seat) → SeatsAdded initial new context seats (n + 1)
next_seat initial rows new context seats n seat so at step keeps there =
    record {
      step = step_on initial rows new so.step step;
      keeps = λ s a used. both s (so.keeps s a used) used;
      known = λ spot c. has spot (front_cases (owned_spot context) seats n seat spot at (subst (λ k. Contains (owned_spots context (take k seats)) spot) (add-one n) c));
    }
  where
    both : (s : Source) → IsPart s context initial rows → AreUsed s initial (owned_spots context seats) → IsPart s context initial new
    both s p used =
        part_on s context initial rows new so.step.grown p
        (keeps s p.tables ((used_on s initial rows (owned_spots context seats) so.step.grown used).each (owned_spot context seat) (map_has (owned_spot context) seats seat (got seats n seat at))))

    has : (spot : VariableSpot) → Contains (owned_spots context (take n seats)) spot ⊎ (spot ≡ owned_spot context seat) → Contains new.variables spot
    has spot (inl d) = variable_stays rows new step.grown spot (so.known spot d)
    has spot (inr e) = subst (λ x. Contains new.variables x) (sym e) there

-- where a refusal leaves the seats
pub seat_refused : (s : Source) (initial rows new : WorldRows) (context : ℕ) (seats : List OwnedSeat) (n : ℕ) (seat : OwnedSeat) → SeatsAdded initial rows context seats n → slice_get seats n ≡ Some seat →
    ((s : Source) → AreTables s (tables_of rows) → IsUsedIn s (contexts_of rows) (variable_of (contexts_of rows) (owned_spot context seat)) → IsPart s context rows new) →
    AreTables s (tables_of initial) → AreUsed s initial (owned_spots context seats) → IsPart s context initial new
seat_refused s initial rows new context seats n seat so at keeps a used =
    let p : IsPart s context initial rows = so.keeps s a used in
    part_on s context initial rows new so.step.grown p
    (keeps s p.tables ((used_on s initial rows (owned_spots context seats) so.step.grown used).each (owned_spot context seat) (map_has (owned_spot context) seats seat (got seats n seat at))))

-- ---- the readings of an instruction

-- what is read at a place of a context is used there
pub reads_used : (s : Source) (compiled : Compiled) (rows : WorldRows) (spot : PointSpot) (reading : SeatReading) → IsKept rows → IsSourceOf s compiled → IsPlaceOf compiled rows spot →
    Contains (readings_of compiled (contexts_of rows) spot) reading → AreUsed s rows (owned_spots spot.context reading.seats)
reads_used s compiled rows spot reading kept source place read = record { each = λ v c. go (slice_get place.code.ops spot.place) refl v c (subst (λ o. Contains (readings_by compiled (the_context (contexts_of rows) spot.context) spot.depth o) reading) op_is read) }
  where
    op_is : op_at compiled.program (the_context (contexts_of rows) spot.context) spot.place ≡ slice_get place.code.ops spot.place
    op_is = ap (option_and_then (λ (code : Code). slice_get code.ops spot.place)) place.is_code.of

    of : code_of s.program (the_context (contexts_of rows) spot.context) ≡ Some place.code
    of = ap (λ p. code_of p (the_context (contexts_of rows) spot.context)) source.program ∙ place.is_code.of

    same : (o : Op) → readings compiled.program compiled.scopes (thread_of (the_context (contexts_of rows) spot.context)) spot.depth o ≡ readings_at s (the_context (contexts_of rows) spot.context) spot.depth o
    same o =
        ap (λ p. readings p compiled.scopes (thread_of (the_context (contexts_of rows) spot.context)) spot.depth o) (sym source.program)
        ∙ ap (λ n. readings s.program n (thread_of (the_context (contexts_of rows) spot.context)) spot.depth o) (sym source.scopes)

    go : (o : Option Op) → slice_get place.code.ops spot.place ≡ o → (v : VariableSpot) → Contains (owned_spots spot.context reading.seats) v →
        Contains (readings_by compiled (the_context (contexts_of rows) spot.context) spot.depth o) reading → IsUsedIn s (contexts_of rows) (variable_of (contexts_of rows) v)
    go None e v c r = empty reading r
    go (Some o) e v c r =
        let q : Origin (owned_spot spot.context) reading.seats v = map_from (owned_spot spot.context) reading.seats v c in
        let x : places.variable_of (the_context (contexts_of rows) spot.context) q.item ≡ variable_of (contexts_of rows) v = sym (owned_stands (contexts_of rows) spot.context q.item) ∙ ap (variable_of (contexts_of rows)) q.same in
        record {
          context = the_context (contexts_of rows) spot.context;
          known = known_context rows kept spot.context place.is_code.there;
          used = used_read (record { code = place.code; of = of; op = e; has_depth = place.has_depth }) (subst (λ rs. Contains rs reading) (same o) r)
              (subst (λ y. Contains (variables (the_context (contexts_of rows) spot.context) reading.seats) y) x (map_has (places.variable_of (the_context (contexts_of rows) spot.context)) reading.seats q.item q.is));
        }

-- the readings so far are of variables
pub record ReadingsAdded (compiled : Compiled) (initial rows : WorldRows) (spot : PointSpot) (answer : List SeatReading) (n : ℕ) : Type 0 where
  pub step : IsStep initial rows
  pub keeps : (s : Source) → IsWorld s compiled initial → IsPart s spot.context initial rows
  pub known : (reading : SeatReading) → Contains (take n answer) reading → AreKnown rows (owned_spots spot.context reading.seats)

pub no_readings : (compiled : Compiled) (initial : WorldRows) (spot : PointSpot) (answer : List SeatReading) → ReadingsAdded compiled initial initial spot answer 0
no_readings compiled initial spot answer = record { step = step_same initial; keeps = λ s w. part_same s spot.context initial w.tables; known = λ reading c. empty reading c }

known_on : (rows new : WorldRows) (spots : List VariableSpot) → IsGrown rows new → AreKnown rows spots → AreKnown new spots
known_on rows new spots grown known = record { each = λ spot c. variable_stays rows new grown spot (known.each spot c) }

module _ (compiled : Compiled) (initial rows new : WorldRows) (spot : PointSpot) (answer : List SeatReading) (n : ℕ) (reading : SeatReading)
    (kept : IsKept initial) (place : IsPlaceOf compiled initial spot) (is : answer ≡ readings_of compiled (contexts_of initial) spot)
    (so : ReadingsAdded compiled initial rows spot answer n) (at : slice_get answer n ≡ Some reading)
    (keeps : (s : Source) → AreTables s (tables_of rows) → AreUsed s rows (owned_spots spot.context reading.seats) → IsPart s spot.context rows new) where
  pub reading_keeps : (s : Source) → IsWorld s compiled initial → IsPart s spot.context initial new
  reading_keeps s w =
      let p : IsPart s spot.context initial rows = so.keeps s w in
      let read : Contains (readings_of compiled (contexts_of initial) spot) reading = subst (λ rs. Contains rs reading) is (got answer n reading at) in
      part_on s spot.context initial rows new so.step.grown p
      (keeps s p.tables (used_on s initial rows (owned_spots spot.context reading.seats) so.step.grown (reads_used s compiled initial spot reading kept w.source place read)))

  pub next_reading : IsStep rows new → AreKnown new (owned_spots spot.context reading.seats) → ReadingsAdded compiled initial new spot answer (n + 1)
  next_reading step here =
      record {
        step = step_on initial rows new so.step step;
        keeps = reading_keeps;
        known = λ other c. has other (take_next n answer other (subst (λ k. Contains (take k answer) other) (add-one n) c));
      }
    where
      has : (other : SeatReading) → Contains (take n answer) other ⊎ (slice_get answer n ≡ Some other) → AreKnown new (owned_spots spot.context other.seats)
      has other (inl d) = known_on rows new (owned_spots spot.context other.seats) step.grown (so.known other d)
      has other (inr e) = let i : Some other ≡ Some reading = sym e ∙ at in let j : other ≡ reading = cc in subst (λ r. AreKnown new (owned_spots spot.context r.seats)) (sym j) here

-- all readings are of variables at the end
pub all_readings : (compiled : Compiled) (initial rows : WorldRows) (spot : PointSpot) (answer : List SeatReading) (n : ℕ) → answer ≡ readings_of compiled (contexts_of initial) spot →
    ReadingsAdded compiled initial rows spot answer n → take n answer ≡ answer → HasReads compiled rows spot
all_readings compiled initial rows spot answer n is so all =
    record {
      each = λ reading variable c d. (so.known reading (subst (λ rs. Contains rs reading) (sym all) (subst (λ rs. Contains rs reading) (sym is) (subst (λ cs. Contains (readings_of compiled cs spot) reading) so.step.grown.contexts c)))).each variable d;
    }

-- ---- places

pub reads_on : (compiled : Compiled) (rows new : WorldRows) (spot : PointSpot) → IsGrown rows new → HasReads compiled rows spot → HasReads compiled new spot
reads_on compiled rows new spot grown has =
    record { each = λ reading variable c d. variable_stays rows new grown variable (has.each reading variable (subst (λ cs. Contains (readings_of compiled cs spot) reading) grown.contexts c) d) }

pub code_on : (compiled : Compiled) (rows new : WorldRows) (context : ℕ) (code : Code) → IsGrown rows new → IsCodeOf compiled rows context code → IsCodeOf compiled new context code
code_on compiled rows new context code grown is =
    record {
      there = subst (λ rs. context < length rs) (sym grown.rows) is.there;
      of = ap (λ cs. code_of compiled.program (the_context cs context)) grown.contexts ∙ is.of;
    }

pub place_at : (compiled : Compiled) (rows : WorldRows) (context place : ℕ) (code : Code) (spot : PointSpot) → IsCodeOf compiled rows context code → IsSpotAt code context place spot → IsPlaceOf compiled rows spot
place_at compiled rows context place code spot is at =
    record {
      code = code;
      is_code = subst (λ k. IsCodeOf compiled rows k code) (sym at.context_is) is;
      has_depth = subst (λ p. HasDepth code p spot.depth) (sym at.place_is) at.has_depth;
    }

-- the places so far have their variables
pub record PlacesRead (compiled : Compiled) (initial rows : WorldRows) (code : Code) (context place : ℕ) : Type 0 where
  pub step : IsStep initial rows
  pub keeps : (s : Source) → IsWorld s compiled initial → IsPart s context initial rows
  pub reads : HaveReads compiled rows code context place

pub no_places_read : (compiled : Compiled) (initial : WorldRows) (code : Code) (context : ℕ) → PlacesRead compiled initial initial code context 0
no_places_read compiled initial code context =
    record { step = step_same initial; keeps = λ s w. part_same s context initial w.tables; reads = record { each = λ spot c l. absurd (omega (arith, l)) } }

module _ (compiled : Compiled) (initial rows new : WorldRows) (code : Code) (context place : ℕ) (so : PlacesRead compiled initial rows code context place)
    (keeps : (s : Source) → IsWorld s compiled rows → IsPart s context rows new) where
  pub place_keeps : (s : Source) → IsWorld s compiled initial → IsPart s context initial new
  place_keeps s w =
      let p : IsPart s context initial rows = so.keeps s w in
      part_on s context initial rows new so.step.grown p (keeps s (record { source = w.source; tables = p.tables }))

  pub next_place_read : IsStep rows new → ((spot : PointSpot) → IsSpotAt code context place spot → HasReads compiled new spot) → PlacesRead compiled initial new code context (place + 1)
  next_place_read step here =
      record {
        step = step_on initial rows new so.step step;
        keeps = place_keeps;
        reads = record { each = λ spot c l. go spot c l (ℕ_discrete spot.place place) };
      }
    where
      go : (spot : PointSpot) → IsSpotAt code context spot.place spot → spot.place < place + 1 → Dec (spot.place ≡ place) → HasReads compiled new spot
      go spot c l (yes e) = here spot (subst (λ n. IsSpotAt code context n spot) e c)
      go spot c l (no n) = reads_on compiled rows new spot step.grown (so.reads.each spot c (omega (arith, l, n)))
