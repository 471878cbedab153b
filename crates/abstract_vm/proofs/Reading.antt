-- What the choices of a reading tell is what it tells by structure.
use Rattle.std.proofs.Common.{◌≡◌, inl, inr, ℕ, ◌<◌, Some, List, length, slice_get, map, sym, ap, subst, ◌∙◌}
use Rattle.std.specs.List.{Contains}
use Rattle.graph_walks.specs.Backs.{Seen}
use Rattle.graph_walks.proofs.Lists.{got}
use Rattle.stack_code.specs.declared.op.Op.{Op}
use Rattle.typegraph.specs.declared.goals.Binding.{Binding}
use Rattle.typegraph.specs.Maps.{look}
use Rattle.goal_solver.specs.Graphs as numbers
use Rattle.abstract_shapes.specs.Shapes.{Shape}
use Rattle.world_rules.specs.declared.transfer.SeatReading.{SeatReading}
use Rattle.world_rules.specs.Places.{Variable, op_at}
use Rattle.world_rules.specs.Items.{variables}
use Rattle.world_rules.specs.Sources.{Source}
use Rattle.world_rules.specs.Rows.{row_of}
use Rattle.world_rules.specs.Rules.{Fires}
use Rattle.world_tables.specs.declared.spot.PointSpot.{PointSpot}
use Rattle.world_tables.specs.Tables.{items_of}
use Rattle.world_tables.specs.Rows.{contexts_of, variable_of, IsSpotThere, IsKept}
use Rattle.context_code.specs.Readings.{readings_of}
use Rattle.context_code.specs.Seats.{owned_spots, IsOneMissing}
use Rattle.world_queries.specs.Choices.{AreNumbersOf, shapes_by, IsChoice}
use Rattle.world_queries.specs.Queries.{StandsAt, IsReadBy, HasSeenChoice, HasHeavyChoice}
use Rattle.abstract_vm.specs.declared.judging.Judging.{Judging}
use Rattle.abstract_vm.specs.declared.verdict.Verdict.{Verdict}
use Rattle.abstract_vm.specs.Marks.{Mark, a_fault, is_unchecked, is_heavy, SaysToo}
use Rattle.abstract_vm.specs.Telling.{asked, Asked, RowTells, ChoicesTell}
use Rattle.abstract_vm.specs.Asking.{IsAsked, tables_in, context_at, FiresTelling, ReadingTells}
use Rattle.abstract_vm.proofs.Saying.{nothing_more, same_more}
use Rattle.abstract_vm.proofs.Standing.{HasOp, op_of, stands_at, readings_are}
use Rattle.abstract_vm.proofs.Missing.{one_number, numbers_as, none_numbered}

module _ (s : Source) (j : Judging) (spot : PointSpot) (same_program : s.program ≡ j.program.now.program) (reading : SeatReading) where
  abbrev a : Asked
  a = asked j s.budget

  module _ (op : Op) (stands : StandsAt s (tables_in j) j.point (context_at j spot) spot.place spot.depth op) (vars : List ℕ) (read : IsReadBy s (tables_in j) (context_at j spot) spot.depth op reading vars)
      (fires : (ids : List ℕ) (goals : List Binding) → IsChoice (tables_in j).graph vars ids goals → Seen (numbers.world_of (tables_in j).graph) j.point (look goals) s.budget →
      Fires s (items_of (tables_in j)) (context_at j spot) spot.place spot.depth reading (shapes_by (tables_in j) ids))
      (found : (shapes : List Shape) → Fires s (items_of (tables_in j)) (context_at j spot) spot.place spot.depth reading shapes → HasSeenChoice s (tables_in j) j.point vars shapes)
      (once : (others : List ℕ) → AreNumbersOf (tables_in j) others (variables (context_at j spot) reading.seats) → others ≡ vars) where
    -- a choice that is seen fires
    fired : (m : Mark) (ids : List ℕ) (goals : List Binding) → IsChoice (tables_in j).graph vars ids goals → Seen (numbers.world_of (tables_in j).graph) j.point (look goals) s.budget →
        RowTells j.program.now.program (row_of reading.transfer (shapes_by (tables_in j) ids)) (shapes_by (tables_in j) ids) m → FiresTelling s j spot reading m
    fired m ids goals is seen h =
        record {
          shapes = shapes_by (tables_in j) ids;
          fires = fires ids goals is seen;
          tells = subst (λ p. RowTells p (row_of reading.transfer (shapes_by (tables_in j) ids)) (shapes_by (tables_in j) ids) m) (sym same_program) h;
        }

    chosen : (m : Mark) → FiresTelling s j spot reading m → ChoicesTell a reading.transfer vars m
    chosen m h =
        let f : HasSeenChoice s (tables_in j) j.point vars h.shapes = found h.shapes h.fires in
        record {
          ids = f.ids;
          goals = f.goals;
          is = f.is;
          tells = inl (f.seen, subst (λ shapes. RowTells j.program.now.program (row_of reading.transfer shapes) shapes m) (sym f.shapes_are) (subst (λ p. RowTells p (row_of reading.transfer h.shapes) h.shapes m) same_program h.tells));
        }

    to : (m : Mark) → ChoicesTell a reading.transfer vars m → ReadingTells s j spot reading m
    to (a_fault f) h = elim h.tells [ inl t ↦ fired (a_fault f) h.ids h.goals h.is t.0 t.1 | inr t ↦ absurd t ]
    to is_unchecked h = elim h.tells [ inl t ↦ fired is_unchecked h.ids h.goals h.is t.0 t.1 | inr t ↦ absurd t ]
    to is_heavy h = elim h.tells [
      | inl t ↦ absurd t.1
      | inr t ↦ record { op = op; stands = stands; vars = vars; is = read; choice = record { ids = h.ids; goals = h.goals; is = h.is; heavy = t } }
    ]

    from : (m : Mark) → ReadingTells s j spot reading m → ChoicesTell a reading.transfer vars m
    from (a_fault f) h = chosen (a_fault f) h
    from is_unchecked h = chosen is_unchecked h
    from is_heavy h =
        let c : HasHeavyChoice s (tables_in j) j.point vars = subst (HasHeavyChoice s (tables_in j) j.point) (once h.vars h.is.numbers_are) h.choice in
        record { ids = c.ids; goals = c.goals; is = c.is; tells = inr c.heavy }

    pub reading_more : (v w : Verdict) → SaysToo (ChoicesTell a reading.transfer vars) v w → SaysToo (ReadingTells s j spot reading) v w
    reading_more v w t = same_more _ _ v w (λ m. (to m, from m)) t

  -- a reading one of whose seats is no variable tells nothing
  module _ (numbered : (shapes : List Shape) → Fires s (items_of (tables_in j)) (context_at j spot) spot.place spot.depth reading shapes → (vars : List ℕ) × AreNumbersOf (tables_in j) vars (variables (context_at j spot) reading.seats))
      (missing : (vars : List ℕ) → AreNumbersOf (tables_in j) vars (variables (context_at j spot) reading.seats) → ⊥) where
    never : (m : Mark) → ReadingTells s j spot reading m → ⊥
    never (a_fault f) h = let n : (vars : List ℕ) × AreNumbersOf (tables_in j) vars (variables (context_at j spot) reading.seats) = numbered h.shapes h.fires in missing n.0 n.1
    never is_unchecked h = let n : (vars : List ℕ) × AreNumbersOf (tables_in j) vars (variables (context_at j spot) reading.seats) = numbered h.shapes h.fires in missing n.0 n.1
    never is_heavy h = missing h.vars h.is.numbers_are

    pub nothing_read : (v : Verdict) → SaysToo (ReadingTells s j spot reading) v v
    nothing_read v = nothing_more (ReadingTells s j spot reading) v never

-- ---- a reading, with the laws of queries at its point

module _ (s : Source) (j : Judging) (budget : ℕ) (spot : PointSpot) (known : IsAsked s j budget spot) (kept : IsKept j.tables.now) (reading : SeatReading)
    (is_reading : Contains (readings_of j.program.now (contexts_of j.tables.now) spot) reading)
    (fires : (op : Op) → StandsAt s (tables_in j) j.point (context_at j spot) spot.place spot.depth op → (vars : List ℕ) → IsReadBy s (tables_in j) (context_at j spot) spot.depth op reading vars →
    (ids : List ℕ) (goals : List Binding) → IsChoice (tables_in j).graph vars ids goals → Seen (numbers.world_of (tables_in j).graph) j.point (look goals) s.budget →
    Fires s (items_of (tables_in j)) (context_at j spot) spot.place spot.depth reading (shapes_by (tables_in j) ids))
    (found : (op : Op) → StandsAt s (tables_in j) j.point (context_at j spot) spot.place spot.depth op → (vars : List ℕ) → AreNumbersOf (tables_in j) vars (variables (context_at j spot) reading.seats) →
    (shapes : List Shape) → Fires s (items_of (tables_in j)) (context_at j spot) spot.place spot.depth reading shapes → HasSeenChoice s (tables_in j) j.point vars shapes)
    (numbered : (op : Op) → StandsAt s (tables_in j) j.point (context_at j spot) spot.place spot.depth op → (shapes : List Shape) → Fires s (items_of (tables_in j)) (context_at j spot) spot.place spot.depth reading shapes →
    (vars : List ℕ) × IsReadBy s (tables_in j) (context_at j spot) spot.depth op reading vars)
    (once : (xs : List Variable) (vars others : List ℕ) → AreNumbersOf (tables_in j) vars xs → AreNumbersOf (tables_in j) others xs → vars ≡ others)
    (spots_are : map (variable_of (contexts_of j.tables.now)) (owned_spots spot.context reading.seats) ≡ variables (context_at j spot) reading.seats) where
  o : HasOp (op_at j.program.now.program (context_at j spot) spot.place)
  o = op_of s j budget spot known reading is_reading

  its_stands : StandsAt s (tables_in j) j.point (context_at j spot) spot.place spot.depth o.op
  its_stands = stands_at s j budget spot known o.op o.is

  -- the numbers that are found are those of the variables that are read
  numbers_are : (vars : List ℕ) → map (slice_get j.tables.now.variables) vars ≡ map Some (owned_spots spot.context reading.seats) → AreNumbersOf (tables_in j) vars (variables (context_at j spot) reading.seats)
  numbers_are vars e =
      numbers_as (variable_of (contexts_of j.tables.now)) j.tables.now.variables vars (owned_spots spot.context reading.seats) e ∙ ap (map Some) spots_are

  pub with_vars : (vars : List ℕ) → map (slice_get j.tables.now.variables) vars ≡ map Some (owned_spots spot.context reading.seats) → (v w : Verdict) →
      SaysToo (ChoicesTell (asked j budget) reading.transfer vars) v w → SaysToo (ReadingTells s j spot reading) v w
  with_vars vars e v w t = reading_more s j spot known.source.program reading o.op its_stands vars read (fires o.op its_stands vars read) (found o.op its_stands vars read.numbers_are) same v w at_budget
    where
      read : IsReadBy s (tables_in j) (context_at j spot) spot.depth o.op reading vars
      read = record { is_reading = subst (λ rs. Contains rs reading) (readings_are s j budget spot known o.op o.is) is_reading; numbers_are = numbers_are vars e }

      same : (others : List ℕ) → AreNumbersOf (tables_in j) others (variables (context_at j spot) reading.seats) → others ≡ vars
      same others h = once (variables (context_at j spot) reading.seats) others vars h (numbers_are vars e)

      at_budget : SaysToo (ChoicesTell (asked j s.budget) reading.transfer vars) v w
      at_budget = subst (λ b. SaysToo (ChoicesTell (asked j b) reading.transfer vars) v w) (sym known.budget_is) t

  pub without_vars : IsOneMissing j.tables.now.variables (owned_spots spot.context reading.seats) → (v : Verdict) → SaysToo (ReadingTells s j spot reading) v v
  without_vars missing v = nothing_read s j spot known.source.program reading (λ shapes f. let n : (vars : List ℕ) × IsReadBy s (tables_in j) (context_at j spot) spot.depth o.op reading vars = numbered o.op its_stands shapes f in (n.0, n.1.numbers_are)) never_numbered v
    where
      count : length (contexts_of j.tables.now) ≡ length j.tables.now.graph.flow.contexts
      count = known.tables.numbering.context_count

      never_numbered : (vars : List ℕ) → AreNumbersOf (tables_in j) vars (variables (context_at j spot) reading.seats) → ⊥
      never_numbered vars h =
          none_numbered (contexts_of j.tables.now) (one_number (contexts_of j.tables.now) known.tables.contexts_once) j.tables.now.variables
          (λ x d. subst (IsSpotThere x) (sym count) (kept.variables_there x d)) spot.context
          (subst (λ n. spot.context < n) (sym count) (kept.points_there spot (got j.tables.now.points j.point spot known.stands))) reading.seats missing vars (h ∙ ap (map Some) (sym spots_are))
