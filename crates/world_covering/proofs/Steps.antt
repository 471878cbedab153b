-- A step of a run extends the walk that is kept of it by one edge.
use Rattle.std.proofs.Common.{◌≡◌, ◌≢◌, ℕ, suc, ◌≤◌, ◌<◌, Bool, true, false, Option, Some, None, List, [], ◌∷◌, ◌++◌, length, slice_get, unwrap_or, refl, sym, ap, subst, ◌∙◌, append_assoc, if◌then◌else◌}
use Rattle.std.specs.List.{Contains}
use Rattle.std.specs.Option.{option_and_then}
use Rattle.graph_walks.specs.Walks.{Walk, Answers, unasked}
use Rattle.stack_code.specs.declared.code.Range.{Range}
use Rattle.stack_code.specs.declared.op.Op.{Op}
use Rattle.stack_code.specs.Effects.{effect_of, falls, may_raise, depth_after, depth_at_goal}
use Rattle.abstract_shapes.specs.Shapes.{Shape}
use Rattle.tree_code.specs.Standing.{OpLies}
use Rattle.world_rules.specs.declared.finding.Fault.{Fault}
use Rattle.world_rules.specs.declared.finding.FaultText.{FaultText}
use Rattle.world_rules.specs.declared.transfer.SeatReading.{SeatReading}
use Rattle.world_rules.specs.Places.{Context, Variable, slot, global, same_variable, at, written, target_of}
use Rattle.world_rules.specs.Sources.{Source}
use Rattle.world_rules.specs.Branches.{Branch, branch, fall_test, ask_top, is_call}
use Rattle.world_rules.specs.Items.{Item, Agree, variables, world_of}
use Rattle.world_rules.specs.Rows.{row_of}
use Rattle.world_rules.specs.Rules.{HasPlace, Stands as OpStands, readings_at, it, IsClosed}
use Rattle.world_rules.specs.Findings.{IsReported, by_finding}
use Rattle.world_rules.specs.Memories.{updated}
use Rattle.world_rules.specs.Texts.{fault_text}
use Rattle.world_rules.proofs.Counted.{fall_place, jump_place}
use Rattle.world_rules.proofs.Same.{variable_equal}
use Rattle.world_rules.proofs.Extending.{assigns_on, passes_on, jumps_on, told}
use Rattle.py_meaning.specs.Values.{Value}
use Rattle.py_meaning.specs.Actions.{Memory}
use Rattle.world_covering.specs.RowLaws.{Stays, Gave}
use Rattle.world_covering.specs.Keeping.{Shapes, code_in, IsSeated, AreSeated, IsWithin, itself, owner_of, Entry, Leaves, Kept, Pending}
use Rattle.world_covering.proofs.Growing.{grows_on}
use Rattle.world_covering.proofs.Seats.{seat_on, seats_on, seats_below, at_new}

module _ (s : Source) (items : List Item) where
  -- ---- where the run stands

  pub code_is : (c : Context) (place depth : ℕ) → (h : HasPlace s c place depth) → code_in s c ≡ h.code
  code_is c place depth h = ap (λ o. unwrap_or o s.program.body) h.of

  abbrev pub op_stands : (c : Context) (place depth line : ℕ) (outer : Option Range) (o : Op) → HasPlace s c place depth → OpLies (code_in s c) place outer o line → OpStands s c place depth o
  op_stands c place depth line outer o h l = record { code = h.code; of = h.of; op = subst (λ z. slice_get z.ops place ≡ Some o) (code_is c place depth h) l.op_at; has_depth = h.has_depth }

  pub target_is : (c : Context) (place depth : ℕ) (o : Op) → OpStands s c place depth o → target_of s.program (at c place depth) ≡ written s.program c depth o
  target_is c place depth o st =
      ap (λ z. option_and_then (written s.program c depth) (option_and_then (λ code. slice_get code.ops place) z)) st.of
      ∙ ap (λ z. option_and_then (written s.program c depth) z) st.op

  pub next_place : (c : Context) (place depth line : ℕ) (outer : Option Range) (o : Op) → HasPlace s c place depth → OpLies (code_in s c) place outer o line → (effect_of o).needs ≤ depth → falls o ≡ true → HasPlace s c (suc place) (depth_after o depth)
  next_place c place depth line outer o h l needs f =
      fall_place s c place depth o (op_stands c place depth line outer o h l) needs f (subst (λ z. suc place < length z.ops) (code_is c place depth h) l.fits)

  goal_place : (c : Context) (place depth line : ℕ) (outer : Option Range) (o : Op) (b : Branch) → HasPlace s c place depth → OpLies (code_in s c) place outer o line → (effect_of o).needs ≤ depth → branch o ≡ Some b →
      b.goal < length (code_in s c).ops → HasPlace s c b.goal (depth_at_goal o depth)
  goal_place c place depth line outer o b h l needs e fits =
      jump_place s c place depth o b (op_stands c place depth line outer o h l) needs e (subst (λ z. b.goal < length z.ops) (code_is c place depth h) fits)

-- ---- what a context leaves as it was

pub leaves_on : (c : Context) (entered : Entry) (shapes : Shapes) (m later : Memory) → Stays m later → Leaves c entered shapes m → Leaves c entered shapes later
leaves_on c entered shapes m later g w =
    record { others = w.others; globals = λ apart. ap (λ z. z.globals) g.scope ∙ w.globals apart; heap = grows_on entered.heap m.heap later.heap w.heap g.heap }

-- a variable of its own changes
pub others_updated : (c : Context) (entered : Entry) (shapes : Shapes) (x : Variable) (t : Shape) → IsWithin c (owner_of x) → ((y : Variable) → (IsWithin c (owner_of y) → ⊥) → shapes y ≡ entered.shapes y) →
    (y : Variable) → (IsWithin c (owner_of y) → ⊥) → updated shapes x t y ≡ entered.shapes y
others_updated c entered shapes x t own others y apart = go (same_variable x y) refl
  where
    go : (b : Bool) → same_variable x y ≡ b → (if b then Some t else shapes y) ≡ entered.shapes y
    go true e = absurd (apart (subst (λ z. IsWithin c (owner_of z)) (variable_equal x y e) own))
    go false e = others y apart

module _ (s : Source) (items : List Item) (entered : Entry) where
  -- ---- only the heap has grown

  pub kept_on : (c : Context) (place : ℕ) (stack : List Value) (m later : Memory) → Stays m later → Kept s items c entered place stack m → Kept s items c entered place stack later
  kept_on c place stack m later g k =
      record {
        here = k.here;
        context = k.context;
        shapes = k.shapes;
        walk = k.walk;
        point = k.point;
        slots = seats_on c k.shapes m.heap later.heap stack g.heap k.slots;
        globals = λ n v e. seat_on k.shapes m.heap later.heap (global n) v g.heap (k.globals n v (ap (λ z. Rattle.py_meaning.specs.Values.entry z.globals n) (sym g.scope) ∙ e));
        leaves = leaves_on c entered k.shapes m later g k.leaves;
        frame = ap (λ z. z.frame) g.scope ∙ k.frame;
      }

  pub pending_at : (c : Context) (place line : ℕ) (outer : Option Range) (o : Op) (above stack : List Value) (m later : Memory) → OpLies (code_in s c) place outer o line → may_raise o ≡ true → Kept s items c entered place (above ++ stack) m → Stays m later → Pending s items c entered outer stack later
  pending_at c place line outer o above stack m later l may k g =
      record { place = place; above = above; op = o; kept = kept_on c place (above ++ stack) m later g k; stands = l.op_at; may = may; goes_to = l.handled }

  pub pending_under : (c : Context) (outer : Option Range) (u : Value) (stack : List Value) (m : Memory) → Pending s items c entered outer (u ∷ stack) m → Pending s items c entered outer stack m
  pending_under c outer u stack m q =
      record {
        place = q.place;
        above = q.above ++ u ∷ [];
        op = q.op;
        kept = subst (λ z. Kept s items c entered q.place z m) (sym (append_assoc q.above (u ∷ []) stack)) q.kept;
        stands = q.stands;
        may = q.may;
        goes_to = q.goes_to;
      }

  -- ---- what is found

  pub reported : (c : Context) (place line : ℕ) (outer : Option Range) (o : Op) (stack : List Value) (m : Memory) (r : SeatReading) (shapes : List Shape) (f : Fault) → OpLies (code_in s c) place outer o line → (k : Kept s items c entered place stack m) →
      Contains (readings_at s c (length stack) o) r → Agree (variables c r.seats) shapes k.shapes → (row_of r.transfer shapes).fault ≡ Some f → IsReported s items line
  reported c place line outer o stack m r shapes f l k is agree has =
      let st : OpStands s c place (length stack) o = op_stands s items c place (length stack) line outer o k.point l in
      let said : FaultText = fault_text s.program f shapes in
      by_finding (record { line = line; kind = said.kind; text = said.text }) refl (record {
        context = c;
        place = place;
        depth = length stack;
        on_line = ap (λ z. option_and_then (λ code. slice_get code.lines place) z) st.of ∙ subst (λ z. slice_get z.lines place ≡ Some line) (code_is s items c place (length stack) k.point) l.line_at;
        finds = told s items c place (length stack) o k.shapes k.context st k.walk r shapes is refl agree f has;
      })

  -- ---- steps

  module _ (closed : IsClosed s items) where
    module _ (c : Context) (place line : ℕ) (outer : Option Range) (o : Op) (before : List Value) (m : Memory) (l : OpLies (code_in s c) place outer o line) (k : Kept s items c entered place before m) (needs : (effect_of o).needs ≤ length before) where
      abbrev st : OpStands s c place (length before) o
      st = op_stands s items c place (length before) line outer o k.point l

      -- the instruction pushes a value of a shape that its row gives
      pub pushes : (stack : List Value) (later : Memory) (v : Value) (r : SeatReading) (shapes : List Shape) → falls o ≡ true → is_call o ≡ false → fall_test o ≡ None →
          depth_after o (length before) ≡ suc (length stack) → written s.program c (length before) o ≡ Some (slot c (length stack)) →
          Contains (readings_at s c (length before) o) r → Agree (variables c r.seats) shapes k.shapes → AreSeated c k.shapes m.heap stack → Gave (row_of r.transfer shapes) shapes m later v →
          Kept s items c entered (suc place) (v ∷ stack) later
      pushes stack later v r shapes f n q e w is agree slots g =
          let next : HasPlace s c (suc place) (depth_after o (length before)) = next_place s items c place (length before) line outer o k.point l needs f in
          let x : Variable = slot c (length stack) in
          record {
            here = k.here;
            context = k.context;
            shapes = updated k.shapes x g.shape;
            walk = subst (λ d. Walk (world_of s items) (at c (suc place) d) (updated k.shapes x g.shape)) e
                (assigns_on s items closed c place (length before) o k.shapes k.context st k.walk f n next (subst (λ z. Answers (world_of s items) (ask_top c (length before) z) k.shapes) (sym q) unasked)
                r shapes is refl agree g.yield g.shape g.among (it g.is) x (target_is s items c place (length before) o st ∙ w));
            point = subst (λ d. HasPlace s c (suc place) d) e next;
            slots = (record { shape = g.shape; has = at_new k.shapes x g.shape; stands = g.stands }, seats_below c k.shapes (length stack) g.shape later.heap stack (Rattle.std.proofs.Common.le_refl (length stack)) (seats_on c k.shapes m.heap later.heap stack g.stays.heap slots));
            globals = λ i u y. beside i u (k.globals i u (ap (λ z. Rattle.py_meaning.specs.Values.entry z.globals i) (sym g.stays.scope) ∙ y));
            leaves = record {
              others = others_updated c entered k.shapes x g.shape itself k.leaves.others;
              globals = λ apart. ap (λ z. z.globals) g.stays.scope ∙ k.leaves.globals apart;
              heap = grows_on entered.heap m.heap later.heap k.leaves.heap g.stays.heap;
            };
            frame = ap (λ z. z.frame) g.stays.scope ∙ k.frame;
          }
        where
          beside : (i : ℕ) (u : Value) → IsSeated k.shapes m.heap (global i) u → IsSeated (updated k.shapes (slot c (length stack)) g.shape) later.heap (global i) u
          beside i u a = let b : IsSeated k.shapes later.heap (global i) u = seat_on k.shapes m.heap later.heap (global i) u g.stays.heap a in record { shape = b.shape; has = b.has; stands = b.stands }

      -- it goes on, and writes nothing
      pub drops : (stack : List Value) → falls o ≡ true → is_call o ≡ false → depth_after o (length before) ≡ length stack → written s.program c (length before) o ≡ None →
          Answers (world_of s items) (ask_top c (length before) (fall_test o)) k.shapes → AreSeated c k.shapes m.heap stack → Kept s items c entered (suc place) stack m
      drops stack f n e w answers slots =
          let next : HasPlace s c (suc place) (depth_after o (length before)) = next_place s items c place (length before) line outer o k.point l needs f in
          record {
            here = k.here;
            context = k.context;
            shapes = k.shapes;
            walk = subst (λ d. Walk (world_of s items) (at c (suc place) d) k.shapes) e
                (passes_on s items closed c place (length before) o k.shapes k.shapes k.context st k.walk f n next answers (λ x t y. (λ z. writes x z, y)));
            point = subst (λ d. HasPlace s c (suc place) d) e next;
            slots = slots;
            globals = k.globals;
            leaves = k.leaves;
            frame = k.frame;
          }
        where
          writes : (x : Variable) → target_of s.program (at c place (length before)) ≡ Some x → ⊥
          writes x z = let no : None ≡ Some x = sym w ∙ sym (target_is s items c place (length before) o st) ∙ z in cc

      -- it jumps
      pub leaps : (stack : List Value) (b : Branch) → branch o ≡ Some b → b.goal < length (code_in s c).ops → depth_at_goal o (length before) ≡ length stack →
          Answers (world_of s items) (ask_top c (length before) b.on_jump) k.shapes → AreSeated c k.shapes m.heap stack → Kept s items c entered b.goal stack m
      leaps stack b e fits d answers slots =
          let goal : HasPlace s c b.goal (depth_at_goal o (length before)) = goal_place s items c place (length before) line outer o b k.point l needs e fits in
          record {
            here = k.here;
            context = k.context;
            shapes = k.shapes;
            walk = subst (λ n. Walk (world_of s items) (at c b.goal n) k.shapes) d (jumps_on s items closed c place (length before) o b k.shapes k.context st k.walk e goal answers);
            point = subst (λ n. HasPlace s c b.goal n) d goal;
            slots = slots;
            globals = k.globals;
            leaves = k.leaves;
            frame = k.frame;
          }
