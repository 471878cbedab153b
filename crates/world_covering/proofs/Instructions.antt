-- Each instruction of the covered forms keeps a walk of the run.
use Rattle.std.proofs.Common.{◌≡◌, ℕ, zero, suc, ◌+◌, ◌≤◌, ◌<◌, Bool, true, false, not, Some, None, List, [], ◌∷◌, length, slice_get, refl, sym, subst, arith, if◌then◌else◌}
use Rattle.std.specs.List.{Contains}
use Rattle.place_ids.specs.declared.operators.BinOp.{BinOp}
use Rattle.place_ids.specs.declared.operators.CompareOp.{CompareOp}
use Rattle.place_ids.specs.declared.operators.UnaryOp.{UnaryOp}
use Rattle.py_tree.specs.declared.literal.Literal.{Literal}
use Rattle.py_tree.specs.declared.literal.Literal.TheVariants as literal
use Rattle.stack_code.specs.declared.op.Op.{Op}
use Rattle.stack_code.specs.declared.op.Op.TheVariants as op
use Rattle.stack_code.specs.Effects.{effect_of, falls, may_raise, depth_after}
use Rattle.graph_walks.specs.Worlds.{MayBeTrue, MayBeFalse}
use Rattle.graph_walks.specs.Walks.{Answers, unasked, passes}
use Rattle.graph_walks.proofs.Lists.{first}
use Rattle.abstract_shapes.specs.Shapes as shape
use Rattle.abstract_shapes.specs.Shapes.{Shape}
use Rattle.tree_code.specs.Names.{kind_of}
use Rattle.world_rules.specs.declared.row.Yield.TheVariants as yields
use Rattle.world_rules.specs.declared.transfer.SeatReading.{SeatReading}
use Rattle.world_rules.specs.declared.transfer.Transfer.{Transfer}
use Rattle.world_rules.specs.declared.transfer.Transfer.TheVariants as transfer
use Rattle.world_rules.specs.Places.{Context, main, Variable, slot, global, thread_of, written}
use Rattle.world_rules.specs.Sources.{Source}
use Rattle.world_rules.specs.Branches.{fall_test, ask_top, is_call}
use Rattle.world_rules.specs.Items.{Item, Agree, variables, world_of}
use Rattle.world_rules.specs.Readings.{slot_below, constant}
use Rattle.world_rules.specs.Rows.{row_of, made}
use Rattle.world_rules.specs.Rules.{readings_at, IsClosed}
use Rattle.py_meaning.specs.Values.{Value, literal_value, truth}
use Rattle.py_meaning.specs.Objects as object
use Rattle.py_meaning.specs.Programs.{Program}
use Rattle.py_meaning.specs.Truth.{truth_of}
use Rattle.py_meaning.specs.Operators as meaning
use Rattle.py_meaning.specs.Targets.{in_place}
use Rattle.py_meaning.specs.Actions.{Memory, Action, gives, bind}
use Rattle.py_meaning.specs.Holds.{Holds}
use Rattle.tree_covering.specs.Trails.{Trail, Around, OpIn, ValueAt, SentOver}
use Rattle.tree_covering.specs.Turns.{account}
use Rattle.tree_covering.specs.Follows.{Gives, ChoiceAt}
use Rattle.world_covering.specs.Standing.{Stands, a_none, a_true, a_false, an_int, a_float, a_text, some_bytes}
use Rattle.world_covering.specs.RowLaws.{Stays, Gave, IsFaultOf, Keeps, Passes}
use Rattle.world_covering.specs.Keeping.{code_in, IsSeated, Kept}
use Rattle.world_covering.proofs.RowsHold.{rows_hold}
use Rattle.world_covering.proofs.Rows.{gave}
use Rattle.world_covering.proofs.Seats.{seat_of}
use Rattle.world_covering.proofs.Steps.{pending_at, reported, pushes, drops, leaps}
use Rattle.world_covering.proofs.Trails.{IsTold, covering, along}
use Rattle.world_covering.proofs.Truths.{tested}

module _ (s : Source) (items : List Item) (error : ℕ) (closed : IsClosed s items) where
  abbrev t : Trail
  t = covering s items error

  abbrev IsKept : Around t → ℕ → List Value → Memory → Type 0
  IsKept x place stack m = Kept s items x.context x.since place stack m

  -- ---- two operands

  module _ (x : Around t) (o : Op) (rule : Transfer) (v w : Value) (action : ℕ → Action Value) (may : may_raise o ≡ true) (f : falls o ≡ true) (n : is_call o ≡ false) (q : fall_test o ≡ None)
      (needs : (d : ℕ) → (effect_of o).needs ≤ suc (suc d)) (after : (d : ℕ) → depth_after o (suc (suc d)) ≡ suc d) (writes : (d : ℕ) → written s.program x.context (suc (suc d)) o ≡ Some (slot x.context d))
      (reads : (d : ℕ) → readings_at s x.context (suc (suc d)) o ≡ record { seats = slot_below (suc (suc d)) 1 ∷ slot_below (suc (suc d)) 0 ∷ []; transfer = rule } ∷ [])
      (keeps : (line : ℕ) (tv tw : Shape) (m : Memory) → Stands m.heap v tv → Stands m.heap w tw → Keeps rule (tv ∷ tw ∷ []) line m (action line)) where
    two_operands : Gives t x o (w ∷ v ∷ []) action
    two_operands place line stack g m l k =
        let shapes : List Shape = k.slots.1.0.shape ∷ k.slots.0.shape ∷ [] in
        let d : ℕ = length stack in
        let r : SeatReading = record { seats = slot_below (suc (suc d)) 1 ∷ slot_below (suc (suc d)) 0 ∷ []; transfer = rule } in
        let is : Contains (readings_at s x.context (suc (suc d)) o) r = subst (λ z. Contains z r) (sym (reads d)) (first r []) in
        let agree : Agree (variables x.context r.seats) shapes k.shapes = (k.slots.1.0.has, (k.slots.0.has, tt)) in
        along s items error (IsFaultOf (row_of rule shapes) line) (λ h e told. subst (λ z. IsTold s items error h z) (sym told.told) (reported s items x.since x.context place line x.outer o (w ∷ v ∷ stack) m r shapes told.found l k is agree told.has))
        (λ g later u. Gave (row_of rule shapes) shapes m later u) (λ g later u. Stays m later) (ValueAt t x (suc place) stack) (SentOver t x stack)
        (λ later u gives. pushes s items x.since closed x.context place line x.outer o (w ∷ v ∷ stack) m l k (needs d) stack later u r shapes f n q (after d) (writes d) is agree k.slots.1.1 gives)
        (λ later u stays. pending_at s items x.since x.context place line x.outer o (w ∷ v ∷ []) stack m later l may k stays)
        (action line) m (keeps line k.slots.1.0.shape k.slots.0.shape m k.slots.1.0.stands k.slots.0.stands)

  -- ---- one operand

  module _ (x : Around t) (o : Op) (rule : Transfer) (v : Value) (action : ℕ → Action Value) (may : may_raise o ≡ true) (f : falls o ≡ true) (n : is_call o ≡ false) (q : fall_test o ≡ None)
      (needs : (d : ℕ) → (effect_of o).needs ≤ suc d) (after : (d : ℕ) → depth_after o (suc d) ≡ suc d) (writes : (d : ℕ) → written s.program x.context (suc d) o ≡ Some (slot x.context d))
      (reads : (d : ℕ) → readings_at s x.context (suc d) o ≡ record { seats = slot_below (suc d) 0 ∷ []; transfer = rule } ∷ [])
      (keeps : (line : ℕ) (tv : Shape) (m : Memory) → Stands m.heap v tv → Keeps rule (tv ∷ []) line m (action line)) where
    one_operand : Gives t x o (v ∷ []) action
    one_operand place line stack g m l k =
        let shapes : List Shape = k.slots.0.shape ∷ [] in
        let d : ℕ = length stack in
        let r : SeatReading = record { seats = slot_below (suc d) 0 ∷ []; transfer = rule } in
        let is : Contains (readings_at s x.context (suc d) o) r = subst (λ z. Contains z r) (sym (reads d)) (first r []) in
        let agree : Agree (variables x.context r.seats) shapes k.shapes = (k.slots.0.has, tt) in
        along s items error (IsFaultOf (row_of rule shapes) line) (λ h e told. subst (λ z. IsTold s items error h z) (sym told.told) (reported s items x.since x.context place line x.outer o (v ∷ stack) m r shapes told.found l k is agree told.has))
        (λ g later u. Gave (row_of rule shapes) shapes m later u) (λ g later u. Stays m later) (ValueAt t x (suc place) stack) (SentOver t x stack)
        (λ later u gives. pushes s items x.since closed x.context place line x.outer o (v ∷ stack) m l k (needs d) stack later u r shapes f n q (after d) (writes d) is agree k.slots.1 gives)
        (λ later u stays. pending_at s items x.since x.context place line x.outer o (v ∷ []) stack m later l may k stays)
        (action line) m (keeps line k.slots.0.shape m k.slots.0.stands)

  -- ---- literals

  record LiteralStands (heap : List object.Object) (a : Literal) : Type 0 where
    shape : Shape
    is : made [] (constant (kind_of a)) ≡ Some shape
    stands : Stands heap (literal_value a) shape

  literal_stands : (heap : List object.Object) (a : Literal) → LiteralStands heap a
  literal_stands heap literal.NoneValue = record { shape = shape.none; is = refl; stands = a_none }
  literal_stands heap literal.TrueValue = record { shape = shape.true_value; is = refl; stands = a_true }
  literal_stands heap literal.FalseValue = record { shape = shape.false_value; is = refl; stands = a_false }
  literal_stands heap (literal.Int minus value) = record { shape = shape.int; is = refl; stands = an_int }
  literal_stands heap literal.Float = record { shape = shape.float; is = refl; stands = a_float }
  literal_stands heap (literal.Str empty) = record { shape = shape.str; is = refl; stands = a_text }
  literal_stands heap (literal.Bytes empty) = record { shape = shape.bytes; is = refl; stands = some_bytes }

  pub constant_kept : (x : Around t) (a : Literal) (place line : ℕ) (stack : List Value) (m : Memory) → OpIn t x place (op.Const (kind_of a)) line → IsKept x place stack m → IsKept x (suc place) (literal_value a ∷ stack) m
  constant_kept x a place line stack m l k =
      let made_of : LiteralStands m.heap a = literal_stands m.heap a in
      let r : SeatReading = record { seats = []; transfer = transfer.Makes (constant (kind_of a)) } in
      pushes s items x.since closed x.context place line x.outer (op.Const (kind_of a)) stack m l k (omega arith) stack m (literal_value a) r [] refl refl refl (omega arith) refl (first r []) tt k.slots
      (gave (row_of (transfer.Makes (constant (kind_of a))) []) [] m (literal_value a) (constant (kind_of a)) made_of.shape (first (constant (kind_of a)) []) made_of.is made_of.stands)

  -- ---- the stack alone

  pub copy_kept : (x : Around t) (place line below : ℕ) (stack : List Value) (v : Value) (m : Memory) → OpIn t x place (op.Pick below) line → slice_get stack below ≡ Some v → IsKept x place stack m → IsKept x (suc place) (v ∷ stack) m
  copy_kept x place line below stack v m l e k =
      let y : IsSeated k.shapes m.heap (slot x.context (Rattle.world_rules.specs.Places.slots_left (length stack) (suc below))) v = seat_of x.context k.shapes m.heap stack below v e k.slots in
      let r : SeatReading = record { seats = slot_below (length stack) below ∷ []; transfer = transfer.Copies } in
      pushes s items x.since closed x.context place line x.outer (op.Pick below) stack m l k (needs stack below v e) stack m v r (y.shape ∷ []) refl refl refl (omega arith) refl (first r []) (y.has, tt) k.slots
      (gave (row_of transfer.Copies (y.shape ∷ [])) (y.shape ∷ []) m v (yields.Read 0) y.shape (first (yields.Read 0) []) refl y.stands)
    where
      needs : (stack : List Value) (below : ℕ) (v : Value) → slice_get stack below ≡ Some v → below + 1 ≤ length stack
      needs [] below v e = cc
      needs (w ∷ stack) zero v e = omega arith
      needs (w ∷ stack) (suc below) v e = let h : below + 1 ≤ length stack = needs stack below v e in omega (arith, h)

  pub pop_kept : (x : Around t) (place line : ℕ) (stack : List Value) (v : Value) (m : Memory) → OpIn t x place op.Pop line → IsKept x place (v ∷ stack) m → IsKept x (suc place) stack m
  pop_kept x place line stack v m l k =
      drops s items x.since closed x.context place line x.outer op.Pop (v ∷ stack) m l k (omega arith) stack refl refl (omega arith) refl unasked k.slots.1

  -- ---- jumps and tests

  module _ (x : Around t) (place line goal : ℕ) (stack : List Value) (m : Memory) (fits : goal < length (code_in s x.context).ops) where
    pub jump_kept : OpIn t x place (op.Jump goal) line → IsKept x place stack m → IsKept x goal stack m
    jump_kept l k =
        leaps s items x.since closed x.context place line x.outer (op.Jump goal) stack m l k (omega arith) stack (record { goal = goal; on_jump = None; on_fall = None }) refl fits (omega arith) unasked k.slots

    module _ (v : Value) where
      -- the test of the top lets its shape pass
      asked : (k : IsKept x place (v ∷ stack) m) (b : Bool) → Passes k.slots.0.shape b → Answers (world_of s items) (ask_top x.context (suc (length stack)) (Some (if b then MayBeTrue else MayBeFalse))) k.shapes
      asked k true p = passes k.slots.0.shape k.slots.0.has p
      asked k false p = passes k.slots.0.shape k.slots.0.has p

      choice : (o : Op) (if_true if_false : ℕ) (on_true on_false : List Value) (k : IsKept x place (v ∷ stack) m) →
          (Passes k.slots.0.shape true → IsKept x if_true on_true m) → (Passes k.slots.0.shape false → IsKept x if_false on_false m) →
          Holds (account t) (ChoiceAt t x if_true if_false on_true on_false) (SentOver t x stack) tt m (truth_of v)
      choice o if_true if_false on_true on_false k on_yes on_no =
          along s items error (λ e. ⊥) (λ h e told. absurd told) (λ g later b. (later ≡ m) × Passes k.slots.0.shape b) (λ g later raised. ⊥) (ChoiceAt t x if_true if_false on_true on_false) (SentOver t x stack)
          (λ later b p. subst (λ z. ChoiceAt t x if_true if_false on_true on_false tt z b) (sym p.0) (go b p.1)) (λ later raised no. absurd no) (truth_of v) m (tested (λ e. ⊥) v k.slots.0.shape m k.slots.0.stands)
        where
          go : (b : Bool) → Passes k.slots.0.shape b → ChoiceAt t x if_true if_false on_true on_false tt m b
          go true p = on_yes p
          go false p = on_no p

      pub false_leaves : OpIn t x place (op.JumpIfFalse goal) line → IsKept x place (v ∷ stack) m → Holds (account t) (ChoiceAt t x (suc place) goal stack stack) (SentOver t x stack) tt m (truth_of v)
      false_leaves l k =
          choice (op.JumpIfFalse goal) (suc place) goal stack stack k
          (λ p. drops s items x.since closed x.context place line x.outer (op.JumpIfFalse goal) (v ∷ stack) m l k (omega arith) stack refl refl (omega arith) refl (asked k true p) k.slots.1)
          (λ p. leaps s items x.since closed x.context place line x.outer (op.JumpIfFalse goal) (v ∷ stack) m l k (omega arith) stack (record { goal = goal; on_jump = Some MayBeFalse; on_fall = Some MayBeTrue }) refl fits (omega arith) (asked k false p) k.slots.1)

      pub false_keeps : OpIn t x place (op.JumpIfFalseKeep goal) line → IsKept x place (v ∷ stack) m → Holds (account t) (ChoiceAt t x (suc place) goal stack (v ∷ stack)) (SentOver t x stack) tt m (truth_of v)
      false_keeps l k =
          choice (op.JumpIfFalseKeep goal) (suc place) goal stack (v ∷ stack) k
          (λ p. drops s items x.since closed x.context place line x.outer (op.JumpIfFalseKeep goal) (v ∷ stack) m l k (omega arith) stack refl refl (omega arith) refl (asked k true p) k.slots.1)
          (λ p. leaps s items x.since closed x.context place line x.outer (op.JumpIfFalseKeep goal) (v ∷ stack) m l k (omega arith) (v ∷ stack) (record { goal = goal; on_jump = Some MayBeFalse; on_fall = Some MayBeTrue }) refl fits (omega arith) (asked k false p) k.slots)

      pub true_keeps : OpIn t x place (op.JumpIfTrueKeep goal) line → IsKept x place (v ∷ stack) m → Holds (account t) (ChoiceAt t x goal (suc place) (v ∷ stack) stack) (SentOver t x stack) tt m (truth_of v)
      true_keeps l k =
          choice (op.JumpIfTrueKeep goal) goal (suc place) (v ∷ stack) stack k
          (λ p. leaps s items x.since closed x.context place line x.outer (op.JumpIfTrueKeep goal) (v ∷ stack) m l k (omega arith) (v ∷ stack) (record { goal = goal; on_jump = Some MayBeTrue; on_fall = Some MayBeFalse }) refl fits (omega arith) (asked k true p) k.slots)
          (λ p. drops s items x.since closed x.context place line x.outer (op.JumpIfTrueKeep goal) (v ∷ stack) m l k (omega arith) stack refl refl (omega arith) refl (asked k false p) k.slots.1)

      pub true_leaves : OpIn t x place (op.JumpIfTrue goal) line → IsKept x place (v ∷ stack) m → Holds (account t) (ChoiceAt t x goal (suc place) stack stack) (SentOver t x stack) tt m (truth_of v)
      true_leaves l k =
          choice (op.JumpIfTrue goal) goal (suc place) stack stack k
          (λ p. leaps s items x.since closed x.context place line x.outer (op.JumpIfTrue goal) (v ∷ stack) m l k (omega arith) stack (record { goal = goal; on_jump = Some MayBeTrue; on_fall = Some MayBeFalse }) refl fits (omega arith) (asked k true p) k.slots.1)
          (λ p. drops s items x.since closed x.context place line x.outer (op.JumpIfTrue goal) (v ∷ stack) m l k (omega arith) stack refl refl (omega arith) refl (asked k false p) k.slots.1)

  -- ---- operators

  pub binary_kept : (x : Around t) (p : Program) (o : BinOp) (site : ℕ) (v w : Value) → Gives t x (op.Binary o site) (w ∷ v ∷ []) (λ line. meaning.binary p o site line v w)
  binary_kept x p o site v w =
      two_operands x (op.Binary o site) (transfer.Combines o site) v w (λ line. meaning.binary p o site line v w) refl refl refl refl (λ d. omega arith) (λ d. omega arith) (λ d. refl) (λ d. refl) (λ line tv tw m a b. rows_hold.binary p o site line v w tv tw m a b)

  pub in_place_kept : (x : Around t) (p : Program) (o : BinOp) (site : ℕ) (v w : Value) → Gives t x (op.InPlace o site) (w ∷ v ∷ []) (λ line. in_place p o site line v w)
  in_place_kept x p o site v w =
      two_operands x (op.InPlace o site) (transfer.Changes o site) v w (λ line. in_place p o site line v w) refl refl refl refl (λ d. omega arith) (λ d. omega arith) (λ d. refl) (λ d. refl) (λ line tv tw m a b. rows_hold.in_place p o site line v w tv tw m a b)

  pub compare_kept : (x : Around t) (o : CompareOp) (v w : Value) → Gives t x (op.Compare o) (w ∷ v ∷ []) (λ line. meaning.compare o line v w)
  compare_kept x o v w =
      two_operands x (op.Compare o) (transfer.Compares o) v w (λ line. meaning.compare o line v w) refl refl refl refl (λ d. omega arith) (λ d. omega arith) (λ d. refl) (λ d. refl) (λ line tv tw m a b. rows_hold.compare o line v w tv tw m a b)

  pub unary_kept : (x : Around t) (o : UnaryOp) (v : Value) → Gives t x (op.Unary o) (v ∷ []) (λ line. meaning.unary o line v)
  unary_kept x o v =
      one_operand x (op.Unary o) (transfer.Applies o) v (λ line. meaning.unary o line v) refl refl refl refl (λ d. omega arith) (λ d. omega arith) (λ d. refl) (λ d. refl) (λ line tv m a. rows_hold.unary o line v tv m a)

  pub not_kept : (x : Around t) (v : Value) → Gives t x op.Not (v ∷ []) (λ line. bind (truth_of v) (λ b. gives (truth (not b))))
  not_kept x v place line stack g m l k =
      let shapes : List Shape = k.slots.0.shape ∷ [] in
      let r : SeatReading = record { seats = slot_below (suc (length stack)) 0 ∷ []; transfer = transfer.Negates } in
      along s items error (λ e. ⊥) (λ h e told. absurd told)
      (λ g later u. Gave (row_of transfer.Negates shapes) shapes m later u) (λ g later u. ⊥) (ValueAt t x (suc place) stack) (SentOver t x stack)
      (λ later u gives. pushes s items x.since closed x.context place line x.outer op.Not (v ∷ stack) m l k (omega arith) stack later u r shapes refl refl refl (omega arith) refl (first r []) (k.slots.0.has, tt) k.slots.1 gives)
      (λ later u never. absurd never) (bind (truth_of v) (λ b. gives (truth (not b)))) m (rows_hold.inverts v k.slots.0.shape m k.slots.0.stands)
