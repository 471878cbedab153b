-- An operator gives a value of a kind of its row.
use Rattle.std.proofs.Common.{◌≡◌, ℕ, zero, suc, ◌<◌, ◌%◌, Bool, true, false, ◌&&◌, ◌||◌, IsTrue, if◌then◌else◌, List, [], ◌∷◌, ◌++◌, length, Option, Some, None, slice_get, unwrap_or, Contains, refl, sym, subst, arith}
use Rattle.std.proofs.Math.Nat.{mod-lt}
use Rattle.std.specs.List.{list_all}
use Rattle.place_ids.specs.declared.operators.BinOp.{BinOp}
use Rattle.place_ids.specs.declared.operators.BinOp.TheVariants as bin
use Rattle.place_ids.specs.declared.operators.UnaryOp.{UnaryOp}
use Rattle.place_ids.specs.declared.operators.UnaryOp.TheVariants as sign
use Rattle.builtin_stubs.specs.declared.basic.Basic.{Basic}
use Rattle.builtin_stubs.specs.declared.basic.Basic.TheVariants as kind
use Rattle.builtin_stubs.specs.Operands.{fits, first_of, first_of_two}
use Rattle.builtin_stubs.specs.declared.operand.Operand.{Operand}
use Rattle.builtin_stubs.specs.Operators.{Rows, op_rows, op_kinds, unary_rows, unary_kinds, order_rows, order_kinds}
use Rattle.py_meaning.specs.Values.{Value}
use Rattle.py_meaning.specs.Objects as object
use Rattle.py_meaning.specs.Objects.{Object, object_at, kind_of, kind_of_object, is_unfollowed_at}
use Rattle.py_meaning.specs.Programs.{Program}
use Rattle.py_meaning.specs.Fresh.{of_kind}
use Rattle.py_meaning.specs.Contents.{Content, contents_at}
use Rattle.py_meaning.specs.Operators.{gathered, made, by_row, binary, unary, ordered}
use Rattle.py_meaning.specs.Actions.{Memory, Action, allocate, anything, one_of}
use Rattle.py_meaning.specs.KindLaws.{OperatorsKeepTheirRows, SignsKeepTheirRows, OrdersKeepTheirRows}
use Rattle.py_meaning.proofs.Ending.{Ends, Free, ends_all, ends_bind, ends_on, OfGiven, carried, OfKind, allocated}

-- ---- the kinds of rows

-- the kinds whose values are fresh
abbrev is_simple : Basic → Bool
is_simple kind.Bool = true
is_simple kind.Int = true
is_simple kind.Float = true
is_simple kind.Str = true
is_simple kind.Bytes = true
is_simple _ = false

-- the kinds that operators make
abbrev is_made : Basic → Bool
is_made kind.List = true
is_made kind.Tuple = true
is_made k = is_simple k

falsity : IsTrue false → ⊥
falsity e = cc

both : (a b : Bool) → IsTrue (a && b) → IsTrue a × IsTrue b
both true true h = (refl, refl)
both true false h = absurd (falsity h)
both false b h = absurd (falsity h)

abbrev OfRow : Option (List Basic) → Memory → Value → Type 0
OfRow o m x = (ks : List Basic) × (o ≡ Some ks) × Contains ks (kind_of m.heap x)

module _ (good : Basic → Bool) where
  -- at least one kind, and good ones alone
  abbrev are_good : List Basic → Bool
  are_good [] = false
  are_good (k ∷ ks) = list_all good (k ∷ ks)

  abbrev RowGood : Option (List Basic) → Type 0
  RowGood None = Unit {0}
  RowGood (Some ks) = IsTrue (are_good ks)

  here_or : (b : Bool) (ks : List Basic) (o : Option (List Basic)) → IsTrue (are_good ks) → RowGood o → RowGood (if b then Some ks else o)
  here_or true ks o h k = h
  here_or false ks o h k = k

  two_good : (rows : Rows) (left right : Basic) → IsTrue (list_all (λ r. are_good r.2) rows) → RowGood (first_of_two rows left right)
  two_good [] left right h = tt
  two_good (r ∷ rows) left right h =
      let parts : IsTrue (are_good r.2) × IsTrue (list_all (λ r. are_good r.2) rows) = both (are_good r.2) (list_all (λ r. are_good r.2) rows) h in
      here_or (fits r.0 left && fits r.1 right) r.2 (first_of_two rows left right) parts.0 (two_good rows left right parts.1)

  one_good : (rows : List (Operand × List Basic)) (k : Basic) → IsTrue (list_all (λ r. are_good r.1) rows) → RowGood (first_of rows k)
  one_good [] k h = tt
  one_good (r ∷ rows) k h =
      let parts : IsTrue (are_good r.1) × IsTrue (list_all (λ r. are_good r.1) rows) = both (are_good r.1) (list_all (λ r. are_good r.1) rows) h in
      here_or (fits r.0 k) r.1 (first_of rows k) parts.0 (one_good rows k parts.1)

  -- ---- one of the kinds

  abbrev Picked : List Basic → Option Basic → Type 0
  Picked ks o = (k : Basic) × (o ≡ Some k) × Contains ks k × IsTrue (good k)

  picked : (ks : List Basic) (i : ℕ) → i < length ks → IsTrue (list_all good ks) → Picked ks (slice_get ks i)
  picked [] i lt h = absurd (omega (arith, lt))
  picked (k ∷ ks) zero lt h = (k, refl, (0, lt, refl), (both (good k) (list_all good ks) h).0)
  picked (k ∷ ks) (suc i) lt h =
      let later : Picked ks (slice_get ks i) = picked ks i (omega (arith, lt)) (both (good k) (list_all good ks) h).1 in
      (later.0, later.1, (suc later.2.0, omega (arith, later.2.1), later.2.2), later.3)

  one_ends : (ks : List Basic) (m : Memory) → IsTrue (are_good ks) → Ends (λ _ o. Picked ks o) (one_of ks) m
  one_ends [] m h = absurd (falsity h)
  one_ends (k ∷ []) m h = picked (k ∷ []) 0 (omega arith) h
  one_ends (k ∷ j ∷ ks) m h = (tt, λ c. picked (k ∷ j ∷ ks) (c % length (k ∷ j ∷ ks)) (mod-lt c (omega arith)) h)

  row_ends : (line : ℕ) (f : Basic → Action Value) (o : Option (List Basic)) (m : Memory) → RowGood o → ((k : Basic) (m' : Memory) → IsTrue (good k) → Ends (OfKind k) (f k) m') → Ends (OfRow o) (by_row line f o) m
  row_ends line f None m h each = (tt, (tt, tt, tt))
  row_ends line f (Some ks) m h each =
      ends_bind (λ _ o. Picked ks o) (OfRow (Some ks)) (one_of ks) (λ k. f (unwrap_or k kind.Other)) m (one_ends ks m h) (λ o m' one.
      let k : Basic = one.0 in
      let made_here : Ends (OfKind k) (f k) m' = each k m' one.3 in
      let wider : Ends (OfRow (Some ks)) (f k) m' = ends_on (OfKind k) (OfRow (Some ks)) (λ u x e. (ks, refl, subst (Contains ks) (sym e) one.2)) (f k) m' made_here in
      subst (λ q. Ends (OfRow (Some ks)) (f (unwrap_or q kind.Other)) m') (sym one.1) wider)

-- ---- the tables

op_good : (op : BinOp) → IsTrue (list_all (λ r. are_good is_made r.2) (op_rows op))
op_good bin.Add = refl
op_good bin.Sub = refl
op_good bin.Mul = refl
op_good bin.Div = refl
op_good bin.FloorDiv = refl
op_good bin.Mod = refl
op_good bin.MatMul = refl
op_good bin.Pow = refl
op_good bin.ShiftLeft = refl
op_good bin.ShiftRight = refl
op_good bin.BitAnd = refl
op_good bin.BitOr = refl
op_good bin.BitXor = refl

unary_good : (op : UnaryOp) → IsTrue (list_all (λ r. are_good is_simple r.1) (unary_rows op))
unary_good sign.Plus = refl
unary_good sign.Minus = refl
unary_good sign.Invert = refl

order_good : IsTrue (list_all (λ r. are_good is_simple r.2) order_rows)
order_good = refl

-- ---- what is made

simple_ends : (k : Basic) (m : Memory) → IsTrue (is_simple k) → Ends (OfKind k) (of_kind k) m
simple_ends kind.Bool m h = (tt, λ c. refl)
simple_ends kind.Int m h = (tt, λ c. refl)
simple_ends kind.Float m h = refl
simple_ends kind.Str m h = (tt, λ c. refl)
simple_ends kind.Bytes m h = (tt, λ c. refl)
simple_ends kind.NoneKind m h = absurd (falsity h)
simple_ends _ m h = absurd (falsity h)

made_ends : (p : Program) (op : BinOp) (site : ℕ) (cs : List Content) (k : Basic) (m : Memory) → IsTrue (is_made k) → Ends (OfKind k) (made p op k site cs) m
made_ends p op site cs kind.List m h =
    ends_bind Free (OfKind kind.List) (gathered p op cs) (λ vs. allocate (object.list site vs)) m (ends_all (gathered p op cs) m) (λ vs m' _. allocated (object.list site vs) m')
made_ends p op site cs kind.Tuple m h =
    ends_bind Free (OfKind kind.Tuple) (gathered p op cs) (λ vs. allocate (object.tuple site object.parts vs)) m (ends_all (gathered p op cs) m) (λ vs m' _. allocated (object.tuple site object.parts vs) m')
made_ends p op site cs kind.Bool m h = (tt, λ c. refl)
made_ends p op site cs kind.Int m h = (tt, λ c. refl)
made_ends p op site cs kind.Float m h = refl
made_ends p op site cs kind.Str m h = (tt, λ c. refl)
made_ends p op site cs kind.Bytes m h = (tt, λ c. refl)
made_ends p op site cs kind.NoneKind m h = absurd (falsity h)
made_ends p op site cs _ m h = absurd (falsity h)

neither : (a b : Bool) → a ≡ false → b ≡ false → (a || b) ≡ false
neither true b e f = cc
neither false b e f = f

pub operators_keep_their_rows : OperatorsKeepTheirRows
operators_keep_their_rows p t op site line v w x s u followed_left followed_right e =
    let heap : List Object = s.memory.heap in
    let row : Option (List Basic) = op_kinds op (kind_of heap v) (kind_of heap w) in
    let action : Action Value = by_row line (λ k. made p op k site (contents_at heap v ++ contents_at heap w)) row in
    let ends : Ends (OfRow row) action s.memory =
    row_ends is_made line (λ k. made p op k site (contents_at heap v ++ contents_at heap w)) row s.memory (two_good is_made (op_rows op) (kind_of heap v) (kind_of heap w) (op_good op))
    (λ k m h. made_ends p op site (contents_at heap v ++ contents_at heap w) k m h) in
    let whole : Ends (OfRow row) (binary p op site line v w) s.memory =
    subst (λ b. Ends (OfRow row) (if b then anything else action) s.memory) (sym (neither (is_unfollowed_at heap v) (is_unfollowed_at heap w) followed_left followed_right)) ends in
    subst (OfGiven (OfRow row)) e (carried t (OfRow row) (binary p op site line v w) s whole)

pub signs_keep_their_rows : SignsKeepTheirRows
signs_keep_their_rows t op line v x s u followed e =
    let heap : List Object = s.memory.heap in
    let row : Option (List Basic) = unary_kinds op (kind_of heap v) in
    let ends : Ends (OfRow row) (by_row line of_kind row) s.memory = row_ends is_simple line of_kind row s.memory (one_good is_simple (unary_rows op) (kind_of heap v) (unary_good op)) simple_ends in
    let whole : Ends (OfRow row) (unary op line v) s.memory = subst (λ b. Ends (OfRow row) (if b then anything else by_row line of_kind row) s.memory) (sym followed) ends in
    subst (OfGiven (OfRow row)) e (carried t (OfRow row) (unary op line v) s whole)

pub orders_keep_their_rows : OrdersKeepTheirRows
orders_keep_their_rows t line v w x s u followed_left followed_right e =
    let heap : List Object = s.memory.heap in
    let row : Option (List Basic) = order_kinds (kind_of heap v) (kind_of heap w) in
    let ends : Ends (OfRow row) (by_row line of_kind row) s.memory = row_ends is_simple line of_kind row s.memory (two_good is_simple order_rows (kind_of heap v) (kind_of heap w) order_good) simple_ends in
    let whole : Ends (OfRow row) (ordered line v w) s.memory =
    subst (λ b. Ends (OfRow row) (if b then anything else by_row line of_kind row) s.memory) (sym (neither (is_unfollowed_at heap v) (is_unfollowed_at heap w) followed_left followed_right)) ends in
    subst (OfGiven (OfRow row)) e (carried t (OfRow row) (ordered line v w) s whole)
