-- The operations of the meaning against the rows of the rules. Both read the tables of builtins.
use Rattle.std.proofs.Common.{◌≡◌, ℕ, zero, suc, ◌<◌, ◌%◌, ◌||◌, Bool, true, false, List, [], ◌∷◌, ◌++◌, length, Option, Some, None, slice_get, unwrap_or, ◌⊎◌, inl, inr, refl, sym, ap, subst, ◌∙◌, arith, if◌then◌else◌}
use Rattle.std.specs.Prelude.{codes, pos, option_map}
use Rattle.std.specs.List.{Contains, flat_map, list_all}
use Rattle.std.proofs.lemmas.Nat.{mod_below}
use Rattle.std.proofs.lemmas.List.Elements.{Contains-append_left, Contains-append_right}
use Rattle.place_ids.specs.declared.operators.BinOp.{BinOp}
use Rattle.place_ids.specs.declared.operators.CompareOp.{CompareOp}
use Rattle.builtin_stubs.specs.declared.basic.Basic.{Basic}
use Rattle.builtin_stubs.specs.declared.basic.Basic.TheVariants as kind
use Rattle.builtin_stubs.specs.Operators.{op_kinds, order_kinds, looks_within}
use Rattle.type_terms.specs.Terms as type
use Rattle.graph_walks.proofs.Lists.{empty, first, later, first_or_later, got}
use Rattle.abstract_shapes.specs.Shapes as shape
use Rattle.abstract_shapes.specs.Shapes.{Shape}
use Rattle.world_rules.specs.declared.finding.Fault.{Fault}
use Rattle.world_rules.specs.declared.finding.Fault.TheVariants as faults
use Rattle.world_rules.specs.declared.row.TransferRow.{TransferRow}
use Rattle.world_rules.specs.declared.row.Yield.{Yield}
use Rattle.world_rules.specs.declared.row.Yield.TheVariants as yields
use Rattle.world_rules.specs.Operators as rules
use Rattle.world_rules.specs.Operators.{by_kinds, both_truths, unfollowed}
use Rattle.world_rules.specs.Rows.{made}
use Rattle.world_rules.specs.Traits.{traits_of, is_unfollowed, is_any, is_anything}
use Rattle.py_meaning.specs.Values as value
use Rattle.py_meaning.specs.Values.{Value, ref}
use Rattle.py_meaning.specs.Objects as object
use Rattle.py_meaning.specs.Objects.{Object, object_at, kind_of, is_unfollowed_at, is_anything_at}
use Rattle.py_meaning.specs.Events.{unsupported_operands}
use Rattle.py_meaning.specs.Programs.{Program}
use Rattle.py_meaning.specs.Fresh as fresh
use Rattle.py_meaning.specs.Contents.{Content, contents_at}
use Rattle.py_meaning.specs.Operators as meaning
use Rattle.py_meaning.specs.Actions.{Memory, Action, anything, one_of, fails, is_even, either_truth}
use Rattle.py_meaning.specs.Holds.{Account, Holds}
use Rattle.py_meaning.proofs.Holding.{holds_bind}
use Rattle.world_covering.specs.Standing.{Stands, a_none, a_true, a_false, an_int, a_float, a_text, some_bytes, from_outside, a_native}
use Rattle.world_covering.specs.RowLaws.{turnless, Stays, Gave, IsFaultOf}
use Rattle.world_covering.proofs.Growing.{got_last, at_object, stays_here, stays_new}
use Rattle.world_covering.proofs.Tables.{is_simple, are_simple, plain_kinds, both, op_simple, order_simple}

-- ---- what operators see of a value is what they see of its shape

pub record Sight (h : List Object) (v : Value) (t : Shape) : Type 0 where
  pub kind : kind_of h v ≡ (traits_of t).kind
  pub unfollowed : is_unfollowed_at h v ≡ is_unfollowed (traits_of t)
  pub anything : is_anything_at h v ≡ is_anything (traits_of t)
  pub never_any : is_any (traits_of t) ≡ false
  pub plain : Contains plain_kinds (traits_of t).kind

pub sight : (h : List Object) (v : Value) (t : Shape) → Stands h v t → Sight h v t
sight h _ _ (a_none) = record { kind = refl; unfollowed = refl; anything = refl; never_any = refl; plain = got plain_kinds 0 kind.NoneKind refl }
sight h _ _ (a_true) = record { kind = refl; unfollowed = refl; anything = refl; never_any = refl; plain = got plain_kinds 1 kind.Bool refl }
sight h _ _ (a_false) = record { kind = refl; unfollowed = refl; anything = refl; never_any = refl; plain = got plain_kinds 1 kind.Bool refl }
sight h _ _ (an_int) = record { kind = refl; unfollowed = refl; anything = refl; never_any = refl; plain = got plain_kinds 2 kind.Int refl }
sight h _ _ (a_float) = record { kind = refl; unfollowed = refl; anything = refl; never_any = refl; plain = got plain_kinds 3 kind.Float refl }
sight h _ _ (a_text) = record { kind = refl; unfollowed = refl; anything = refl; never_any = refl; plain = got plain_kinds 4 kind.Str refl }
sight h _ _ (some_bytes) = record { kind = refl; unfollowed = refl; anything = refl; never_any = refl; plain = got plain_kinds 5 kind.Bytes refl }
sight h _ _ (from_outside {place = place} e) =
    let o : object_at h place ≡ object.outside type.any = at_object h place (object.outside type.any) e in
    record { kind = ap object.kind_of_object o; unfollowed = ap object.is_unfollowed o; anything = ap object.is_anything o; never_any = refl; plain = got plain_kinds 6 kind.Other refl }
sight h _ _ (a_native {place = place} {number = number} e row) =
    let o : object_at h place ≡ object.foreign (object.builtin number) = at_object h place (object.foreign (object.builtin number)) e in
    record { kind = ap object.kind_of_object o; unfollowed = ap object.is_unfollowed o; anything = ap object.is_anything o; never_any = refl; plain = got plain_kinds 6 kind.Other refl }

-- ---- what a row gives

-- where nothing changes
pub gave : (row : TransferRow) (shapes : List Shape) (m : Memory) (v : Value) (y : Yield) (t : Shape) → Contains row.results y → made shapes y ≡ Some t → Stands m.heap v t → Gave row shapes m m v
gave row shapes m v y t c e st = record { stays = stays_here m; yield = y; among = c; shape = t; is = e; stands = st }

-- the account of a row's faults
abbrev pub row_account : TransferRow → ℕ → Account
row_account row line = turnless (IsFaultOf row line)

abbrev pub ByRow : TransferRow → List Shape → ℕ → Memory → Action Value → Type 0
ByRow row shapes line m action = Holds (row_account row line) (λ g later v. Gave row shapes m later v) (λ g later v. Stays m later) tt m action

module _ (row : TransferRow) (shapes : List Shape) (line : ℕ) (m : Memory) where
  pub either_gives : Contains row.results yields.TrueValue → Contains row.results yields.FalseValue → ByRow row shapes line m either_truth
  either_gives i j = (tt, λ c. go (is_even c))
    where
      go : (b : Bool) → Gave row shapes m m (value.truth b)
      go true = gave row shapes m (value.truth true) yields.TrueValue shape.true_value i refl a_true
      go false = gave row shapes m (value.truth false) yields.FalseValue shape.false_value j refl a_false

  -- a value of a kind without parts
  pub kind_gives : (k : Basic) → is_simple k ≡ true → ((y : Yield) → Contains (rules.of_kind k) y → Contains row.results y) → ByRow row shapes line m (fresh.of_kind k)
  kind_gives kind.Bool i r = either_gives (r yields.TrueValue (got both_truths 0 yields.TrueValue refl)) (r yields.FalseValue (got both_truths 1 yields.FalseValue refl))
  kind_gives kind.Int i r = (tt, λ c. gave row shapes m (value.whole (pos c)) yields.Int shape.int (r yields.Int (first yields.Int [])) refl an_int)
  kind_gives kind.Float i r = gave row shapes m value.float yields.Float shape.float (r yields.Float (first yields.Float [])) refl a_float
  kind_gives kind.Str i r = (tt, λ c. gave row shapes m (value.text (is_even c)) yields.Str shape.str (r yields.Str (first yields.Str [])) refl a_text)
  kind_gives kind.Bytes i r = (tt, λ c. gave row shapes m (value.octets (is_even c)) yields.Bytes shape.bytes (r yields.Bytes (first yields.Bytes [])) refl some_bytes)
  kind_gives kind.NoneKind i r = cc
  kind_gives kind.List i r = cc
  kind_gives kind.Dict i r = cc
  kind_gives kind.Tuple i r = cc
  kind_gives kind.View i r = cc
  kind_gives kind.Range i r = cc
  kind_gives kind.Exception i r = cc
  kind_gives kind.Other i r = cc

  pub anything_gives : Contains row.results yields.Ext → ByRow row shapes line m anything
  anything_gives i =
      (tt, tt, record { stays = stays_new m (object.outside type.any); yield = yields.Ext; among = i; shape = shape.ext; is = refl; stands = from_outside (got_last m.heap (object.outside type.any)) })

  fails_by : (f : Fault) → row.fault ≡ Some f → ByRow row shapes line m (fails {A = Value} line unsupported_operands)
  fails_by f e = (record { told = refl; found = f; has = e }, (tt, tt, stays_new m (object.outside (type.class (codes "TypeError")))))

-- ---- one law for whatever a table answers: the run takes one of its kinds, and the row has the shapes of all; no answer is a fault of both

-- one of some kinds
record Picked (ks : List Basic) (o : Option Basic) : Type 0 where
  kind : Basic
  is : o ≡ Some kind
  among : Contains ks kind
  simple : is_simple kind ≡ true

picked : (ks : List Basic) (i : ℕ) → list_all is_simple ks ≡ true → i < length ks → Picked ks (slice_get ks i)
picked [] i h lt = absurd (omega (arith, lt))
picked (k ∷ ks) zero h lt = record { kind = k; is = refl; among = first k ks; simple = (both (is_simple k) (list_all is_simple ks) h).0 }
picked (k ∷ ks) (suc i) h lt =
    let q : Picked ks (slice_get ks i) = picked ks i (both (is_simple k) (list_all is_simple ks) h).1 (omega (arith, lt)) in
    record { kind = q.kind; is = q.is; among = later k q.kind ks q.among; simple = q.simple }

abbrev PickedHere : List Basic → Memory → Unit {0} → Memory → Option Basic → Type 0
PickedHere ks m g later o = (later ≡ m) × Picked ks o

picks : (row : TransferRow) (line : ℕ) (ks : List Basic) (m : Memory) → are_simple (Some ks) ≡ true → Holds (row_account row line) (PickedHere ks m) (λ g later v. Stays m later) tt m (one_of ks)
picks row line [] m h = cc
picks row line (k ∷ []) m h = (refl, picked (k ∷ []) 0 h (omega arith))
picks row line (k ∷ j ∷ ks) m h = (tt, λ c. (refl, picked (k ∷ j ∷ ks) (c % suc (suc (length ks))) h (mod_below c (suc (suc (length ks))) (omega arith))))

of_one : (ks : List Basic) (k : Basic) (y : Yield) → Contains ks k → Contains (rules.of_kind k) y → Contains (flat_map rules.of_kind ks) y
of_one [] k y c d = empty k c
of_one (j ∷ ks) k y c d = go (first_or_later j k ks c) (of_one ks k y)
  where
    go : (k ≡ j) ⊎ Contains ks k → (Contains ks k → Contains (rules.of_kind k) y → Contains (flat_map rules.of_kind ks) y) → Contains (rules.of_kind j ++ flat_map rules.of_kind ks) y
    go (inl e) more = Contains-append_left (rules.of_kind j) (flat_map rules.of_kind ks) y (subst (λ z. Contains (rules.of_kind z) y) e d)
    go (inr e) more = Contains-append_right (rules.of_kind j) (flat_map rules.of_kind ks) y (more e d)

module _ (f : Fault) (shapes : List Shape) (line : ℕ) (step : Basic → Action Value) (steps : (k : Basic) → is_simple k ≡ true → step k ≡ fresh.of_kind k) (m : Memory) where
  by_table : (o : Option (List Basic)) → are_simple o ≡ true → ByRow (by_kinds f o) shapes line m (meaning.by_row line step o)
  by_table None h = fails_by (by_kinds f None) shapes line m f refl
  by_table (Some ks) h =
      let row : TransferRow = by_kinds f (Some ks) in
      holds_bind (row_account row line) (PickedHere ks m) (λ g later v. Gave row shapes m later v) (λ g later v. Stays m later) (one_of ks) (λ k. step (unwrap_or k kind.Other)) tt m (picks row line ks m h)
      (λ o g later q.
      subst (λ z. Holds (row_account row line) (λ g later v. Gave row shapes m later v) (λ g later v. Stays m later) tt z (step (unwrap_or o kind.Other))) (sym q.0)
      (subst (λ z. ByRow row shapes line m (step (unwrap_or z kind.Other))) (sym q.1.is)
      (subst (λ z. ByRow row shapes line m z) (sym (steps q.1.kind q.1.simple))
      (kind_gives row shapes line m q.1.kind q.1.simple (λ y c. of_one ks q.1.kind y q.1.among c)))))

  -- operands that aren't followed come first
  abbrev after_unfollowed : Bool → Bool → Option (List Basic) → TransferRow
  after_unfollowed any u o = if u then unfollowed any else by_kinds f o

  pub followed : (u : Bool) (o : Option (List Basic)) → are_simple o ≡ true → ByRow (after_unfollowed false u o) shapes line m (if u then anything else meaning.by_row line step o)
  followed true o h = anything_gives (unfollowed false) shapes line m (first yields.Ext [])
  followed false o h = by_table o h

pub kind_steps : (k : Basic) → is_simple k ≡ true → fresh.of_kind k ≡ fresh.of_kind k
kind_steps k h = refl

made_steps : (p : Program) (op : BinOp) (site : ℕ) (xs : List Content) (k : Basic) → is_simple k ≡ true → meaning.made p op k site xs ≡ fresh.of_kind k
made_steps p op site xs kind.Bool h = refl
made_steps p op site xs kind.Int h = refl
made_steps p op site xs kind.Float h = refl
made_steps p op site xs kind.Str h = refl
made_steps p op site xs kind.Bytes h = refl
made_steps p op site xs kind.NoneKind h = cc
made_steps p op site xs kind.List h = cc
made_steps p op site xs kind.Dict h = cc
made_steps p op site xs kind.Tuple h = cc
made_steps p op site xs kind.View h = cc
made_steps p op site xs kind.Range h = cc
made_steps p op site xs kind.Exception h = cc
made_steps p op site xs kind.Other h = cc

-- ---- operators of two operands

module _ (shapes : List Shape) (line : ℕ) (v w : Value) (t u : Shape) (m : Memory) (a : Sight m.heap v t) (b : Sight m.heap w u) where
  abbrev either_unfollowed : Bool
  either_unfollowed = is_unfollowed (traits_of t) || is_unfollowed (traits_of u)

  unfollowed_is : (is_unfollowed_at m.heap v || is_unfollowed_at m.heap w) ≡ either_unfollowed
  unfollowed_is = ap (λ z. z || is_unfollowed_at m.heap w) a.unfollowed ∙ ap (λ z. is_unfollowed (traits_of t) || z) b.unfollowed

  no_any : (is_any (traits_of t) || is_any (traits_of u)) ≡ false
  no_any = ap (λ z. z || is_any (traits_of u)) a.never_any ∙ b.never_any

  -- both sides by one table of pairs of kinds
  module _ (f : Fault) (step : Basic → Action Value) (steps : (k : Basic) → is_simple k ≡ true → step k ≡ fresh.of_kind k) (table : Basic → Basic → Option (List Basic))
      (simple : are_simple (table (traits_of t).kind (traits_of u).kind) ≡ true) where
    abbrev pair_row : Bool → TransferRow
    pair_row any = if either_unfollowed then unfollowed any else by_kinds f (table (traits_of t).kind (traits_of u).kind)

    abbrev acts : Bool → Basic → Basic → Action Value
    acts z k l = if z then anything else meaning.by_row line step (table k l)

    pair : ByRow (pair_row (is_any (traits_of t) || is_any (traits_of u))) shapes line m (acts (is_unfollowed_at m.heap v || is_unfollowed_at m.heap w) (kind_of m.heap v) (kind_of m.heap w))
    pair =
        subst (λ y. ByRow (pair_row y) shapes line m (acts (is_unfollowed_at m.heap v || is_unfollowed_at m.heap w) (kind_of m.heap v) (kind_of m.heap w))) (sym no_any)
        (subst (λ z. ByRow (pair_row false) shapes line m (acts z (kind_of m.heap v) (kind_of m.heap w))) (sym unfollowed_is)
        (subst (λ z. ByRow (pair_row false) shapes line m (acts either_unfollowed z (kind_of m.heap w))) (sym a.kind)
        (subst (λ z. ByRow (pair_row false) shapes line m (acts either_unfollowed (traits_of t).kind z)) (sym b.kind)
        (followed f shapes line step steps m either_unfollowed (table (traits_of t).kind (traits_of u).kind) simple))))

  pub by_operator : (f : Fault) (p : Program) (op : BinOp) (site : ℕ) → ByRow (rules.binary f op (traits_of t) (traits_of u)) shapes line m (meaning.binary p op site line v w)
  by_operator f p op site =
      pair f (λ k. meaning.made p op k site (contents_at m.heap v ++ contents_at m.heap w)) (made_steps p op site (contents_at m.heap v ++ contents_at m.heap w)) (op_kinds op)
      (op_simple op (traits_of t).kind (traits_of u).kind a.plain b.plain)

  pub by_order : (op : CompareOp) → ByRow (rules.ordered op (traits_of t) (traits_of u)) shapes line m (meaning.ordered line v w)
  by_order op = pair (faults.Compare op) fresh.of_kind kind_steps order_kinds (order_simple (traits_of t).kind (traits_of u).kind a.plain b.plain)

  -- ---- `in`

  looks : (op : CompareOp) (x y z : Bool) →
      ByRow (if x || y then rules.marked true (rules.gives both_truths) else if z then rules.gives both_truths else rules.faults (faults.Compare op)) shapes line m
      (if x || (y || z) then either_truth else fails line unsupported_operands)
  looks op true y z = either_gives (rules.marked true (rules.gives both_truths)) shapes line m (got both_truths 0 yields.TrueValue refl) (got both_truths 1 yields.FalseValue refl)
  looks op false true z = either_gives (rules.marked true (rules.gives both_truths)) shapes line m (got both_truths 0 yields.TrueValue refl) (got both_truths 1 yields.FalseValue refl)
  looks op false false true = either_gives (rules.gives both_truths) shapes line m (got both_truths 0 yields.TrueValue refl) (got both_truths 1 yields.FalseValue refl)
  looks op false false false = fails_by (rules.faults (faults.Compare op)) shapes line m (faults.Compare op) refl

  pub by_membership : (op : CompareOp) → ByRow (rules.within op (traits_of t) (traits_of u)) shapes line m (meaning.within line v w)
  by_membership op =
      subst (λ x. ByRow (rules.within op (traits_of t) (traits_of u)) shapes line m (if x || (is_unfollowed_at m.heap w || looks_within (kind_of m.heap v) (kind_of m.heap w)) then either_truth else fails line unsupported_operands)) (sym a.unfollowed)
      (subst (λ y. ByRow (rules.within op (traits_of t) (traits_of u)) shapes line m (if is_unfollowed (traits_of t) || (y || looks_within (kind_of m.heap v) (kind_of m.heap w)) then either_truth else fails line unsupported_operands)) (sym b.unfollowed)
      (subst (λ k. ByRow (rules.within op (traits_of t) (traits_of u)) shapes line m (if is_unfollowed (traits_of t) || (is_unfollowed (traits_of u) || looks_within k (kind_of m.heap w)) then either_truth else fails line unsupported_operands)) (sym a.kind)
      (subst (λ k. ByRow (rules.within op (traits_of t) (traits_of u)) shapes line m (if is_unfollowed (traits_of t) || (is_unfollowed (traits_of u) || looks_within (traits_of t).kind k) then either_truth else fails line unsupported_operands)) (sym b.kind)
      (looks op (is_unfollowed (traits_of t)) (is_unfollowed (traits_of u)) (looks_within (traits_of t).kind (traits_of u).kind)))))

  -- ---- `is`

  abbrev either_anything : Bool
  either_anything = is_anything (traits_of t) || is_anything (traits_of u)

  pub known : (f : Bool → Bool) (o : Option Bool) → ByRow (rules.gives (rules.known_truth (option_map f o))) shapes line m (meaning.known_truth f o)
  known f None = either_gives (rules.gives both_truths) shapes line m (got both_truths 0 yields.TrueValue refl) (got both_truths 1 yields.FalseValue refl)
  known f (Some z) = go (f z)
    where
      go : (y : Bool) → Gave (rules.gives (rules.truth_given y ∷ [])) shapes m m (value.truth y)
      go true = gave (rules.gives (yields.TrueValue ∷ [])) shapes m (value.truth true) yields.TrueValue shape.true_value (first yields.TrueValue []) refl a_true
      go false = gave (rules.gives (yields.FalseValue ∷ [])) shapes m (value.truth false) yields.FalseValue shape.false_value (first yields.FalseValue []) refl a_false
