-- All operations keep to the rows of their rules.
use Rattle.std.proofs.Common.{◌≡◌, ℕ, Bool, false, not, Option, Some, None, [], ◌∷◌, refl, sym, subst, if◌then◌else◌}
use Rattle.std.specs.Prelude.{option_map}
use Rattle.graph_walks.proofs.Lists.{got}
use Rattle.place_ids.specs.declared.operators.BinOp.{BinOp}
use Rattle.place_ids.specs.declared.operators.CompareOp.{CompareOp}
use Rattle.place_ids.specs.declared.operators.CompareOp.TheVariants as cmp
use Rattle.place_ids.specs.declared.operators.UnaryOp.{UnaryOp}
use Rattle.builtin_stubs.specs.declared.basic.Basic.{Basic}
use Rattle.builtin_stubs.specs.Operators.{unary_kinds}
use Rattle.type_terms.specs.Terms as type
use Rattle.abstract_shapes.specs.Shapes.{Shape}
use Rattle.world_rules.specs.declared.finding.Fault.TheVariants as faults
use Rattle.world_rules.specs.declared.row.TransferRow.{TransferRow}
use Rattle.world_rules.specs.declared.row.Yield.TheVariants as yields
use Rattle.world_rules.specs.declared.transfer.Transfer.TheVariants as transfer
use Rattle.world_rules.specs.Operators as rules
use Rattle.world_rules.specs.Operators.{both_truths, by_kinds, unfollowed}
use Rattle.world_rules.specs.Traits.{traits_of, is_unfollowed}
use Rattle.py_meaning.specs.Values.{Value, ref}
use Rattle.py_meaning.specs.Objects as object
use Rattle.py_meaning.specs.Objects.{Object, kind_of, is_unfollowed_at}
use Rattle.py_meaning.specs.Programs.{Program}
use Rattle.py_meaning.specs.Fresh as fresh
use Rattle.py_meaning.specs.Operators as meaning
use Rattle.py_meaning.specs.Targets.{in_place, in_place_object}
use Rattle.py_meaning.specs.Actions.{Memory, Action, anything, either_truth}
use Rattle.world_covering.specs.Standing.{Stands, a_none, a_true, a_false, an_int, a_float, a_text, some_bytes, from_outside, a_native}
use Rattle.world_covering.specs.RowLaws.{Keeps, RowsHold}
use Rattle.world_covering.proofs.Growing.{at_object}
use Rattle.world_covering.proofs.Rows.{Sight, sight, ByRow, either_gives, by_operator, by_order, by_membership, known, followed, kind_steps}
use Rattle.world_covering.proofs.Sameness.{same_is}
use Rattle.world_covering.proofs.Tables.{unary_simple}
use Rattle.world_covering.proofs.Truths.{tested, inverts}
use Rattle.world_covering.proofs.Unbound.{unbound_row}

-- ---- comparisons

module _ (line : ℕ) (v w : Value) (t u : Shape) (m : Memory) (a : Stands m.heap v t) (b : Stands m.heap w u) where
  abbrev Compared : CompareOp → Type 0
  Compared op = Keeps (transfer.Compares op) (t ∷ u ∷ []) line m (meaning.compare op line v w)

  by_equality : ByRow (rules.gives both_truths) (t ∷ u ∷ []) line m either_truth
  by_equality = either_gives (rules.gives both_truths) (t ∷ u ∷ []) line m (got both_truths 0 yields.TrueValue refl) (got both_truths 1 yields.FalseValue refl)

  by_identity : (f : Bool → Bool) → ByRow (rules.gives (rules.known_truth (option_map f (rules.is_same (traits_of t) (traits_of u))))) (t ∷ u ∷ []) line m (meaning.known_truth f (meaning.is_same m.heap v w))
  by_identity f =
      subst (λ o. ByRow (rules.gives (rules.known_truth (option_map f (rules.is_same (traits_of t) (traits_of u))))) (t ∷ u ∷ []) line m (meaning.known_truth f o)) (sym (same_is m.heap v w t u a b))
      (known (t ∷ u ∷ []) line v w t u m (sight m.heap v t a) (sight m.heap w u b) f (rules.is_same (traits_of t) (traits_of u)))

  itself : (o : Option Bool) → option_map (λ z. z) o ≡ o
  itself None = refl
  itself (Some z) = refl

  compared : (op : CompareOp) → Compared op
  compared cmp.Equal = by_equality
  compared cmp.NotEqual = by_equality
  compared cmp.Is =
      subst (λ o. ByRow (rules.gives (rules.known_truth o)) (t ∷ u ∷ []) line m (meaning.known_truth (λ z. z) (meaning.is_same m.heap v w))) (itself (rules.is_same (traits_of t) (traits_of u))) (by_identity (λ z. z))
  compared cmp.IsNot = by_identity not
  compared cmp.Within = by_membership (t ∷ u ∷ []) line v w t u m (sight m.heap v t a) (sight m.heap w u b) cmp.Within
  compared cmp.NotWithin = by_membership (t ∷ u ∷ []) line v w t u m (sight m.heap v t a) (sight m.heap w u b) cmp.NotWithin
  compared cmp.Less = by_order (t ∷ u ∷ []) line v w t u m (sight m.heap v t a) (sight m.heap w u b) cmp.Less
  compared cmp.Greater = by_order (t ∷ u ∷ []) line v w t u m (sight m.heap v t a) (sight m.heap w u b) cmp.Greater
  compared cmp.LessEq = by_order (t ∷ u ∷ []) line v w t u m (sight m.heap v t a) (sight m.heap w u b) cmp.LessEq
  compared cmp.GreaterEq = by_order (t ∷ u ∷ []) line v w t u m (sight m.heap v t a) (sight m.heap w u b) cmp.GreaterEq

-- ---- in place: no value here is a list

plain_object : (p : Program) (op : BinOp) (site line place : ℕ) (w : Value) (n : object.Foreign) → in_place_object p op site line place w (object.foreign n) ≡ meaning.binary p op site line (ref place) w
plain_object p op site line place w n = refl

outside_object : (p : Program) (op : BinOp) (site line place : ℕ) (w : Value) → in_place_object p op site line place w (object.outside type.any) ≡ meaning.binary p op site line (ref place) w
outside_object p op site line place w = refl

changed : (p : Program) (op : BinOp) (site line : ℕ) (v w : Value) (t u : Shape) (m : Memory) (row : TransferRow) → Stands m.heap v t →
    ByRow row (t ∷ u ∷ []) line m (meaning.binary p op site line v w) → ByRow row (t ∷ u ∷ []) line m (in_place p op site line v w)
changed p op site line _ w _ u m row (a_none) d = d
changed p op site line _ w _ u m row (a_true) d = d
changed p op site line _ w _ u m row (a_false) d = d
changed p op site line _ w _ u m row (an_int) d = d
changed p op site line _ w _ u m row (a_float) d = d
changed p op site line _ w _ u m row (a_text) d = d
changed p op site line _ w _ u m row (some_bytes) d = d
changed p op site line _ w t u m row (from_outside {place = place} e) d =
    subst (λ o. ByRow row (t ∷ u ∷ []) line m (in_place_object p op site line place w o)) (sym (at_object m.heap place (object.outside type.any) e)) d
changed p op site line _ w t u m row (a_native {place = place} {number = number} e r) d =
    subst (λ o. ByRow row (t ∷ u ∷ []) line m (in_place_object p op site line place w o)) (sym (at_object m.heap place (object.foreign (object.builtin number)) e)) d

-- ---- operators of one operand

module _ (op : UnaryOp) (line : ℕ) (v : Value) (t : Shape) (m : Memory) (a : Sight m.heap v t) where
  abbrev one_row : Bool → TransferRow
  one_row any = if is_unfollowed (traits_of t) then unfollowed any else by_kinds (faults.Unary op) (unary_kinds op (traits_of t).kind)

  abbrev one_acts : Bool → Basic → Action Value
  one_acts z k = if z then anything else meaning.by_row line fresh.of_kind (unary_kinds op k)

  by_sign : ByRow (rules.unary op (traits_of t)) (t ∷ []) line m (meaning.unary op line v)
  by_sign =
      subst (λ y. ByRow (one_row y) (t ∷ []) line m (one_acts (is_unfollowed_at m.heap v) (kind_of m.heap v))) (sym a.never_any)
      (subst (λ z. ByRow (one_row false) (t ∷ []) line m (one_acts z (kind_of m.heap v))) (sym a.unfollowed)
      (subst (λ k. ByRow (one_row false) (t ∷ []) line m (one_acts (is_unfollowed (traits_of t)) k)) (sym a.kind)
      (followed (faults.Unary op) (t ∷ []) line fresh.of_kind kind_steps m (is_unfollowed (traits_of t)) (unary_kinds op (traits_of t).kind) (unary_simple op (traits_of t).kind a.plain))))

pub rows_hold : RowsHold
rows_hold =
    record {
      binary = λ p o site line v w t u m a b. by_operator (t ∷ u ∷ []) line v w t u m (sight m.heap v t a) (sight m.heap w u b) (faults.Binary o) p o site;
      in_place = λ p o site line v w t u m a b.
          changed p o site line v w t u m (rules.binary (faults.InPlace o) o (traits_of t) (traits_of u)) a
          (by_operator (t ∷ u ∷ []) line v w t u m (sight m.heap v t a) (sight m.heap w u b) (faults.InPlace o) p o site);
      compare = λ o line v w t u m a b. compared line v w t u m a b o;
      unary = λ o line v t m a. by_sign o line v t m (sight m.heap v t a);
      inverts = λ v t m a. inverts v t m a;
      tests = λ v t m a. tested (λ e. ⊥) v t m a;
      unbound = λ name text m. unbound_row m name text;
    }
