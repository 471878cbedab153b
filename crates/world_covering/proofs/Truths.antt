-- The truth of a value is one for which its shape passes.
use Rattle.std.proofs.Common.{◌≡◌, Bool, true, false, not, Some, [], ◌∷◌, ◌⊎◌, inl, inr, refl, sym, ap, subst, ◌∙◌}
use Rattle.std.specs.List.{Contains}
use Rattle.type_terms.specs.Terms as type
use Rattle.flow_graph.specs.declared.edge.Truth.{Truth}
use Rattle.flow_graph.specs.declared.edge.Truth.TheVariants as truths
use Rattle.graph_walks.specs.Worlds as worlds
use Rattle.graph_walks.proofs.Lists.{first, got}
use Rattle.abstract_shapes.specs.declared.shape.Row.TheVariants.{Builtin}
use Rattle.abstract_shapes.specs.Shapes as shape
use Rattle.abstract_shapes.specs.Shapes.{Shape}
use Rattle.world_rules.specs.declared.row.Yield.TheVariants as yields
use Rattle.world_rules.specs.declared.transfer.Transfer.TheVariants as transfer
use Rattle.world_rules.specs.Items.{truth_as}
use Rattle.world_rules.specs.Operators as rules
use Rattle.world_rules.specs.Operators.{both_truths}
use Rattle.world_rules.specs.Rows.{row_of}
use Rattle.py_meaning.specs.Values as value
use Rattle.py_meaning.specs.Values.{Value, ref}
use Rattle.py_meaning.specs.Objects as object
use Rattle.py_meaning.specs.Objects.{Object}
use Rattle.py_meaning.specs.Events.{Event}
use Rattle.py_meaning.specs.Truth.{truth_of, truth_of_object, is_zero}
use Rattle.py_meaning.specs.Actions.{Memory, Action, gives, is_even}
use Rattle.py_meaning.specs.Holds.{Holds}
use Rattle.py_meaning.proofs.Holding.{holds_bind}
use Rattle.world_covering.specs.Standing.{Stands, a_none, a_true, a_false, an_int, a_float, a_text, some_bytes, from_outside, a_native}
use Rattle.world_covering.specs.RowLaws.{turnless, Gave, Passes, IsInverted}
use Rattle.world_covering.proofs.Growing.{at_object}
use Rattle.world_covering.proofs.Rows.{gave}

-- a shape of which nothing is known passes both tests
either : (t : Shape) → shape.truth_of t ≡ truths.Both → (b : Bool) → Passes t b
either t e true = inr (ap (λ k. Some (truth_as k)) e)
either t e false = inr (ap (λ k. Some (truth_as k)) e)

module _ (Told : Event → Type 0) where
  abbrev pub Tested : Shape → Memory → Action Bool → Type 0
  Tested t m action = Holds (turnless Told) (λ g later b. (later ≡ m) × Passes t b) (λ g later raised. ⊥) tt m action

  pub tested : (v : Value) (t : Shape) (m : Memory) → Stands m.heap v t → Tested t m (truth_of v)
  tested _ _ m (a_none) = (refl, inl refl)
  tested _ _ m (a_true) = (refl, inl refl)
  tested _ _ m (a_false) = (refl, inl refl)
  tested _ _ m (an_int {n = n}) = (refl, either shape.int refl (not (is_zero n)))
  tested _ _ m (a_float) = (tt, λ c. (refl, either shape.float refl (not (is_even c))))
  tested _ _ m (a_text {empty = e}) = (refl, either shape.str refl (not e))
  tested _ _ m (some_bytes {empty = e}) = (refl, either shape.bytes refl (not e))
  tested _ _ m (from_outside {place = place} e) =
      subst (λ o. Tested shape.ext m (truth_of_object o)) (sym (at_object m.heap place (object.outside type.any) e)) (tt, λ c. (refl, either shape.ext refl (not (is_even c))))
  tested _ _ m (a_native {place = place} {number = number} e row) =
      subst (λ o. Tested (shape.native (Builtin number)) m (truth_of_object o)) (sym (at_object m.heap place (object.foreign (object.builtin number)) e)) (refl, inl refl)

-- ---- `not`

module _ (t : Shape) (m : Memory) where
  abbrev Inverts : Truth → Bool → Type 0
  Inverts k b = Gave (rules.gives (rules.inverted k)) (t ∷ []) m m (value.truth b)

  gave_true : (k : Truth) → Contains (rules.inverted k) yields.TrueValue → Inverts k true
  gave_true k c = gave (rules.gives (rules.inverted k)) (t ∷ []) m (value.truth true) yields.TrueValue shape.true_value c refl a_true

  gave_false : (k : Truth) → Contains (rules.inverted k) yields.FalseValue → Inverts k false
  gave_false k c = gave (rules.gives (rules.inverted k)) (t ∷ []) m (value.truth false) yields.FalseValue shape.false_value c refl a_false

  inverted : (k : Truth) (b : Bool) → shape.truth_of t ≡ k → Passes t b → Inverts k (not b)
  inverted truths.Yes true e p = gave_false truths.Yes (first yields.FalseValue [])
  inverted truths.No false e p = gave_true truths.No (first yields.TrueValue [])
  inverted truths.Both true e p = gave_false truths.Both (got both_truths 1 yields.FalseValue refl)
  inverted truths.Both false e p = gave_true truths.Both (got both_truths 0 yields.TrueValue refl)
  inverted truths.Yes false e p = no p
    where
      no : (Some (truth_as (shape.truth_of t)) ≡ Some worlds.No) ⊎ (Some (truth_as (shape.truth_of t)) ≡ Some worlds.Both) → Inverts truths.Yes true
      no (inl q) = let z : Some worlds.Yes ≡ Some worlds.No = ap (λ k. Some (truth_as k)) (sym e) ∙ q in cc
      no (inr q) = let z : Some worlds.Yes ≡ Some worlds.Both = ap (λ k. Some (truth_as k)) (sym e) ∙ q in cc
  inverted truths.No true e p = no p
    where
      no : (Some (truth_as (shape.truth_of t)) ≡ Some worlds.Yes) ⊎ (Some (truth_as (shape.truth_of t)) ≡ Some worlds.Both) → Inverts truths.No false
      no (inl q) = let z : Some worlds.No ≡ Some worlds.Yes = ap (λ k. Some (truth_as k)) (sym e) ∙ q in cc
      no (inr q) = let z : Some worlds.No ≡ Some worlds.Both = ap (λ k. Some (truth_as k)) (sym e) ∙ q in cc

pub inverts : (v : Value) (t : Shape) (m : Memory) → Stands m.heap v t → IsInverted t m v
inverts v t m st =
    holds_bind (turnless (λ e. ⊥)) (λ g later b. (later ≡ m) × Passes t b) (λ g later w. Gave (row_of transfer.Negates (t ∷ [])) (t ∷ []) m later w) (λ g later w. ⊥) (truth_of v) (λ b. gives (value.truth (not b))) tt m
    (tested (λ e. ⊥) v t m st) (λ b g later q. subst (λ z. Gave (row_of transfer.Negates (t ∷ [])) (t ∷ []) m z (value.truth (not b))) (sym q.0) (inverted t m (shape.truth_of t) b refl q.1))
