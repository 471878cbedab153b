-- `is`, on values that stand for shapes.
use Rattle.std.proofs.Common.{◌≡◌, ◌||◌, ◌&&◌, Bool, true, false, List, Option, Some, None, refl, ap, subst, ◌∙◌, if◌then◌else◌}
use Rattle.std.specs.List.{Contains, list_all}
use Rattle.builtin_stubs.specs.declared.basic.Basic.{Basic}
use Rattle.builtin_stubs.specs.declared.basic.Basic.TheVariants as kind
use Rattle.builtin_stubs.specs.declared.kinds.Sameness.{Sameness}
use Rattle.builtin_stubs.specs.declared.kinds.Sameness.TheVariants as sameness
use Rattle.builtin_stubs.specs.Kinds.{identity}
use Rattle.abstract_shapes.specs.Shapes as shape
use Rattle.abstract_shapes.specs.Shapes.{Shape}
use Rattle.world_rules.specs.Operators as rules
use Rattle.world_rules.specs.Traits.{traits_of, is_anything}
use Rattle.py_meaning.specs.Values as value
use Rattle.py_meaning.specs.Values.{Value}
use Rattle.py_meaning.specs.Objects.{Object, kind_of, is_anything_at}
use Rattle.py_meaning.specs.Operators as meaning
use Rattle.world_covering.specs.Standing.{Stands, a_none, a_true, a_false, an_int, a_float, a_text, some_bytes, from_outside, a_native}
use Rattle.world_covering.proofs.Rows.{Sight, sight}
use Rattle.world_covering.proofs.Tables.{plain_kinds, both, each}

-- truth values alone are the same where they are equal
abbrev is_bool : Basic → Bool
is_bool kind.Bool = true
is_bool _ = false

abbrev only_bools : Basic → Basic → Sameness → Bool
only_bools l r sameness.AsTruths = is_bool l && is_bool r
only_bools l r _ = true

identity_pairs : list_all (λ l. list_all (λ r. only_bools l r (identity l r)) plain_kinds) plain_kinds ≡ true
identity_pairs = refl

as_truths : (l r : Basic) → Contains plain_kinds l → Contains plain_kinds r → identity l r ≡ sameness.AsTruths → (is_bool l ≡ true) × (is_bool r ≡ true)
as_truths l r a b e =
    let h : only_bools l r (identity l r) ≡ true = each (λ r. only_bools l r (identity l r)) plain_kinds r (each (λ l. list_all (λ r. only_bools l r (identity l r)) plain_kinds) plain_kinds l identity_pairs a) b in
    both (is_bool l) (is_bool r) (subst (λ s. only_bools l r s ≡ true) e h)

data IsTruth : Value → Shape → Type 0 where
  yes : IsTruth (value.truth true) shape.true_value
  no : IsTruth (value.truth false) shape.false_value

is_truth : (h : List Object) (v : Value) (t : Shape) → Stands h v t → is_bool (traits_of t).kind ≡ true → IsTruth v t
is_truth h _ _ (a_none) e = cc
is_truth h _ _ (a_true) e = yes
is_truth h _ _ (a_false) e = no
is_truth h _ _ (an_int) e = cc
is_truth h _ _ (a_float) e = cc
is_truth h _ _ (a_text) e = cc
is_truth h _ _ (some_bytes) e = cc
is_truth h _ _ (from_outside p) e = cc
is_truth h _ _ (a_native p row) e = cc

same_truths : (v w : Value) (t u : Shape) → IsTruth v t → IsTruth w u → meaning.same_truths v w ≡ rules.same_truths (traits_of t).truth (traits_of u).truth
same_truths _ _ _ _ (yes) (yes) = refl
same_truths _ _ _ _ (yes) (no) = refl
same_truths _ _ _ _ (no) (yes) = refl
same_truths _ _ _ _ (no) (no) = refl

module _ (h : List Object) (v w : Value) (t u : Shape) (a : Stands h v t) (b : Stands h w u) where
  here : Sight h v t
  here = sight h v t a

  there : Sight h w u
  there = sight h w u b

  abbrev asks : Bool → Sameness → Option Bool
  asks z s = if z then None else elim s [ sameness.Same ↦ Some true | sameness.Different ↦ Some false | sameness.AsTruths ↦ meaning.same_truths v w | sameness.Unknown ↦ None ]

  abbrev answers : Bool → Sameness → Option Bool
  answers z s =
      if z then None
      else elim s [ sameness.Same ↦ Some true | sameness.Different ↦ Some false | sameness.AsTruths ↦ rules.same_truths (traits_of t).truth (traits_of u).truth | sameness.Unknown ↦ None ]

  alike : (z : Bool) (s : Sameness) → identity (traits_of t).kind (traits_of u).kind ≡ s → asks z s ≡ answers z s
  alike true s e = refl
  alike false sameness.Same e = refl
  alike false sameness.Different e = refl
  alike false sameness.Unknown e = refl
  alike false sameness.AsTruths e =
      let bools : (is_bool (traits_of t).kind ≡ true) × (is_bool (traits_of u).kind ≡ true) = as_truths (traits_of t).kind (traits_of u).kind here.plain there.plain e in
      same_truths v w t u (is_truth h v t a bools.0) (is_truth h w u b bools.1)

  pub same_is : meaning.is_same h v w ≡ rules.is_same (traits_of t) (traits_of u)
  same_is =
      ap (λ z. asks (z || is_anything_at h w) (identity (kind_of h v) (kind_of h w))) here.anything
      ∙ ap (λ z. asks (is_anything (traits_of t) || z) (identity (kind_of h v) (kind_of h w))) there.anything
      ∙ ap (λ k. asks (is_anything (traits_of t) || is_anything (traits_of u)) (identity k (kind_of h w))) here.kind
      ∙ ap (λ k. asks (is_anything (traits_of t) || is_anything (traits_of u)) (identity (traits_of t).kind k)) there.kind
      ∙ alike (is_anything (traits_of t) || is_anything (traits_of u)) (identity (traits_of t).kind (traits_of u).kind) refl
