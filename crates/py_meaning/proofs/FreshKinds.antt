-- A fresh value of a type is of a kind that the type has.
use Rattle.std.proofs.Common.{◌≡◌, ℕ, zero, suc, ◌<◌, Bool, true, false, ◌||◌, if◌then◌else◌, Option, Some, None, is_some, List, [], ◌∷◌, refl, sym, ap, subst, inl, inr, arith}
use Rattle.std.specs.Prelude.{codes}
use Rattle.std.specs.Str.{bytes_eq}
use Rattle.std.proofs.lemmas.Slice.Eq.{bytes_eq-Decides}
use Rattle.builtin_stubs.specs.declared.basic.Basic.{Basic}
use Rattle.builtin_stubs.specs.declared.basic.Basic.TheVariants as kind
use Rattle.builtin_stubs.specs.Kinds.{kind_of_instance}
use Rattle.builtin_stubs.specs.Natives.{function_number}
use Rattle.type_terms.specs.BuiltinNames.{has_name, is_instance_name}
use Rattle.type_terms.specs.Exceptions.{is_exception}
use Rattle.type_terms.specs.Terms.{Term, any, none, bool, int, float, str, bytes, list, dict, tuple, tuple_of, class, class_of, callable, union, Terms, no_terms, term}
use Rattle.py_meaning.specs.Values.{Value}
use Rattle.py_meaning.specs.Objects as object
use Rattle.py_meaning.specs.Objects.{kind_of}
use Rattle.py_meaning.specs.Programs.{Program}
use Rattle.py_meaning.specs.StubItems.{StubClass, stub_class_at}
use Rattle.py_meaning.specs.Fresh.{fresh_instance, stub_class_value, class_value, size, fresh, fresh_member}
use Rattle.py_meaning.specs.Actions.{Memory, allocate, anything, pick}
use Rattle.py_meaning.specs.KindLaws.{HasKind, IsKindOfOne, FreshIsOfAKind}
use Rattle.py_meaning.proofs.Ending.{Ends, ends_bind, ends_on, OfGiven, carried, OfKind, allocated, pick_ends}

abbrev OfType : Term → Memory → Value → Type 0
OfType t m v = HasKind t (kind_of m.heap v)

abbrev OfOne : Terms → Memory → Value → Type 0
OfOne ts m v = IsKindOfOne ts (kind_of m.heap v)

-- ---- instances: a name that isn't that of a builtin class whose instances are followed has no kind of its own

neither : (a b : Bool) → (a || b) ≡ false → (a ≡ false) × (b ≡ false)
neither true b e = cc
neither false b e = (refl, e)

neither_if : {A : Type 0} (a b : Bool) (x y z : A) → a ≡ false → b ≡ false → (if a then x else if b then y else z) ≡ z
neither_if true b x y z e f = cc
neither_if false true x y z e f = cc
neither_if false false x y z e f = refl

unnamed_kind : (name : List ℕ) → is_instance_name name ≡ false → kind_of_instance name ≡ kind.Other
unnamed_kind name e =
    let both = neither (has_name (codes "object" ∷ codes "range" ∷ []) name) (is_exception name) e in
    let names = neither (bytes_eq name (codes "object")) (has_name (codes "range" ∷ []) name) both.0 in
    let range = neither (bytes_eq name (codes "range")) false names.1 in
    neither_if (bytes_eq name (codes "range")) (is_exception name) kind.Range kind.Exception kind.Other range.0 both.1

-- what may be anything is of no kind of its own
anything_ends : (k : Basic) (m : Memory) → k ≡ kind.Other → Ends (OfKind k) anything m
anything_ends k m e = subst (λ j. Ends (OfKind j) anything m) (sym e) (allocated (object.outside any) m)

instance_ends : (p : Program) (name : List ℕ) (m : Memory) → Ends (OfKind (kind_of_instance name)) (fresh_instance p name) m
instance_ends p name m = of_object (bytes_eq name (codes "object")) refl
  where
    outside_ends : Ends (OfKind (kind_of_instance name)) (allocate (object.outside (class name))) m
    outside_ends = allocated (object.outside (class name)) m

    of_stub : (b : Bool) → is_instance_name name ≡ false → Ends (OfKind (kind_of_instance name)) (if b then allocate (object.outside (class name)) else anything) m
    of_stub true e = outside_ends
    of_stub false e = anything_ends (kind_of_instance name) m (unnamed_kind name e)

    of_builtin : (b : Bool) → is_instance_name name ≡ b → Ends (OfKind (kind_of_instance name)) (if b then allocate (object.outside (class name)) else if is_some (stub_class_at p name) then allocate (object.outside (class name)) else anything) m
    of_builtin true e = outside_ends
    of_builtin false e = of_stub (is_some (stub_class_at p name)) e

    of_object : (b : Bool) → bytes_eq name (codes "object") ≡ b → Ends (OfKind (kind_of_instance name)) (if b then anything else if is_instance_name name then allocate (object.outside (class name)) else if is_some (stub_class_at p name) then allocate (object.outside (class name)) else anything) m
    of_object true e = anything_ends (kind_of_instance name) m (ap kind_of_instance ((bytes_eq-Decides name (codes "object")).0 e))
    of_object false e = of_builtin (is_instance_name name) refl

stub_class_ends : (o : Option StubClass) (m : Memory) → Ends (OfKind kind.Other) (stub_class_value o) m
stub_class_ends None m = allocated (object.outside any) m
stub_class_ends (Some k) m = allocated (object.foreign (object.stub_class k.home k.class.name)) m

class_ends : (p : Program) (name : List ℕ) (m : Memory) → Ends (OfKind kind.Other) (class_value p name) m
class_ends p name m = go (function_number name)
  where
    go : (o : Option ℕ) → Ends (OfKind kind.Other) (elim o [ Some n ↦ allocate (object.foreign (object.builtin n)) | None ↦ stub_class_value (stub_class_at p name) ]) m
    go None = stub_class_ends (stub_class_at p name) m
    go (Some n) = allocated (object.foreign (object.builtin n)) m

-- ---- any type

mutual
  fresh_ends : (p : Program) (t : Term) (m : Memory) → Ends (OfType t) (fresh p t) m
  fresh_ends p any m = allocated (object.outside any) m
  fresh_ends p none m = refl
  fresh_ends p bool m = (tt, λ c. refl)
  fresh_ends p int m = (tt, λ c. refl)
  fresh_ends p float m = refl
  fresh_ends p str m = (tt, λ c. refl)
  fresh_ends p bytes m = (tt, λ c. refl)
  fresh_ends p (class name) m = instance_ends p name m
  fresh_ends p (class_of name) m = class_ends p name m
  fresh_ends p (union no_terms) m = allocated (object.outside any) m
  fresh_ends p (union (term t ts)) m =
      ends_bind (λ _ i. i < size (term t ts)) (OfOne (term t ts)) (pick (size (term t ts))) (fresh_member p (term t ts)) m (pick_ends (size (term t ts)) m (omega arith)) (λ i m' lt. member_ends p (term t ts) i m' lt)
  fresh_ends p (list t) m = allocated (object.outside (list t)) m
  fresh_ends p (dict t u) m = allocated (object.outside (dict t u)) m
  fresh_ends p (tuple ts) m = allocated (object.outside (tuple ts)) m
  fresh_ends p (tuple_of t) m = allocated (object.outside (tuple_of t)) m
  fresh_ends p (callable t) m = allocated (object.outside (callable t)) m

  member_ends : (p : Program) (ts : Terms) (i : ℕ) (m : Memory) → i < size ts → Ends (OfOne ts) (fresh_member p ts i) m
  member_ends p no_terms i m lt = absurd (omega (arith, lt))
  member_ends p (term t ts) zero m lt = ends_on (OfType t) (OfOne (term t ts)) (λ u v h. inl h) (fresh p t) m (fresh_ends p t m)
  member_ends p (term t ts) (suc i) m lt = ends_on (OfOne ts) (OfOne (term t ts)) (λ u v h. inr h) (fresh_member p ts i) m (member_ends p ts i m (omega (arith, lt)))

pub fresh_is_of_a_kind : FreshIsOfAKind
fresh_is_of_a_kind p t ty v s u e = subst (OfGiven (OfType ty)) e (carried t (OfType ty) (fresh p ty) s (fresh_ends p ty s.memory))
