-- What has no slice and takes no items is told by its kind.
use Rattle.std.proofs.Common.{◌≡◌, ℕ, Bool, true, false, if◌then◌else◌, refl, ap, zero, suc, ◌%◌, List, [], ◌∷◌, map, length, slice_set, subst}
use Rattle.builtin_stubs.specs.declared.basic.Basic.TheVariants as kind
use Rattle.std.specs.Prelude.{codes}
use Rattle.std.specs.Str.{bytes_eq}
use Rattle.type_terms.specs.Exceptions.{is_exception}
use Rattle.type_terms.specs.Terms as term
use Rattle.type_terms.specs.Terms.{Term}
use Rattle.py_meaning.specs.Values.{Value, text, octets, ref}
use Rattle.py_meaning.specs.Objects as object
use Rattle.py_meaning.specs.Objects.{Object, object_at, kind_of_object, is_unfollowed, kind_of, is_unfollowed_at}
use Rattle.py_meaning.specs.Events.{unsupported_operands}
use Rattle.py_meaning.specs.Programs.{Program}
use Rattle.py_meaning.specs.Subscripts.{store_in_object, slice_object, sliced, read_slice, with_pair}
use Rattle.py_meaning.specs.Actions.{Action, anything, fails, done, Memory, Flow, Request, bind, allocate, refill, pick, gives}
use Rattle.py_meaning.specs.Runs.{carry_out, State, Answer, with_choices, take_choice}
use Rattle.py_meaning.specs.KindLaws.{has_slice, takes_items, OtherKindsHaveNoSlice, OtherKindsTakeNoItems, SlicesKeepTheirKind, StoresAreNoFaults, is_outside, truth_by_kind, TruthIsByKind}
use Rattle.py_meaning.specs.Iteration.{drain}
use Rattle.py_meaning.specs.Contents.{held, held_pair}
use Rattle.py_meaning.specs.Truth.{has_parts, truth_of_object}
use Rattle.py_meaning.specs.Laws.{reached}
use Rattle.py_meaning.proofs.Ending.{Ends, Free, ends_all, ends_bind, OfGiven, carried, OfKind, allocated}

neither : {A : Type 0} → true ≡ false → A
neither e = absurd (let none : ⊥ = cc in none)

followed : {A : Type 0} (b : Bool) (x y : Action A) → b ≡ false → (if b then x else y) ≡ y
followed false x y e = refl
followed true x y e = neither e

outside_slice : (p : Program) (site line : ℕ) (v : Value) (t : Term) → is_unfollowed (object.outside t) ≡ false → has_slice (kind_of_object (object.outside t)) ≡ false → slice_object p site line v (object.outside t) ≡ fails line unsupported_operands
outside_slice p site line v (term.list t) e k = neither k
outside_slice p site line v (term.tuple ts) e k = neither k
outside_slice p site line v (term.tuple_of t) e k = neither k
outside_slice p site line v t e k = followed (is_unfollowed (object.outside t)) anything (fails line unsupported_operands) e

no_slice : (p : Program) (site line : ℕ) (v : Value) (o : Object) → is_unfollowed o ≡ false → has_slice (kind_of_object o) ≡ false → slice_object p site line v o ≡ fails line unsupported_operands
no_slice p site line v (object.list own vs) e k = neither k
no_slice p site line v (object.tuple own layout vs) e k = neither k
no_slice p site line v (object.outside t) e k = outside_slice p site line v t e k
no_slice p site line v o e k = refl

pub other_kinds_have_no_slice : OtherKindsHaveNoSlice
other_kinds_have_no_slice p turns_in site line (ref place) s e k = ap (λ a. carry_out turns_in a s) (no_slice p site line (ref place) (object_at s.memory.heap place) e k)
other_kinds_have_no_slice p turns_in site line (text empty) s e k = neither k
other_kinds_have_no_slice p turns_in site line (octets empty) s e k = neither k
other_kinds_have_no_slice p turns_in site line v s e k = refl

outside_store : (place line : ℕ) (i x : Value) (t : Term) → is_unfollowed (object.outside t) ≡ false → takes_items (kind_of_object (object.outside t)) ≡ false → store_in_object place line i x (object.outside t) ≡ fails line unsupported_operands
outside_store place line i x (term.list t) e k = neither k
outside_store place line i x (term.dict t u) e k = neither k
outside_store place line i x t e k = followed (is_unfollowed (object.outside t)) done (fails line unsupported_operands) e

no_items : (place line : ℕ) (i x : Value) (o : Object) → is_unfollowed o ≡ false → takes_items (kind_of_object o) ≡ false → store_in_object place line i x o ≡ fails line unsupported_operands
no_items place line i x (object.list site vs) e k = neither k
no_items place line i x (object.dict site qs) e k = neither k
no_items place line i x (object.outside t) e k = outside_store place line i x t e k
no_items place line i x o e k = refl

pub other_kinds_take_no_items : OtherKindsTakeNoItems
other_kinds_take_no_items turns_in line (ref place) i x s e k = ap (λ a. carry_out turns_in a s) (no_items place line i x (object_at s.memory.heap place) e k)
other_kinds_take_no_items turns_in line v i x s e k = refl

-- ---- what a slice gives

ends_otherwise : {A : Type 0} (Q : Memory → A → Type 0) (b : Bool) (x y : Action A) (m : Memory) → b ≡ false → Ends Q y m → Ends Q (if b then x else y) m
ends_otherwise Q true x y m e h = neither e
ends_otherwise Q false x y m e h = h

fault_ends : {A : Type 0} (Q : Memory → A → Type 0) (line : ℕ) (m : Memory) → Ends Q (fails line unsupported_operands) m
fault_ends Q line m = (tt, (tt, tt, tt))

list_ends : (a : Action (List Value)) (site : ℕ) (m : Memory) → Ends (OfKind kind.List) (bind a (λ ys. allocate (object.list site ys))) m
list_ends a site m = ends_bind Free (OfKind kind.List) a (λ ys. allocate (object.list site ys)) m (ends_all a m) (λ ys m' w. allocated (object.list site ys) m')

tuple_ends : (a : Action (List Value)) (site : ℕ) (m : Memory) → Ends (OfKind kind.Tuple) (bind a (λ ys. allocate (object.tuple site object.parts ys))) m
tuple_ends a site m = ends_bind Free (OfKind kind.Tuple) a (λ ys. allocate (object.tuple site object.parts ys)) m (ends_all a m) (λ ys m' w. allocated (object.tuple site object.parts ys) m')

object_ends : (p : Program) (site line : ℕ) (v : Value) (o : Object) (m : Memory) → is_unfollowed o ≡ false → Ends (OfKind (kind_of_object o)) (slice_object p site line v o) m
object_ends p site line v (object.list own xs) m e = list_ends (sliced xs) site m
object_ends p site line v (object.tuple own layout xs) m e = tuple_ends (sliced xs) site m
object_ends p site line v (object.outside (term.list t)) m e = list_ends (drain p v) site m
object_ends p site line v (object.outside (term.tuple ts)) m e = tuple_ends (drain p v) site m
object_ends p site line v (object.outside (term.tuple_of t)) m e = tuple_ends (drain p v) site m
object_ends p site line v o m e = ends_otherwise (OfKind (kind_of_object o)) (is_unfollowed o) anything (fails line unsupported_operands) m e (fault_ends (OfKind (kind_of_object o)) line m)

slice_ends : (p : Program) (site line : ℕ) (v : Value) (m : Memory) → is_unfollowed_at m.heap v ≡ false → Ends (OfKind (kind_of m.heap v)) (read_slice p site line v) m
slice_ends p site line (ref place) m e = object_ends p site line (ref place) (object_at m.heap place) m e
slice_ends p site line (text empty) m e = (tt, λ c. refl)
slice_ends p site line (octets empty) m e = (tt, λ c. refl)
slice_ends p site line v m e = fault_ends (OfKind (kind_of m.heap v)) line m

pub slices_keep_their_kind : SlicesKeepTheirKind
slices_keep_their_kind p turns_in site line v x s t e given =
    subst (OfGiven (OfKind (kind_of s.memory.heap v))) given (carried turns_in (OfKind (kind_of s.memory.heap v)) (read_slice p site line v) s (slice_ends p site line v s.memory e))

-- ---- what a store tells

instance_takes_none : (a b : Bool) → takes_items (if a then kind.Range else if b then kind.Exception else kind.Other) ≡ true → ⊥
instance_takes_none true b e = absurd (cc)
instance_takes_none false true e = absurd (cc)
instance_takes_none false false e = absurd (cc)

module _ (turns_in : Request → State → Answer Flow) where
  picked_quiet : {A : Type 0} (n : ℕ) (f : ℕ → Action A) (s : State) → ((i : ℕ) (u : State) → (reached (carry_out turns_in (f i) u)).events ≡ u.events) → (reached (carry_out turns_in (bind (pick n) f) s)).events ≡ s.events
  picked_quiet zero f s h = h 0 s
  picked_quiet (suc zero) f s h = h 0 s
  picked_quiet (suc (suc n)) f s h = by s.choices
    where
      by : (cs : List ℕ) → (reached (take_choice cs (λ c. carry_out turns_in (f (c % suc (suc n)))) s)).events ≡ s.events
      by [] = refl
      by (c ∷ cs) = h (c % suc (suc n)) (with_choices cs s)

  store_quiet : (place line : ℕ) (i x : Value) (o : Object) (s : State) → takes_items (kind_of_object o) ≡ true → (reached (carry_out turns_in (store_in_object place line i x o) s)).events ≡ s.events
  store_quiet place line i x (object.list site []) s k = refl
  store_quiet place line i x (object.list site (v ∷ vs)) s k = picked_quiet (length (v ∷ vs)) (λ j. refill place (object.of_values (slice_set (v ∷ vs) j x))) s (λ j u. refl)
  store_quiet place line i x (object.dict site qs) s k = picked_quiet (suc (length qs)) (λ j. refill place (object.of_pairs (with_pair qs j i x))) s (λ j u. refl)
  store_quiet place line i x (object.outside (term.list t)) s k = refl
  store_quiet place line i x (object.outside (term.dict t u)) s k = refl
  store_quiet place line i x (object.outside (term.class name)) s k = absurd (instance_takes_none (bytes_eq name (codes "range")) (is_exception name) k)
  store_quiet place line i x o s k = absurd (cc)

pub stores_are_no_faults : StoresAreNoFaults
stores_are_no_faults turns_in line (ref place) i x s k = store_quiet turns_in place line i x (object_at s.memory.heap place) s k
stores_are_no_faults turns_in line v i x s k = absurd (cc)

-- ---- truth

parts_held : (vs : List Value) → has_parts vs ≡ has_parts (map held vs)
parts_held [] = refl
parts_held (v ∷ vs) = refl

pairs_held : (qs : List (Value × Value)) → has_parts qs ≡ has_parts (map held_pair qs)
pairs_held [] = refl
pairs_held (q ∷ qs) = refl

own_truth : (o : Object) → is_outside o ≡ false → truth_of_object o ≡ truth_by_kind (kind_of_object o) o
own_truth (object.list site vs) e = ap (λ b. gives b) (parts_held vs)
own_truth (object.tuple site layout vs) e = ap (λ b. gives b) (parts_held vs)
own_truth (object.dict site qs) e = ap (λ b. gives b) (pairs_held qs)
own_truth (object.view site native receiver vs) e = refl
own_truth (object.outside t) e = neither e
own_truth o e = refl

pub truth_is_by_kind : TruthIsByKind
truth_is_by_kind = record { own = own_truth; from_outside = λ t. refl }
