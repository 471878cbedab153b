-- Each value within the heap, as an account that is kept beside a run. One lemma for each way in which actions are put together.
use Rattle.std.proofs.Common.{◌≡◌, ◌⊎◌, inl, inr, ℕ, zero, suc, ◌+◌, ◌%◌, Bool, true, false, if◌then◌else◌, List, [], ◌∷◌, ◌++◌, length, length-append, Option, Some, None, slice_get, slice_set, unwrap_or, refl, sym, ap, ◌∙◌, subst, arith}
use Rattle.type_terms.specs.Terms as term
use Rattle.py_meaning.specs.Values.{Value, truth, ref, Entries, with_entry}
use Rattle.py_meaning.specs.Objects as object
use Rattle.py_meaning.specs.Objects.{Object, Filling, of_values, of_pairs, of_entries, refilled, object_at, kind_of_object, kind_of}
use Rattle.py_meaning.specs.Events.{FaultKind, Event}
use Rattle.py_meaning.specs.Actions.{Frame, Scope, Memory, with_scope, with_new, Argument, Flow, returns, Request, call, while_turn, for_turn, outside_call, Outcome, came, threw, Action, gives, raises, takes, counts, looks, tells, attempt, bind, then_do, changes, afterwards, done, allocate, refill, at_place, anything, is_even, pick, one_of, either_truth, raise_builtin, may_raise, fails}
use Rattle.py_meaning.specs.Programs.{Program}
use Rattle.py_meaning.specs.Holds.{Account, Lasts, Post, Holds}
use Rattle.py_meaning.specs.ClassLaws.{class_number, OneObjectAClass}
use Rattle.py_meaning.specs.Receivers.{is_raised, is_raised_at, HasItsRow}
use Rattle.py_meaning.proofs.Holding.{holds_attempt}
use Rattle.py_meaning.proofs.Growing.{Heap, ClassesApart, Block, Became, IsNew, Grows, loose, Grown, grown_self, grown_on, grown_push, grown_set, same_class, filled_values, filled_pairs, filled_instance, filled_class}
use Rattle.py_meaning.proofs.Pointing.{RowFits, RowsFit, exact_row_on, rows_set, rows_push, IsWithin, AreWithin, EntriesWithin, PairsWithin, OptionWithin, ObjectWithin, ObjectsWithin, within_on, are_on, entries_on, pairs_on, option_on, object_on, objects_on, with_entry_within}

-- ---- memory

abbrev pub FrameWithin : Heap → Option Frame → Type 0
FrameWithin n None = Unit {0}
FrameWithin n (Some f) = EntriesWithin n f.locals

pub frame_on : {W : Type 0} (n k : Heap) (o : Option Frame) → Grows W n k → FrameWithin n o → FrameWithin k o
frame_on n k None le h = tt
frame_on n k (Some f) le h = entries_on n k f.locals le h

pub record ScopeWithin (n : Heap) (c : Scope) : Type 0 where
  pub globals : EntriesWithin n c.globals
  pub frame : FrameWithin n c.frame
  pub handled : OptionWithin n c.handled

pub scope_on : {W : Type 0} (n k : Heap) (c : Scope) → Grows W n k → ScopeWithin n c → ScopeWithin k c
scope_on n k c le h = record { globals = entries_on n k c.globals le h.globals; frame = frame_on n k c.frame le h.frame; handled = option_on n k c.handled le h.handled }

pub record Good (p : Program) (root : Heap) (m : Memory) : Type 0 where
  pub heap : ObjectsWithin m.heap m.heap
  pub scope : ScopeWithin m.heap m.scope
  pub rows : RowsFit p m.heap
  pub classes : ClassesApart p → OneObjectAClass m.heap
  -- it goes on from a heap that was there before
  pub goes_on : Grows ⊥ root m.heap

-- ---- requests, outcomes and events

abbrev pub ArgumentsWithin : Heap → List Argument → Type 0
ArgumentsWithin n [] = Unit {0}
ArgumentsWithin n (a ∷ as') = IsWithin n a.value × ArgumentsWithin n as'

abbrev pub RequestWithin : Program → Heap → Request → Type 0
RequestWithin p n (call f as' site line) = IsWithin n f × ArgumentsWithin n as'
RequestWithin p n (while_turn test body) = Block p body
RequestWithin p n (for_turn target body line v x) = IsWithin n v × IsWithin n x × Block p body
RequestWithin p n (outside_call c) = Unit {0}

abbrev pub FlowWithin : Heap → Flow → Type 0
FlowWithin n (returns v) = IsWithin n v
FlowWithin n _ = Unit {0}

abbrev pub OutcomeWithin : Heap → Outcome → Type 0
OutcomeWithin n (came flow) = FlowWithin n flow
OutcomeWithin n (threw v) = IsWithin n v

-- ---- the account, of which nothing but memory is kept

abbrev pub pointing : Program → Heap → Account
pointing p root = record {
  Kept = Unit {0};
  Always = λ g m. Good p root m;
  Way = λ q. Unit {0};
  Asked = λ q way g m. RequestWithin p m.heap q;
  Answered = λ q way g m o later m'. Grown p m.heap m'.heap × Good p root m' × OutcomeWithin m'.heap o;
  Made = λ g m o later. Unit {0};
  Told = λ g m e. Unit {0};
}

pub pointing_lasts : (p : Program) (root : Heap) → Lasts (pointing p root)
pointing_lasts p root = record { in_scope = λ g m c e t. tt; with_object = λ g m o later e made t. tt; with_filling = λ g m place new e t. tt }

-- at an end, in a heap that goes on from another
abbrev pub Ended : {A : Type 0} → (p : Program) → (root : Heap) → Heap → (Heap → A → Type 0) → Post (pointing p root) A
Ended p root n P g m x = Grown p n m.heap × Good p root m × P m.heap x

-- from a good memory on
abbrev pub SafeIn : {A : Type 0} → (p : Program) → (root : Heap) → Memory → (Heap → A → Type 0) → Action A → Type 0
SafeIn p root m P a = (base : Heap) → Grown p base m.heap → Holds (pointing p root) (Ended p root base P) (Ended p root base IsWithin) tt m a

-- from each good memory on whose heap goes on from another
pub record Safe {A : Type 0} (p : Program) (n : Heap) (P : Heap → A → Type 0) (a : Action A) : Type 0 where
  pub keeps : (root : Heap) (m : Memory) → Good p root m → Grown p n m.heap → SafeIn p root m P a

-- ---- one after the other

pub safe_attempt : {p : Program} {A B : Type 0} (n : Heap) (P : Heap → A → Type 0) (Q : Heap → B → Type 0) (a : Action A) (f : A → Action B) (g : Value → Action B) → Safe p n P a →
    ((x : A) (k : Heap) → Grown p n k → P k x → Safe p k Q (f x)) → ((v : Value) (k : Heap) → Grown p n k → IsWithin k v → Safe p k Q (g v)) → Safe p n Q (attempt a f g)
safe_attempt {p} n P Q a f g h k j = record {
  keeps = λ root m good le base low.
      holds_attempt (pointing p root) (Ended p root m.heap P) (Ended p root m.heap IsWithin) (Ended p root base Q) (Ended p root base IsWithin) a f g tt m (h.keeps root m good le m.heap (grown_self m.heap))
      (λ x one u e. (k x u.heap (grown_on le e.0) e.2).keeps root u e.1 (grown_self u.heap) base (grown_on low e.0))
      (λ v one u e. (j v u.heap (grown_on le e.0) e.2).keeps root u e.1 (grown_self u.heap) base (grown_on low e.0));
}

pub safe_give : {p : Program} {A : Type 0} (n : Heap) (P : Heap → A → Type 0) (x : A) → ((k : Heap) → Grown p n k → P k x) → Safe p n P (gives x)
safe_give n P x h = record { keeps = λ root m good le base low. (low, good, h m.heap le) }

pub safe_raises : {p : Program} {A : Type 0} (n : Heap) (P : Heap → A → Type 0) (v : Value) → IsWithin n v → Safe p n P (raises v)
safe_raises n P v h = record { keeps = λ root m good le base low. (low, good, within_on n m.heap v le h) }

pub safe_bind : {p : Program} {A B : Type 0} (n : Heap) (P : Heap → A → Type 0) (Q : Heap → B → Type 0) (a : Action A) (f : A → Action B) → Safe p n P a → ((x : A) (k : Heap) → Grown p n k → P k x → Safe p k Q (f x)) → Safe p n Q (bind a f)
safe_bind n P Q a f h k = safe_attempt n P Q a f (λ v. raises v) h k (λ v k' le p. safe_raises k' Q v p)

-- nothing is said of what an action gives
abbrev pub Free : {A : Type 0} → Heap → A → Type 0
Free n x = Unit {0}

pub safe_then : {p : Program} {A B : Type 0} (n : Heap) (P : Heap → A → Type 0) (Q : Heap → B → Type 0) (a : Action A) (b : Action B) → Safe p n P a → ((k : Heap) → Grown p n k → Safe p k Q b) → Safe p n Q (then_do a b)
safe_then n P Q a b h k = safe_bind n P Q a (λ x. b) h (λ x k' le p. k k' le)

pub safe_takes : {p : Program} {A : Type 0} (n : Heap) (P : Heap → A → Type 0) (k : ℕ → Action A) → ((c : ℕ) → Safe p n P (k c)) → Safe p n P (takes k)
safe_takes n P k h = record { keeps = λ root m good le base low. (good, λ c. (h c).keeps root m good le base low) }

pub safe_counts : {p : Program} {A : Type 0} (n : Heap) (P : Heap → A → Type 0) (k : ℕ → Action A) → ((c : ℕ) → Safe p n P (k c)) → Safe p n P (counts k)
safe_counts n P k h = record { keeps = λ root m good le base low. λ c. (h c).keeps root m good le base low }

pub safe_looks : {p : Program} {A : Type 0} (n : Heap) (P : Heap → A → Type 0) (k : Memory → Action A) → ((root : Heap) (m : Memory) → Good p root m → Grown p n m.heap → Safe p m.heap P (k m)) → Safe p n P (looks k)
safe_looks n P k h = record { keeps = λ root m good le base low. (h root m good le).keeps root m good (grown_self m.heap) base low }

pub safe_if : {p : Program} {A : Type 0} (n : Heap) (P : Heap → A → Type 0) (b : Bool) (f g : Action A) → Safe p n P f → Safe p n P g → Safe p n P (if b then f else g)
safe_if n P true f g h k = h
safe_if n P false f g h k = k

pub safe_on : {p : Program} {A : Type 0} (n k : Heap) (P : Heap → A → Type 0) (a : Action A) → Grown p n k → Safe p n P a → Safe p k P a
safe_on n k P a le h = record { keeps = λ root m good le' base low. h.keeps root m good (grown_on le le') base low }

-- ---- the heap

pub objects_push : (n : Heap) (os : List Object) (o : Object) → ObjectsWithin n os → ObjectWithin n o → ObjectsWithin n (os ++ o ∷ [])
objects_push n [] o h w = (w, tt)
objects_push n (x ∷ xs) o h w = (h.0, objects_push n xs o h.1 w)

-- what any action may make
abbrev pub CanMake : Program → Heap → Object → Type 0
CanMake p n (object.class c es) = EntriesWithin n es × (ClassesApart p → ⊥)
CanMake p n (object.bound_foreign v f) = ObjectWithin n (object.bound_foreign v f) × HasItsRow p n v f
CanMake p n o = ObjectWithin n o

made_within : (p : Program) (n : Heap) (o : Object) → CanMake p n o → ObjectWithin n o
made_within p n (object.class c es) h = h.0
made_within p n (object.bound_foreign v f) h = h.0
made_within p n o h = h

made_new : (p : Program) (n : Heap) (o : Object) → CanMake p n o → IsNew (ClassesApart p) o
made_new p n (object.class c es) h = λ c. absurd (h.1 c)
made_new p n o h = λ c. refl

made_row : {W : Type 0} (p : Program) (n k : Heap) (o : Object) → CanMake p n o → Grows W n k → RowFits p k o
made_row p n k (object.bound_foreign v f) h le w g e =
    let receiver : v ≡ w = grind (arith, e) in
    let row : f ≡ g = grind (arith, e) in
    subst (λ x. HasItsRow p k x g) receiver (subst (λ x. HasItsRow p k v x) row (exact_row_on p n k v f le h.0.0 h.1))
made_row p n k (object.class c es) h le w g e = absurd (cc)
made_row p n k o h le w g e = absurd (cc)

pub push_at : (os : Heap) (o : Object) (i c : ℕ) → class_number (object_at (os ++ o ∷ []) i) ≡ Some c → (class_number (object_at os i) ≡ Some c) ⊎ ((i ≡ length os) × (class_number o ≡ Some c))
push_at [] o zero c e = inr (refl, e)
push_at [] o (suc i) c e = inl e
push_at (x ∷ os) o zero c e = inl e
push_at (x ∷ os) o (suc i) c e = later (push_at os o i c e)
  where
    later : (class_number (object_at os i) ≡ Some c) ⊎ ((i ≡ length os) × (class_number o ≡ Some c)) → (class_number (object_at os i) ≡ Some c) ⊎ ((suc i ≡ suc (length os)) × (class_number o ≡ Some c))
    later (inl a) = inl a
    later (inr b) = inr (ap suc b.0, b.1)

-- an object of a class that has none yet
pub push_one : (os : Heap) (o : Object) → OneObjectAClass os → ((c i : ℕ) → class_number o ≡ Some c → class_number (object_at os i) ≡ Some c → ⊥) → OneObjectAClass (os ++ o ∷ [])
push_one os o one apart c i j a b = meet (push_at os o i c a) (push_at os o j c b)
  where
    meet : (class_number (object_at os i) ≡ Some c) ⊎ ((i ≡ length os) × (class_number o ≡ Some c)) → (class_number (object_at os j) ≡ Some c) ⊎ ((j ≡ length os) × (class_number o ≡ Some c)) → i ≡ j
    meet (inl x) (inl y) = one c i j x y
    meet (inl x) (inr y) = absurd (apart c i y.1 x)
    meet (inr x) (inl y) = absurd (apart c j x.1 y)
    meet (inr x) (inr y) = x.0 ∙ sym y.0

pub good_push : {p : Program} {root : Heap} {W : Type 0} (m : Memory) (o : Object) → Good p root m → Grows W m.heap (m.heap ++ o ∷ []) → ObjectWithin m.heap o → RowFits p (m.heap ++ o ∷ []) o → (ClassesApart p → OneObjectAClass (m.heap ++ o ∷ [])) → Good p root (with_new o m)
good_push {p} m o good le h row one = record {
  rows = rows_push p m.heap o le good.heap good.rows row;
  heap = objects_push (m.heap ++ o ∷ []) m.heap o (objects_on m.heap (m.heap ++ o ∷ []) m.heap le good.heap) (object_on m.heap (m.heap ++ o ∷ []) o le h);
  scope = scope_on m.heap (m.heap ++ o ∷ []) m.scope le good.scope;
  classes = one;
  goes_on = grown_on good.goes_on (loose le);
}

pub here_within : (os : Heap) (o : Object) → IsWithin (os ++ o ∷ []) (ref (length os))
here_within os o = let longer : length (os ++ o ∷ []) ≡ length os + 1 = length-append os (o ∷ []) in omega arith

some_none : (c : ℕ) (o : Option ℕ) → o ≡ None → o ≡ Some c → ⊥
some_none c None e f = absurd (grind (arith, f))
some_none c (Some d) e f = absurd (grind (arith, e))

pub safe_allocate : {p : Program} (n : Heap) (o : Object) → CanMake p n o → Safe p n IsWithin (allocate o)
safe_allocate {p} n o h = record {
  keeps = λ root m good le base low.
      let new : IsNew (ClassesApart p) o = made_new p n o h in
      let up : Grown p m.heap (m.heap ++ o ∷ []) = grown_push m.heap o new in (
        tt,
        tt,
        (
          grown_on low up,
          good_push m o good up (object_on n m.heap o le (made_within p n o h)) (made_row p n (m.heap ++ o ∷ []) o h (grown_on le up)) (λ w. push_one m.heap o (good.classes w) (λ c i e f. some_none c (class_number o) (new w) e)),
          here_within m.heap o,
        ),
      );
}

objects_set : (n : Heap) (os : List Object) (i : ℕ) (o : Object) → ObjectsWithin n os → ObjectWithin n o → ObjectsWithin n (slice_set os i o)
objects_set n [] i o h w = tt
objects_set n (x ∷ xs) zero o h w = (w, h.1)
objects_set n (x ∷ xs) (suc i) o h w = (h.0, objects_set n xs i o h.1 w)

pub safe_done : {p : Program} (n : Heap) → Safe p n Free done
safe_done n = safe_give n Free tt (λ k le. tt)

found_within : (n : Heap) (os : List Object) (i : ℕ) → ObjectsWithin n os → ObjectWithin n (unwrap_or (slice_get os i) (object.outside term.any))
found_within n [] i h = tt
found_within n (o ∷ os) zero h = h.0
found_within n (o ∷ os) (suc i) h = found_within n os i h.1

pub object_within : {p : Program} {root : Heap} (m : Memory) (place : ℕ) → Good p root m → ObjectWithin m.heap (object_at m.heap place)
object_within m place good = found_within m.heap m.heap place good.heap

-- what an object may have in place of its parts
abbrev pub FillingWithin : Heap → Filling → Type 0
FillingWithin n (of_values vs) = AreWithin n vs
FillingWithin n (of_pairs qs) = PairsWithin n qs
FillingWithin n (of_entries es) = EntriesWithin n es

filling_on : {p : Program} (n k : Heap) (new : Filling) → Grown p n k → FillingWithin n new → FillingWithin k new
filling_on n k (of_values vs) le h = are_on n k vs le h
filling_on n k (of_pairs qs) le h = pairs_on n k qs le h
filling_on n k (of_entries es) le h = entries_on n k es le h

refilled_within : (n : Heap) (o : Object) (new : Filling) → ObjectWithin n o → FillingWithin n new → ObjectWithin n (refilled o new)
refilled_within n (object.list site xs) (of_values ys) h k = k
refilled_within n (object.dict site ps) (of_pairs qs) h k = k
refilled_within n (object.instance c es) (of_entries ds) h k = k
refilled_within n (object.class c es) (of_entries ds) h k = k
refilled_within n o new h k = h

set_at : (os : Heap) (place : ℕ) (q : Object) (i : ℕ) → class_number q ≡ class_number (object_at os place) → class_number (object_at (slice_set os place q) i) ≡ class_number (object_at os i)
set_at [] place q i e = refl
set_at (o ∷ os) zero q zero e = e
set_at (o ∷ os) zero q (suc i) e = refl
set_at (o ∷ os) (suc place) q zero e = refl
set_at (o ∷ os) (suc place) q (suc i) e = set_at os place q i e

set_one : (os : Heap) (place : ℕ) (q : Object) → class_number q ≡ class_number (object_at os place) → OneObjectAClass os → OneObjectAClass (slice_set os place q)
set_one os place q e one c i j a b = one c i j (sym (set_at os place q i e) ∙ a) (sym (set_at os place q j e) ∙ b)

-- new parts, with each name that the object has
pub refill_in : {p : Program} {root : Heap} (m : Memory) (place : ℕ) (new : Filling) → Good p root m → FillingWithin m.heap new → Became (object_at m.heap place) (refilled (object_at m.heap place) new) → SafeIn p root m Free (refill place new)
refill_in {p} m place new good h same = λ base low.
    let o : Object = refilled (object_at m.heap place) new in
    let up : Grown p m.heap (slice_set m.heap place o) = grown_set m.heap place o same in
    let w : ObjectWithin m.heap o = refilled_within m.heap (object_at m.heap place) new (object_within m place good) h in (
      grown_on low up,
      record {
        heap = objects_set (slice_set m.heap place o) m.heap place o (objects_on m.heap (slice_set m.heap place o) m.heap up good.heap) (object_on m.heap (slice_set m.heap place o) o up w);
        scope = scope_on m.heap (slice_set m.heap place o) m.scope up good.scope;
        goes_on = grown_on good.goes_on (grown_set m.heap place o same);
        rows = rows_set p m.heap place o up good.heap good.rows;
        classes = λ c. set_one m.heap place o (same_class (object_at m.heap place) o same.same) (good.classes c);
      },
      tt,
    )

pub safe_values : {p : Program} (n : Heap) (place : ℕ) (vs : List Value) → AreWithin n vs → Safe p n Free (refill place (of_values vs))
safe_values n place vs h = record { keeps = λ root m good le. refill_in m place (of_values vs) good (are_on n m.heap vs le h) (filled_values (object_at m.heap place) vs) }

pub safe_pairs : {p : Program} (n : Heap) (place : ℕ) (qs : List (Value × Value)) → PairsWithin n qs → Safe p n Free (refill place (of_pairs qs))
safe_pairs n place qs h = record { keeps = λ root m good le. refill_in m place (of_pairs qs) good (pairs_on n m.heap qs le h) (filled_pairs (object_at m.heap place) qs) }

pub safe_at : {p : Program} {A : Type 0} (n : Heap) (P : Heap → A → Type 0) (place : ℕ) (f : Object → Action A) → ((o : Object) (k : Heap) → Grown p n k → ObjectWithin k o → Safe p k P (f o)) → Safe p n P (at_place place f)
safe_at n P place f h = record { keeps = λ root m good le base low. (h (object_at m.heap place) m.heap le (object_within m place good)).keeps root m good (grown_self m.heap) base low }

-- what is said of the value is said of its object
abbrev pub IsAt : Program → Heap → Value → Object → Type 0
IsAt p n v o = (kind_of n v ≡ kind_of_object o) × (is_raised_at p n v ≡ is_raised p o)

pub safe_at_value : {p : Program} {A : Type 0} (n : Heap) (P : Heap → A → Type 0) (place : ℕ) (f : Object → Action A) →
    ((o : Object) (k : Heap) → Grown p n k → ObjectWithin k o → IsAt p k (ref place) o → Safe p k P (f o)) → Safe p n P (at_place place f)
safe_at_value n P place f h = record { keeps = λ root m good le base low. (h (object_at m.heap place) m.heap le (object_within m place good) (refl, refl)).keeps root m good (grown_self m.heap) base low }

-- the object is still the same
pub safe_at_now : {p : Program} {A : Type 0} (n : Heap) (P : Heap → A → Type 0) (place : ℕ) (f : Object → Action A) →
    ((root : Heap) (m : Memory) → Good p root m → Grown p n m.heap → (o : Object) → o ≡ object_at m.heap place → ObjectWithin m.heap o → SafeIn p root m P (f o)) → Safe p n P (at_place place f)
safe_at_now n P place f h = record { keeps = λ root m good le base low. h root m good le (object_at m.heap place) refl (object_within m place good) base low }

-- one entry more of an instance or a class
pub enter_instance : {p : Program} {root : Heap} (m : Memory) (place c name : ℕ) (es : Entries) (v : Value) → Good p root m → object.instance c es ≡ object_at m.heap place → EntriesWithin m.heap es → IsWithin m.heap v → SafeIn p root m Free (refill place (of_entries (with_entry es name v)))
enter_instance m place c name es v good e h w =
    refill_in m place (of_entries (with_entry es name v)) good (with_entry_within m.heap es name v h w) (subst (λ o. Became o (refilled o (of_entries (with_entry es name v)))) e (filled_instance c name es v))

pub enter_class : {p : Program} {root : Heap} (m : Memory) (place c name : ℕ) (es : Entries) (v : Value) → Good p root m → object.class c es ≡ object_at m.heap place → EntriesWithin m.heap es → IsWithin m.heap v → SafeIn p root m Free (refill place (of_entries (with_entry es name v)))
enter_class m place c name es v good e h w =
    refill_in m place (of_entries (with_entry es name v)) good (with_entry_within m.heap es name v h w) (subst (λ o. Became o (refilled o (of_entries (with_entry es name v)))) e (filled_class c name es v))

-- ---- the scope

pub safe_changes : {p : Program} {A : Type 0} (n : Heap) (P : Heap → A → Type 0) (f : Scope → Scope) (a : Action A) → ((c : Scope) (k : Heap) → Grown p n k → ScopeWithin k c → ScopeWithin k (f c)) → Safe p n P a → Safe p n P (changes f a)
safe_changes n P f a g h = record { keeps = λ root m good le base low. h.keeps root (with_scope (f m.scope) m) (record { heap = good.heap; scope = g m.scope m.heap le good.scope; classes = good.classes; goes_on = good.goes_on; rows = good.rows }) le base low }

pub safe_afterwards : {p : Program} {A : Type 0} (n : Heap) (P : Heap → A → Type 0) (a : Action A) (f : Scope → Scope) → ((k : Heap) (x : A) → P k x → Safe p k P (gives x)) → ((c : Scope) (k : Heap) → Grown p n k → ScopeWithin k c → ScopeWithin k (f c)) → Safe p n P a → Safe p n P (afterwards a f)
safe_afterwards n P a f gv g h =
    safe_attempt n P P a (λ x. changes f (gives x)) (λ v. changes f (raises v)) h
    (λ x k le w. safe_changes k P f (gives x) (λ c j le' good. g c j (grown_on le le') good) (gv k x w))
    (λ v k le w. safe_changes k P f (raises v) (λ c j le' good. g c j (grown_on le le') good) (safe_raises k P v w))

-- ---- choices, and what is raised

pub safe_tells : {p : Program} {A : Type 0} (n : Heap) (P : Heap → A → Type 0) (e : Event) (a : Action A) → Safe p n P a → Safe p n P (tells e a)
safe_tells n P e a h = record { keeps = λ root m good le base low. (tt, h.keeps root m good le base low) }

pub safe_pick : {p : Program} (n : Heap) (k : ℕ) → Safe p n Free (pick k)
safe_pick n zero = safe_give n Free 0 (λ k le. tt)
safe_pick n (suc zero) = safe_give n Free 0 (λ k le. tt)
safe_pick n (suc (suc k)) = safe_takes n Free _ (λ c. safe_give n Free (c % suc (suc k)) (λ j le. tt))

pub safe_anything : {p : Program} (n : Heap) → Safe p n IsWithin anything
safe_anything n = safe_allocate n (object.outside term.any) tt

pub safe_either : {p : Program} (n : Heap) → Safe p n IsWithin either_truth
safe_either n = safe_takes n IsWithin _ (λ c. safe_give n IsWithin (truth (is_even c)) (λ k le. tt))

pub safe_raise : {p : Program} {A : Type 0} (n : Heap) (P : Heap → A → Type 0) (name : List ℕ) → Safe p n P (raise_builtin name)
safe_raise n P name = safe_bind n IsWithin P (allocate (object.outside (term.class name))) (λ v. raises v) (safe_allocate n (object.outside (term.class name)) tt) (λ v k le p. safe_raises k P v p)

pub safe_may : {p : Program} (n : Heap) → Safe p n Free may_raise
safe_may n = safe_takes n Free _ (λ c. safe_if n Free _ _ _ (safe_raise n Free _) (safe_done n))

pub safe_fails : {p : Program} {A : Type 0} (n : Heap) (P : Heap → A → Type 0) (line : ℕ) (kind : FaultKind) → Safe p n P (fails line kind)
safe_fails n P line kind = safe_tells n P _ _ (safe_raise n P _)

pub safe_one : {p : Program} {A : Type 0} (n : Heap) (xs : List A) → Safe p n Free (one_of xs)
safe_one n xs = safe_bind n Free Free (pick (length xs)) _ (safe_pick n (length xs)) (λ i k le h. safe_give k Free (slice_get xs i) (λ j le'. tt))

-- ---- what is chosen by an option

pub safe_option : {p : Program} {A B : Type 0} (n : Heap) (P : Heap → A → Type 0) (o : Option B) (f : B → Action A) (a : Action A) → ((x : B) → Safe p n P (f x)) → Safe p n P a → Safe p n P (elim o [ None ↦ a | Some x ↦ f x ])
safe_option n P None f a h k = k
safe_option n P (Some x) f a h k = h x

-- where it is known which option it is
pub safe_known : {p : Program} {A B : Type 0} (n : Heap) (P : Heap → A → Type 0) (o : Option B) (f : B → Action A) (a : Action A) → ((x : B) → o ≡ Some x → Safe p n P (f x)) → Safe p n P a → Safe p n P (elim o [ None ↦ a | Some x ↦ f x ])
safe_known n P None f a h k = k
safe_known n P (Some x) f a h k = h x refl

pub safe_found : {p : Program} {A : Type 0} (n : Heap) (P : Heap → A → Type 0) (o : Option Value) (f : Value → Action A) (a : Action A) → OptionWithin n o → ((v : Value) → IsWithin n v → Safe p n P (f v)) → Safe p n P a → Safe p n P (elim o [ None ↦ a | Some v ↦ f v ])
safe_found n P None f a w h k = k
safe_found n P (Some v) f a w h k = h v w

-- ---- lists of values

pub safe_gives : {p : Program} (n : Heap) (v : Value) → IsWithin n v → Safe p n IsWithin (gives v)
safe_gives n v h = safe_give n IsWithin v (λ k le. within_on n k v le h)

pub safe_gives_all : {p : Program} (n : Heap) (vs : List Value) → AreWithin n vs → Safe p n AreWithin (gives vs)
safe_gives_all n vs h = safe_give n AreWithin vs (λ k le. are_on n k vs le h)

pub safe_gives_pairs : {p : Program} (n : Heap) (qs : List (Value × Value)) → PairsWithin n qs → Safe p n PairsWithin (gives qs)
safe_gives_pairs n qs h = safe_give n PairsWithin qs (λ k le. pairs_on n k qs le h)
