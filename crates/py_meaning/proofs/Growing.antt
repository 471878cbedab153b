-- A heap that goes on from another: each object is what it was, a class keeps its names, and where the module's classes stand
-- apart nothing but their own statements makes an object of one.
use Rattle.std.proofs.Common.{◌≡◌, ℕ, zero, suc, ◌≤◌, ◌<◌, ◌==◌, Bool, true, false, List, [], ◌∷◌, ◌++◌, length, Option, Some, None, slice_get, slice_set, unwrap_or, if◌then◌else◌, refl, sym, ap, ◌∙◌, subst, arith}
use Rattle.std.specs.Prelude.{is_some}
use Rattle.type_terms.specs.Terms as term
use Rattle.scope_rules.specs.WellFormed.{Surroundings, AreFormedStmts, AreFormedHere}
use Rattle.py_tree.specs.Tree.{Stmts}
use Rattle.py_meaning.specs.Values.{Value, Entries, entry, with_entry}
use Rattle.py_meaning.specs.Objects as object
use Rattle.py_meaning.specs.Objects.{Object, Filling, of_values, of_pairs, of_entries, refilled, object_at, kind_of_object}
use Rattle.py_meaning.specs.Programs.{Program, FunRow, fun_at}
use Rattle.py_meaning.specs.ObjectLaws.{head}
use Rattle.py_meaning.specs.ClassLaws.{class_number, class_entries, NumbersApart}
use Rattle.py_meaning.specs.Receivers.{is_raised}

abbrev pub Heap : Type 0
Heap = List Object

-- ---- programs whose classes stand apart

-- no class stands in these statements
abbrev pub IsBlock : Stmts → Type 0
IsBlock ss = (w : Surroundings) × AreFormedStmts w ss

pub record ClassesApart (p : Program) : Type 0 where
  pub body : (names : ℕ) × AreFormedHere names p.body
  pub numbers : NumbersApart p.body
  pub rows : (f : ℕ) (row : FunRow) → fun_at p f ≡ Some row → IsBlock row.body

abbrev pub Block : Program → Stmts → Type 0
Block p ss = ClassesApart p → IsBlock ss

-- ---- what becomes of an object

pub record Became (o q : Object) : Type 0 where
  pub same : head q ≡ head o
  pub names : (name : ℕ) → is_some (entry (class_entries o) name) ≡ true → is_some (entry (class_entries q) name) ≡ true

pub became_self : (o : Object) → Became o o
became_self o = record { same = refl; names = λ name e. e }

became_on : (o q r : Object) → Became o q → Became q r → Became o r
became_on o q r a b = record { same = b.same ∙ a.same; names = λ name e. b.names name (a.names name e) }

pub class_of_head : (o : Object) → class_number (head o) ≡ class_number o
class_of_head (object.class c es) = refl
class_of_head o = refl

kind_of_head : (o : Object) → kind_of_object (head o) ≡ kind_of_object o
kind_of_head (object.list site vs) = refl
kind_of_head o = refl

raised_of_head : (p : Program) (o : Object) → is_raised p (head o) ≡ is_raised p o
raised_of_head p (object.instance c es) = refl
raised_of_head p o = refl

pub same_class : (o q : Object) → head q ≡ head o → class_number q ≡ class_number o
same_class o q e = sym (class_of_head q) ∙ ap class_number e ∙ class_of_head o

pub same_kind : (o q : Object) → head q ≡ head o → kind_of_object q ≡ kind_of_object o
same_kind o q e = sym (kind_of_head q) ∙ ap kind_of_object e ∙ kind_of_head o

pub same_sort : (p : Program) (o q : Object) → head q ≡ head o → is_raised p q ≡ is_raised p o
same_sort p o q e = sym (raised_of_head p q) ∙ ap (is_raised p) e ∙ raised_of_head p o

-- ---- fillings

entry_if : (b : Bool) (es ds : Entries) (name : ℕ) → entry (if b then es else ds) name ≡ (if b then entry es name else entry ds name)
entry_if true es ds name = refl
entry_if false es ds name = refl

still_there : (b c d : Bool) (x v : Value) (o later : Option Value) → (b ≡ true → c ≡ true → d ≡ true) → (is_some o ≡ true → is_some later ≡ true) →
    is_some (if c then Some x else o) ≡ true → is_some (if b then if d then Some v else o else if c then Some x else later) ≡ true
still_there true true true x v o later h k e = refl
still_there true true false x v o later h k e = absurd (grind (arith, h refl refl))
still_there true false true x v o later h k e = refl
still_there true false false x v o later h k e = e
still_there false true d x v o later h k e = refl
still_there false false d x v o later h k e = k e

same_numbers : (a b c : ℕ) → (a == b) ≡ true → (a == c) ≡ true → (b == c) ≡ true
same_numbers a b c e f = grind (arith, e, f)

with_entry_keeps : (es : Entries) (at : ℕ) (v : Value) (name : ℕ) → is_some (entry es name) ≡ true → is_some (entry (with_entry es at v) name) ≡ true
with_entry_keeps [] at v name e = absurd (grind (arith, e))
with_entry_keeps (x ∷ es) at v name e =
    subst (λ o. is_some o ≡ true) (sym (entry_if (x.0 == at) ((at, v) ∷ es) (x ∷ with_entry es at v) name))
    (still_there (x.0 == at) (x.0 == name) (at == name) x.1 v (entry es name) (entry (with_entry es at v) name) (same_numbers x.0 at name) (with_entry_keeps es at v name) e)

pub filled_values : (o : Object) (vs : List Value) → Became o (refilled o (of_values vs))
filled_values (object.list site ws) vs = record { same = refl; names = λ name e. e }
filled_values o vs = record { same = refl; names = λ name e. e }

pub filled_pairs : (o : Object) (qs : List (Value × Value)) → Became o (refilled o (of_pairs qs))
filled_pairs (object.dict site ws) qs = record { same = refl; names = λ name e. e }
filled_pairs o qs = record { same = refl; names = λ name e. e }

pub filled_instance : (c at : ℕ) (es : Entries) (v : Value) → Became (object.instance c es) (refilled (object.instance c es) (of_entries (with_entry es at v)))
filled_instance c at es v = record { same = refl; names = λ name e. e }

pub filled_class : (c at : ℕ) (es : Entries) (v : Value) → Became (object.class c es) (refilled (object.class c es) (of_entries (with_entry es at v)))
filled_class c at es v = record { same = refl; names = with_entry_keeps es at v }

-- ---- heaps

-- Under a premise a new object is of no class of the module.
abbrev pub IsNew : Type 0 → Object → Type 0
IsNew W o = W → class_number o ≡ None

abbrev pub AreNew : Type 0 → Heap → Type 0
AreNew W [] = Unit {0}
AreNew W (o ∷ os) = IsNew W o × AreNew W os

abbrev Follows : Type 0 → Heap → Heap → Type 0
Follows W [] ks = AreNew W ks
Follows W (o ∷ os) [] = ⊥
Follows W (o ∷ os) (q ∷ qs) = Became o q × Follows W os qs

pub record Grows (W : Type 0) (n k : Heap) : Type 0 where
  pub objects : Follows W n k

-- nothing but the statements of its classes makes an object of a class of the module, where those stand apart
abbrev pub Grown : Program → Heap → Heap → Type 0
Grown p n k = Grows (ClassesApart p) n k

follows_self : (W : Type 0) (os : Heap) → Follows W os os
follows_self W [] = tt
follows_self W (o ∷ os) = (became_self o, follows_self W os)

still_new : (W : Type 0) (os qs : Heap) → AreNew W os → Follows W os qs → AreNew W qs
still_new W [] qs h w = w
still_new W (o ∷ os) [] h w = absurd w
still_new W (o ∷ os) (q ∷ qs) h w = (λ c. same_class o q w.0.same ∙ h.0 c, still_new W os qs h.1 w.1)

follows_on : (W : Type 0) (os qs rs : Heap) → Follows W os qs → Follows W qs rs → Follows W os rs
follows_on W [] qs rs h w = still_new W qs rs h w
follows_on W (o ∷ os) [] rs h w = absurd h
follows_on W (o ∷ os) (q ∷ qs) [] h w = absurd w
follows_on W (o ∷ os) (q ∷ qs) (r ∷ rs) h w = (became_on o q r h.0 w.0, follows_on W os qs rs h.1 w.1)

follows_push : (W : Type 0) (os : Heap) (o : Object) → IsNew W o → Follows W os (os ++ o ∷ [])
follows_push W [] o h = (h, tt)
follows_push W (x ∷ os) o h = (became_self x, follows_push W os o h)

follows_set : (W : Type 0) (os : Heap) (place : ℕ) (q : Object) → Became (unwrap_or (slice_get os place) (object.outside term.any)) q → Follows W os (slice_set os place q)
follows_set W [] place q h = tt
follows_set W (o ∷ os) zero q h = (h, follows_self W os)
follows_set W (o ∷ os) (suc place) q h = (became_self o, follows_set W os place q h)

follows_length : (W : Type 0) (os qs : Heap) → Follows W os qs → length os ≤ length qs
follows_length W [] qs h = omega arith
follows_length W (o ∷ os) [] h = absurd h
follows_length W (o ∷ os) (q ∷ qs) h = let rest : length os ≤ length qs = follows_length W os qs h.1 in omega arith

follows_at : (W : Type 0) (os qs : Heap) (place : ℕ) → Follows W os qs → place < length os → Became (unwrap_or (slice_get os place) (object.outside term.any)) (unwrap_or (slice_get qs place) (object.outside term.any))
follows_at W [] qs place h lt = absurd (omega (arith, lt))
follows_at W (o ∷ os) [] place h lt = absurd h
follows_at W (o ∷ os) (q ∷ qs) zero h lt = h.0
follows_at W (o ∷ os) (q ∷ qs) (suc place) h lt = follows_at W os qs place h.1 (omega (arith, lt))

pub grown_self : {W : Type 0} (n : Heap) → Grows W n n
grown_self {W} n = record { objects = follows_self W n }

pub grown_on : {W : Type 0} {n k j : Heap} → Grows W n k → Grows W k j → Grows W n j
grown_on {W} {n} {k} {j} a b = record { objects = follows_on W n k j a.objects b.objects }

pub grown_push : {W : Type 0} (n : Heap) (o : Object) → IsNew W o → Grows W n (n ++ o ∷ [])
grown_push {W} n o h = record { objects = follows_push W n o h }

pub grown_set : {W : Type 0} (n : Heap) (place : ℕ) (q : Object) → Became (object_at n place) q → Grows W n (slice_set n place q)
grown_set {W} n place q h = record { objects = follows_set W n place q h }

pub longer : {W : Type 0} {n k : Heap} → Grows W n k → length n ≤ length k
longer {W} {n} {k} g = follows_length W n k g.objects

pub became_at : {W : Type 0} {n k : Heap} (place : ℕ) → Grows W n k → place < length n → Became (object_at n place) (object_at k place)
became_at {W} {n} {k} place g lt = follows_at W n k place g.objects lt

loose_follows : (W : Type 0) (os qs : Heap) → Follows W os qs → Follows ⊥ os qs
loose_follows W [] [] h = tt
loose_follows W [] (q ∷ qs) h = (λ e. absurd e, loose_follows W [] qs h.1)
loose_follows W (o ∷ os) [] h = absurd h
loose_follows W (o ∷ os) (q ∷ qs) h = (h.0, loose_follows W os qs h.1)

-- whatever is new
pub loose : {W : Type 0} {n k : Heap} → Grows W n k → Grows ⊥ n k
loose {W} {n} {k} g = record { objects = loose_follows W n k g.objects }

class_before : (W : Type 0) (os qs : Heap) (i c : ℕ) → W → Follows W os qs → class_number (object_at qs i) ≡ Some c → class_number (object_at os i) ≡ Some c
class_before W [] [] i c w h e = e
class_before W [] (q ∷ qs) zero c w h e = sym (h.0 w) ∙ e
class_before W [] (q ∷ qs) (suc i) c w h e = class_before W [] qs i c w h.1 e
class_before W (o ∷ os) [] i c w h e = absurd h
class_before W (o ∷ os) (q ∷ qs) zero c w h e = sym (same_class o q h.0.same) ∙ e
class_before W (o ∷ os) (q ∷ qs) (suc i) c w h e = class_before W os qs i c w h.1 e

-- an object of a class was there before
pub grown_class : {W : Type 0} {n k : Heap} (i c : ℕ) → Grows W n k → W → class_number (object_at k i) ≡ Some c → class_number (object_at n i) ≡ Some c
grown_class {W} {n} {k} i c g w e = class_before W n k i c w g.objects e
