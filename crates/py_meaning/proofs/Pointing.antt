-- What is kept of each value and each object of a run: its references point into the heap, and its receiver is as its row wants it.
use Rattle.std.proofs.Common.{◌≡◌, ℕ, zero, suc, ◌≤◌, ◌<◌, ◌==◌, ◌⊎◌, inl, inr, Bool, true, false, if◌then◌else◌, List, [], ◌∷◌, ◌++◌, map, length, Option, Some, None, slice_get, slice_set, unwrap_or, refl, sym, ap, ◌∙◌, subst, arith}
use Rattle.type_terms.specs.Terms as term
use Rattle.py_meaning.specs.Values.{Value, none, truth, whole, float, text, octets, ref, Entries, entry, with_entry, without_entry}
use Rattle.builtin_stubs.specs.declared.basic.Basic.{Basic}
use Rattle.builtin_stubs.specs.declared.basic.Basic.TheVariants as kind
use Rattle.builtin_stubs.specs.Natives.{method_number}
use Rattle.py_meaning.specs.Programs.{Program}
use Rattle.py_meaning.specs.Objects as object
use Rattle.py_meaning.specs.Objects.{Object, Foreign, builtin, stub_fun, stub_class, stub_method, object_at, kind_of}
use Rattle.py_meaning.specs.ObjectLaws.{head}
use Rattle.py_meaning.specs.References as points
use Rattle.py_meaning.specs.Receivers.{is_raised_at, IsMethodOf, IsDict, HasItsDict, HasItsRow, IsUnbound}
use Rattle.py_meaning.proofs.Growing.{Heap, Grows, longer, became_at, same_kind, same_sort}

abbrev pub IsWithin : Heap → Value → Type 0
IsWithin n v = points.IsWithin (length n) v

abbrev pub AreWithin : Heap → List Value → Type 0
AreWithin n vs = points.AreWithin (length n) vs

abbrev pub EntriesWithin : Heap → Entries → Type 0
EntriesWithin n es = points.EntriesWithin (length n) es

abbrev pub PairsWithin : Heap → List (Value × Value) → Type 0
PairsWithin n qs = points.PairsWithin (length n) qs

abbrev pub OptionWithin : Heap → Option Value → Type 0
OptionWithin n o = points.OptionWithin (length n) o

-- what is kept of a bound native wherever it goes: it is a method of its receiver's kind, or of exceptions
abbrev pub MayBeTakenAs : Heap → Value → Basic → Type 0
MayBeTakenAs n v k = (kind_of n v ≡ k) ⊎ (k ≡ kind.Exception)

abbrev pub MayBeMethodOf : Heap → Value → ℕ → Type 0
MayBeMethodOf n v number = (k : Basic) × (name : List ℕ) × MayBeTakenAs n v k × (method_number k name ≡ Some number)

abbrev pub MayHaveRow : Heap → Value → Foreign → Type 0
MayHaveRow n v (builtin number) = MayBeMethodOf n v number
MayHaveRow n v _ = Unit {0}

pub loosely : (p : Program) (n : Heap) (v : Value) (number : ℕ) → IsMethodOf p n v number → MayBeMethodOf n v number
loosely p n v number (k, name, inl e, at) = (k, name, inl e, at)
loosely p n v number (k, name, inr e, at) = (k, name, inr e.0, at)

abbrev pub ObjectWithin : Heap → Object → Type 0
ObjectWithin n (object.list site vs) = AreWithin n vs
ObjectWithin n (object.tuple site layout vs) = AreWithin n vs
ObjectWithin n (object.dict site qs) = PairsWithin n qs
ObjectWithin n (object.view site native receiver vs) = OptionWithin n receiver × AreWithin n vs × HasItsDict n native receiver
ObjectWithin n (object.instance c es) = EntriesWithin n es
ObjectWithin n (object.class c es) = EntriesWithin n es
ObjectWithin n (object.function f) = Unit {0}
ObjectWithin n (object.bound receiver f) = IsWithin n receiver
ObjectWithin n (object.foreign f) = IsUnbound f
ObjectWithin n (object.bound_foreign receiver f) = IsWithin n receiver × MayHaveRow n receiver f
ObjectWithin n (object.imported home) = Unit {0}
ObjectWithin n (object.outside t) = Unit {0}

abbrev pub ObjectsWithin : Heap → List Object → Type 0
ObjectsWithin n [] = Unit {0}
ObjectsWithin n (o ∷ os) = ObjectWithin n o × ObjectsWithin n os

-- ---- what is within a heap is within each that goes on from it

pub within_on : {W : Type 0} (n k : Heap) (v : Value) → Grows W n k → IsWithin n v → IsWithin k v
within_on n k none le h = tt
within_on n k (truth b) le h = tt
within_on n k (whole z) le h = tt
within_on n k float le h = tt
within_on n k (text e) le h = tt
within_on n k (octets e) le h = tt
within_on n k (ref place) le h = let up : length n ≤ length k = longer le in omega arith

pub are_on : {W : Type 0} (n k : Heap) (vs : List Value) → Grows W n k → AreWithin n vs → AreWithin k vs
are_on n k [] le h = tt
are_on n k (v ∷ vs) le h = (within_on n k v le h.0, are_on n k vs le h.1)

pub entries_on : {W : Type 0} (n k : Heap) (es : Entries) → Grows W n k → EntriesWithin n es → EntriesWithin k es
entries_on n k [] le h = tt
entries_on n k (e ∷ es) le h = (within_on n k e.1 le h.0, entries_on n k es le h.1)

pub pairs_on : {W : Type 0} (n k : Heap) (qs : List (Value × Value)) → Grows W n k → PairsWithin n qs → PairsWithin k qs
pairs_on n k [] le h = tt
pairs_on n k (q ∷ qs) le h = (within_on n k q.0 le h.0, within_on n k q.1 le h.1, pairs_on n k qs le h.2)

pub option_on : {W : Type 0} (n k : Heap) (o : Option Value) → Grows W n k → OptionWithin n o → OptionWithin k o
option_on n k None le h = tt
option_on n k (Some v) le h = within_on n k v le h

kind_on : {W : Type 0} (n k : Heap) (v : Value) → Grows W n k → IsWithin n v → kind_of k v ≡ kind_of n v
kind_on n k (ref place) le h = same_kind (object_at n place) (object_at k place) (became_at place le h).same
kind_on n k none le h = refl
kind_on n k v le h = refl

pub sort_on : {W : Type 0} (p : Program) (n k : Heap) (v : Value) → Grows W n k → IsWithin n v → is_raised_at p k v ≡ is_raised_at p n v
sort_on p n k (ref place) le h = same_sort p (object_at n place) (object_at k place) (became_at place le h).same
sort_on p n k none le h = refl
sort_on p n k v le h = refl

pub method_on : {W : Type 0} (n k : Heap) (v : Value) (number : ℕ) → Grows W n k → IsWithin n v → MayBeMethodOf n v number → MayBeMethodOf k v number
method_on n k v number le h (b, name, inl e, at) = (b, name, inl (kind_on n k v le h ∙ e), at)
method_on n k v number le h (b, name, inr e, at) = (b, name, inr e, at)

exactly_on : {W : Type 0} (p : Program) (n k : Heap) (v : Value) (number : ℕ) → Grows W n k → IsWithin n v → IsMethodOf p n v number → IsMethodOf p k v number
exactly_on p n k v number le h (b, name, inl e, at) = (b, name, inl (kind_on n k v le h ∙ e), at)
exactly_on p n k v number le h (b, name, inr e, at) = (b, name, inr (e.0, sort_on p n k v le h ∙ e.1), at)

-- the row of a bound native
pub exact_row_on : {W : Type 0} (p : Program) (n k : Heap) (v : Value) (f : Foreign) → Grows W n k → IsWithin n v → HasItsRow p n v f → HasItsRow p k v f
exact_row_on p n k v (builtin number) le h w = exactly_on p n k v number le h w
exact_row_on p n k v (stub_fun home name) le h w = tt
exact_row_on p n k v (stub_class home name) le h w = tt
exact_row_on p n k v (stub_method home own name) le h w = tt

pub row_on : {W : Type 0} (n k : Heap) (v : Value) (f : Foreign) → Grows W n k → IsWithin n v → MayHaveRow n v f → MayHaveRow k v f
row_on n k v (builtin number) le h w = method_on n k v number le h w
row_on n k v (stub_fun home name) le h w = tt
row_on n k v (stub_class home name) le h w = tt
row_on n k v (stub_method home own name) le h w = tt

dict_on : {W : Type 0} (n k : Heap) (o : Option Value) → Grows W n k → OptionWithin n o → IsDict n o → IsDict k o
dict_on n k None le h w = absurd w
dict_on n k (Some v) le h w = kind_on n k v le h ∙ w

pub object_on : {W : Type 0} (n k : Heap) (o : Object) → Grows W n k → ObjectWithin n o → ObjectWithin k o
object_on n k (object.list site vs) le h = are_on n k vs le h
object_on n k (object.tuple site layout vs) le h = are_on n k vs le h
object_on n k (object.dict site qs) le h = pairs_on n k qs le h
object_on n k (object.view site native receiver vs) le h = (option_on n k receiver le h.0, are_on n k vs le h.1, λ row at own. dict_on n k receiver le h.0 (h.2 row at own))
object_on n k (object.instance c es) le h = entries_on n k es le h
object_on n k (object.class c es) le h = entries_on n k es le h
object_on n k (object.function f) le h = tt
object_on n k (object.bound v f) le h = within_on n k v le h
object_on n k (object.foreign f) le h = h
object_on n k (object.bound_foreign v f) le h = (within_on n k v le h.0, row_on n k v f le h.0 h.1)
object_on n k (object.imported home) le h = tt
object_on n k (object.outside t) le h = tt

pub objects_on : {W : Type 0} (n k : Heap) (os : List Object) → Grows W n k → ObjectsWithin n os → ObjectsWithin k os
objects_on n k [] le h = tt
objects_on n k (o ∷ os) le h = (object_on n k o le h.0, objects_on n k os le h.1)

chosen_within : (b : Bool) (n : Heap) (v : Value) (o : Option Value) → IsWithin n v → OptionWithin n o → OptionWithin n (if b then Some v else o)
chosen_within true n v o h k = h
chosen_within false n v o h k = k

chosen_entries : (b : Bool) (n : Heap) (es ds : Entries) → EntriesWithin n es → EntriesWithin n ds → EntriesWithin n (if b then es else ds)
chosen_entries true n es ds h k = h
chosen_entries false n es ds h k = k

-- ---- lists and entries

pub are_append : (n : Heap) (vs ws : List Value) → AreWithin n vs → AreWithin n ws → AreWithin n (vs ++ ws)
are_append n [] ws h k = k
are_append n (v ∷ vs) ws h k = (h.0, are_append n vs ws h.1 k)

pub pairs_append : (n : Heap) (vs ws : List (Value × Value)) → PairsWithin n vs → PairsWithin n ws → PairsWithin n (vs ++ ws)
pairs_append n [] ws h k = k
pairs_append n (v ∷ vs) ws h k = (h.0, h.1, pairs_append n vs ws h.2 k)

pub get_within : (n : Heap) (vs : List Value) (i : ℕ) → AreWithin n vs → OptionWithin n (slice_get vs i)
get_within n [] i h = tt
get_within n (v ∷ vs) zero h = h.0
get_within n (v ∷ vs) (suc i) h = get_within n vs i h.1

pub or_within : (n : Heap) (o : Option Value) (v : Value) → OptionWithin n o → IsWithin n v → IsWithin n (unwrap_or o v)
or_within n None v h k = k
or_within n (Some w) v h k = h

pub set_within : (n : Heap) (vs : List Value) (i : ℕ) (v : Value) → AreWithin n vs → IsWithin n v → AreWithin n (slice_set vs i v)
set_within n [] i v h k = tt
set_within n (w ∷ ws) zero v h k = (k, h.1)
set_within n (w ∷ ws) (suc i) v h k = (h.0, set_within n ws i v h.1 k)

pub firsts_within : (n : Heap) (qs : List (Value × Value)) → PairsWithin n qs → AreWithin n (map (λ q. q.0) qs)
firsts_within n [] h = tt
firsts_within n (q ∷ qs) h = (h.0, firsts_within n qs h.2)

pub seconds_within : (n : Heap) (qs : List (Value × Value)) → PairsWithin n qs → AreWithin n (map (λ q. q.1) qs)
seconds_within n [] h = tt
seconds_within n (q ∷ qs) h = (h.1, seconds_within n qs h.2)

abbrev pub PairWithin : Heap → Option (Value × Value) → Type 0
PairWithin n None = Unit {0}
PairWithin n (Some q) = IsWithin n q.0 × IsWithin n q.1

pub pair_within : (n : Heap) (qs : List (Value × Value)) (i : ℕ) → PairsWithin n qs → PairWithin n (slice_get qs i)
pair_within n [] i h = tt
pair_within n (q ∷ qs) zero h = (h.0, h.1)
pair_within n (q ∷ qs) (suc i) h = pair_within n qs i h.2

-- ---- entries

pub entry_within : (n : Heap) (es : Entries) (name : ℕ) → EntriesWithin n es → OptionWithin n (entry es name)
entry_within n [] name h = tt
entry_within n (e ∷ es) name h = chosen_within (e.0 == name) n e.1 (entry es name) h.0 (entry_within n es name h.1)

pub with_entry_within : (n : Heap) (es : Entries) (name : ℕ) (v : Value) → EntriesWithin n es → IsWithin n v → EntriesWithin n (with_entry es name v)
with_entry_within n [] name v h k = (k, tt)
with_entry_within n (e ∷ es) name v h k = chosen_entries (e.0 == name) n ((name, v) ∷ es) (e ∷ with_entry es name v) (k, h.1) (h.0, with_entry_within n es name v h.1 k)

pub without_entry_within : (n : Heap) (es : Entries) (name : ℕ) → EntriesWithin n es → EntriesWithin n (without_entry es name)
without_entry_within n [] name h = tt
without_entry_within n (e ∷ es) name h = let rest = without_entry_within n es name h.1 in chosen_entries (e.0 == name) n (without_entry es name) (e ∷ without_entry es name) rest (h.0, rest)

-- ---- the rows of bound natives, exactly

abbrev pub bound_row : Object → Option (Value × Foreign)
bound_row (object.bound_foreign v f) = Some (v, f)
bound_row _ = None

row_of_head : (o : Object) → bound_row (head o) ≡ bound_row o
row_of_head (object.list site vs) = refl
row_of_head o = refl

same_row : (o q : Object) → head q ≡ head o → bound_row q ≡ bound_row o
same_row o q e = sym (row_of_head q) ∙ ap bound_row e ∙ row_of_head o

abbrev pub RowFits : Program → Heap → Object → Type 0
RowFits p n o = (v : Value) (f : Foreign) → bound_row o ≡ Some (v, f) → HasItsRow p n v f

abbrev pub RowsFit : Program → Heap → Type 0
RowsFit p n = (place : ℕ) → RowFits p n (object_at n place)

receiver_within : (n : Heap) (o : Object) (v : Value) (f : Foreign) → bound_row o ≡ Some (v, f) → ObjectWithin n o → IsWithin n v
receiver_within n (object.bound_foreign w g) v f e h = let same : w ≡ v = grind (arith, e) in subst (IsWithin n) same h.0
receiver_within n o v f e h = absurd (cc)

pub within_at : (n : Heap) (os : List Object) (place : ℕ) → ObjectsWithin n os → ObjectWithin n (object_at os place)
within_at n [] place h = tt
within_at n (o ∷ os) zero h = h.0
within_at n (o ∷ os) (suc place) h = within_at n os place h.1

-- at the places that were there before
row_before : {W : Type 0} (p : Program) (n k : Heap) (place : ℕ) → Grows W n k → ObjectsWithin n n → RowsFit p n → place < length n → RowFits p k (object_at k place)
row_before p n k place le h r lt v f e =
    let was : bound_row (object_at n place) ≡ Some (v, f) = sym (same_row (object_at n place) (object_at k place) (became_at place le lt).same) ∙ e in
    exact_row_on p n k v f le (receiver_within n (object_at n place) v f was (within_at n n place h)) (r place v f was)

none_behind : (n : Heap) (place : ℕ) → length n ≤ place → object_at n place ≡ object.outside term.any
none_behind [] place le = refl
none_behind (o ∷ os) zero le = absurd (omega (arith, le))
none_behind (o ∷ os) (suc place) le = none_behind os place (omega (arith, le))

row_behind : (p : Program) (n : Heap) (o : Object) → o ≡ object.outside term.any → RowFits p n o
row_behind p n o e v f at = let none : None ≡ Some (v, f) = sym (ap bound_row e) ∙ at in absurd (grind (arith, none))

-- one place after those before, or none
split_place : {A : Type 0} (place size : ℕ) → (place < size → A) → (size ≤ place → A) → A
split_place zero zero f g = g (omega arith)
split_place zero (suc size) f g = f (omega arith)
split_place (suc place) zero f g = g (omega arith)
split_place (suc place) (suc size) f g = split_place place size (λ lt. f (omega (arith, lt))) (λ le. g (omega (arith, le)))

set_length : (os : Heap) (place : ℕ) (q : Object) → length (slice_set os place q) ≡ length os
set_length [] place q = refl
set_length (o ∷ os) zero q = refl
set_length (o ∷ os) (suc place) q = ap suc (set_length os place q)

pub rows_set : {W : Type 0} (p : Program) (n : Heap) (place : ℕ) (q : Object) → Grows W n (slice_set n place q) → ObjectsWithin n n → RowsFit p n → RowsFit p (slice_set n place q)
rows_set p n place q le h r i =
    split_place i (length n) (λ lt. row_before p n (slice_set n place q) i le h r lt)
    (λ far. row_behind p (slice_set n place q) (object_at (slice_set n place q) i) (none_behind (slice_set n place q) i (let same : length (slice_set n place q) ≡ length n = set_length n place q in omega arith)))

last_or_none : (n : Heap) (o : Object) (i : ℕ) → length n ≤ i → (object_at (n ++ o ∷ []) i ≡ o) ⊎ (object_at (n ++ o ∷ []) i ≡ object.outside term.any)
last_or_none [] o zero far = inl refl
last_or_none [] o (suc i) far = inr refl
last_or_none (x ∷ n) o zero far = absurd (omega (arith, far))
last_or_none (x ∷ n) o (suc i) far = last_or_none n o i (omega (arith, far))

pub rows_push : {W : Type 0} (p : Program) (n : Heap) (o : Object) → Grows W n (n ++ o ∷ []) → ObjectsWithin n n → RowsFit p n → RowFits p (n ++ o ∷ []) o → RowsFit p (n ++ o ∷ [])
rows_push p n o le h r new i = split_place i (length n) (λ lt. row_before p n (n ++ o ∷ []) i le h r lt) (λ far. behind (last_or_none n o i far))
  where
    behind : (object_at (n ++ o ∷ []) i ≡ o) ⊎ (object_at (n ++ o ∷ []) i ≡ object.outside term.any) → RowFits p (n ++ o ∷ []) (object_at (n ++ o ∷ []) i)
    behind (inl e) = λ v f at. new v f (sym (ap bound_row e) ∙ at)
    behind (inr e) = row_behind p (n ++ o ∷ []) (object_at (n ++ o ∷ []) i) e

pub rows_fit_at : (p : Program) (n : Heap) (v : Value) (f : Foreign) (place : ℕ) → RowsFit p n → object_at n place ≡ object.bound_foreign v f → HasItsRow p n v f
rows_fit_at p n v f place r e = r place v f (ap bound_row e)
