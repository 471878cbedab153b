-- Subscripts, attributes and tests of classes keep values within the heap.
use Rattle.std.proofs.Common.{ℕ, zero, suc, Bool, true, false, ◌==◌, if◌then◌else◌, List, [], ◌∷◌, length, Option, Some, None, slice_get, slice_set, ◌≡◌, inl, inr, refl, ◌∙◌, ap}
use Rattle.std.specs.Prelude.{codes, is_some}
use Rattle.std.specs.Option.{option_and_then}
use Rattle.builtin_stubs.specs.declared.basic.Basic.{Basic}
use Rattle.builtin_stubs.specs.declared.basic.Basic.TheVariants as kind
use Rattle.builtin_stubs.specs.declared.native.NativeSort.{NativeSort}
use Rattle.builtin_stubs.specs.declared.native.NativeSort.TheVariants as sort
use Rattle.builtin_stubs.specs.declared.parts.Part.{Part}
use Rattle.builtin_stubs.specs.declared.parts.Part.TheVariants as part
use Rattle.builtin_stubs.specs.Kinds.{part_of as part_of_kind, kind_of_instance, kind_of_term}
use Rattle.builtin_stubs.specs.Meanings.{Native}
use Rattle.builtin_stubs.specs.Natives.{natives, method_number, function_number}
use Rattle.type_terms.specs.BuiltinNames.{is_instance_name}
use Rattle.type_terms.specs.Terms as term
use Rattle.type_terms.specs.Terms.{Term}
use Rattle.py_meaning.specs.Values.{Value, none, text, octets, ref, Entries, entry}
use Rattle.py_meaning.specs.Objects as object
use Rattle.py_meaning.specs.Objects.{Object, Foreign, builtin, stub_fun, stub_class, stub_method, object_at, is_unfollowed}
use Rattle.py_meaning.specs.Events.{Holder, on_instance, on_class, on_another, unsupported_operands}
use Rattle.py_meaning.specs.Programs.{Program, chain, exception_base, or_else, text_at}
use Rattle.py_meaning.specs.StubItems.{StubClass, stub_class_at, stub_at, Item, of_type, a_function, a_class, a_method, item_in, member_of, bases, exceptions_above}
use Rattle.py_meaning.specs.Fresh.{value_of_row}
use Rattle.py_meaning.specs.Contents.{Content, contents, pairs, Pair, read}
use Rattle.py_meaning.specs.Iteration.{Step, no_items, ended, element, iterate}
use Rattle.py_meaning.specs.Subscripts as subscript
use Rattle.py_meaning.specs.Subscripts.{read_one, part_of, value_in, value_at, read_part, read_item, store_part, with_pair, store_item, sliced, slice_object, read_slice, unpacked, place_at, part_from, unpack_one, unpack_from, unpack}
use Rattle.py_meaning.specs.Attributes as attribute
use Rattle.py_meaning.specs.Attributes.{lacks, is_init, members_if, members_of, look_up, bound_object, bound_to, base_init, native_attribute, kind_attribute, otherwise_of_instance, instance_attribute, class_attribute, item_value, module_attribute, member_value, after_bases, stub_attribute, foreign_attribute, outside_attribute, object_attribute, read_attribute, takes_attributes, store_attribute, super_member, super_of_object, super_attribute}
use Rattle.py_meaning.specs.ClassTests.{Test, yes_it_has, no_it_lacks, perhaps, decided, test_class, class_of_object, tuple_parts, some_part, part_test, may_match_with, may_match, tuple_test, object_test, matches_object, matches, may_pass}
use Rattle.py_meaning.specs.Actions.{Memory, Action, gives, looks, bind, allocate, refill, anything, is_even, pick, one_of, raise_builtin, done}
use Rattle.py_meaning.specs.Receivers.{is_raised_at, IsTakenAs, IsMethodOf}
use Rattle.py_meaning.proofs.Growing.{Heap, Grown, grown_self}
use Rattle.py_meaning.proofs.Pointing.{sort_on, AreWithin, EntriesWithin, IsWithin, ObjectWithin, ObjectsWithin, OptionWithin, PairsWithin, are_on, entry_within, get_within, object_on, pairs_on, set_within, within_on, loosely}
use Rattle.py_meaning.proofs.Kept.{SafeIn, IsAt, safe_at_value, safe_at_now, enter_instance, enter_class, safe_known, safe_give, Good, Safe, Free, safe_bind, safe_takes, safe_looks, safe_if, safe_allocate, safe_done, safe_values, safe_pairs, safe_at, object_within, safe_pick, safe_anything, safe_raise, safe_fails, safe_tells, safe_may, safe_option, safe_found, safe_gives, safe_gives_all}
use Rattle.py_meaning.proofs.KeptValues.{text_safe, octets_safe, kind_safe, row_value_safe, fresh_safe, ContentWithin, ContentsWithin, ContentPairsWithin, contents_on, contents_within, contents_at_within, content_pairs_within, read_safe, read_all_safe, StepWithin, iterate_safe, drain_safe}
use Rattle.py_meaning.specs.Truth.{has_parts}

-- ---- subscripts: what is read

abbrev pub OneWithin : Heap → Option Content → Type 0
OneWithin n None = Unit {0}
OneWithin n (Some c) = ContentWithin n c

one_within : (n : Heap) (cs : List Content) (i : ℕ) → ContentsWithin n cs → OneWithin n (slice_get cs i)
one_within n [] i h = tt
one_within n (c ∷ cs) zero h = h.0
one_within n (c ∷ cs) (suc i) h = one_within n cs i h.1

read_one_safe : (p : Program) (error : List ℕ) (n : Heap) (o : Option Content) → OneWithin n o → Safe p n IsWithin (read_one p error o)
read_one_safe p error n None h = safe_raise n IsWithin error
read_one_safe p error n (Some c) h = read_safe p n c h

-- one of some contents, as an action that gives an option
gives_content : {p : Program} (n : Heap) (cs : List Content) → ContentsWithin n cs → Safe p n OneWithin (one_of cs)
gives_content n cs h = safe_bind n Free OneWithin (pick (length cs)) _ (safe_pick n (length cs)) (λ i k le w. gives_one k (slice_get cs i) (one_within k cs i (contents_on n k cs le h)))
  where
    gives_one : {p : Program} (n : Heap) (o : Option Content) → OneWithin n o → Safe p n OneWithin (gives o)
    gives_one n None h = safe_give n OneWithin None (λ k le. tt)
    gives_one n (Some c) h = safe_give n OneWithin (Some c) (λ k le. (contents_on n k (c ∷ []) le (h, tt)).0)

pub part_safe : (p : Program) (n : Heap) (cs : List Content) → ContentsWithin n cs → Safe p n IsWithin (part_of p cs)
part_safe p n cs h = safe_bind n OneWithin IsWithin _ _ (gives_content n cs h) (λ o k le w. read_one_safe p _ k o w)

abbrev pub OnePairWithin : Heap → Option Pair → Type 0
OnePairWithin n None = Unit {0}
OnePairWithin n (Some q) = ContentWithin n q.0 × ContentWithin n q.1

pub one_pair_within : (n : Heap) (qs : List Pair) (i : ℕ) → ContentPairsWithin n qs → OnePairWithin n (slice_get qs i)
one_pair_within n [] i h = tt
one_pair_within n (q ∷ qs) zero h = (h.0, h.1)
one_pair_within n (q ∷ qs) (suc i) h = one_pair_within n qs i h.2

value_of_pair : (p : Program) (n : Heap) (o : Option Pair) → OnePairWithin n o → Safe p n IsWithin (elim o [ None ↦ raise_builtin (codes "KeyError") | Some r ↦ read p r.1 ])
value_of_pair p n None h = safe_raise n IsWithin _
value_of_pair p n (Some q) h = read_safe p n q.1 h.1

pair_gives : {p : Program} (n : Heap) (o : Option Pair) → OnePairWithin n o → Safe p n OnePairWithin (gives o)
pair_gives n None h = safe_give n OnePairWithin None (λ k le. tt)
pair_gives n (Some q) h = safe_give n OnePairWithin (Some q) (λ k le. ((contents_on n k (q.0 ∷ []) le (h.0, tt)).0, (contents_on n k (q.1 ∷ []) le (h.1, tt)).0))

content_pairs_later : {p : Program} (n k : Heap) (o : Object) → Grown p n k → ObjectWithin n o → ContentPairsWithin k (pairs o)
content_pairs_later n k o le h = content_pairs_within k o (object_on n k o le h)

value_in_safe : (p : Program) (n : Heap) (o : Object) → ObjectWithin n o → Safe p n IsWithin (value_in p o)
value_in_safe p n o h =
    safe_bind n OnePairWithin IsWithin _ _ (safe_bind n Free OnePairWithin (pick (length (pairs o))) _ (safe_pick n _) (λ i k le w. pair_gives k _ (one_pair_within k (pairs o) i (content_pairs_later n k o le h)))) (λ q k le w. value_of_pair p k q w)

dict_safe : (p : Program) {root : Heap} (m : Memory) (v : Value) (line : ℕ) → Good p root m → Safe p m.heap IsWithin (value_at p m.heap v line)
dict_safe p m (ref place) line good = value_in_safe p m.heap (object_at m.heap place) (object_within m place good)
dict_safe p m none line good = safe_fails m.heap IsWithin line _
dict_safe p m _ line good = safe_fails m.heap IsWithin line _

read_part_safe : (p : Program) {root : Heap} (m : Memory) (v : Value) (line : ℕ) (o : Option Part) → Good p root m → Safe p m.heap IsWithin (read_part p m.heap v line o)
read_part_safe p m v line (Some (part.Kind k)) good = kind_safe m.heap k
read_part_safe p m v line (Some part.OwnElements) good = part_safe p m.heap _ (contents_at_within m v good)
read_part_safe p m v line (Some part.OwnValues) good = dict_safe p m v line good
read_part_safe p m v line None good = safe_fails m.heap IsWithin line _
read_part_safe p m v line _ good = safe_fails m.heap IsWithin line _

pub read_item_safe : (p : Program) (line : ℕ) (n : Heap) (v i : Value) → Safe p n IsWithin (read_item p line v i)
read_item_safe p line n v i =
    safe_looks n IsWithin _ (λ root m good le. safe_if m.heap IsWithin (object.is_unfollowed_at m.heap v) _ _ (safe_anything m.heap)
    (safe_if m.heap IsWithin (subscript.fits_index m.heap v i) _ _ (read_part_safe p m v line (part_of_kind (object.kind_of m.heap v)) good) (safe_fails m.heap IsWithin line unsupported_operands)))

-- ---- subscripts: what is stored

store_part_safe : {p : Program} (place : ℕ) (n : Heap) (vs : List Value) (v : Value) → AreWithin n vs → IsWithin n v → Safe p n Free (store_part place vs v)
store_part_safe place n [] v h k = safe_raise n Free _
store_part_safe place n (x ∷ xs) v h k = safe_bind n Free Free (pick (length (x ∷ xs))) (λ i. refill place (object.of_values (slice_set (x ∷ xs) i v))) (safe_pick n (length (x ∷ xs))) (λ i j le w. safe_values j place ((slice_set (x ∷ xs) i v)) (set_within j (x ∷ xs) i v (are_on n j (x ∷ xs) le h) (within_on n j v le k)))

with_pair_within : (n : Heap) (qs : List (Value × Value)) (i : ℕ) (k v : Value) → PairsWithin n qs → IsWithin n k → IsWithin n v → PairsWithin n (with_pair qs i k v)
with_pair_within n [] i k v h a b = (a, b, tt)
with_pair_within n (q ∷ qs) zero k v h a b = (h.0, b, h.2)
with_pair_within n (q ∷ qs) (suc i) k v h a b = (h.0, h.1, with_pair_within n qs i k v h.2 a b)

store_object_safe : {p : Program} (place line : ℕ) (n : Heap) (i v : Value) (o : Object) → ObjectWithin n o → IsWithin n i → IsWithin n v → Safe p n Free (subscript.store_in_object place line i v o)
store_object_safe place line n i v (object.list site xs) h a b = store_part_safe place n xs v h b
store_object_safe place line n i v (object.dict site qs) h a b =
    safe_bind n Free Free (pick (suc (length qs))) (λ c. refill place (object.of_pairs (with_pair qs c i v))) (safe_pick n (suc (length qs))) (λ c j le w. safe_pairs j place ((with_pair qs c i v)) (with_pair_within j qs c i v (pairs_on n j qs le h) (within_on n j i le a) (within_on n j v le b)))
store_object_safe place line n i v (object.outside (term.list t)) h a b = safe_done n
store_object_safe place line n i v (object.outside (term.dict t u)) h a b = safe_done n
store_object_safe place line n i v o h a b = safe_if n Free (is_unfollowed o) _ _ (safe_done n) (safe_fails n Free line unsupported_operands)

pub store_item_safe : {p : Program} (line : ℕ) (n : Heap) (c i v : Value) → IsWithin n i → IsWithin n v → Safe p n Free (store_item line c i v)
store_item_safe line n (ref place) i v a b = safe_at n Free place _ (λ o k le w. store_object_safe place line k i v o w (within_on n k i le a) (within_on n k v le b))
store_item_safe line n none i v a b = safe_fails n Free line _
store_item_safe line n _ i v a b = safe_fails n Free line _

-- ---- slices and unpacking

if_within : (n : Heap) (b : Bool) (vs ws : List Value) → AreWithin n vs → AreWithin n ws → AreWithin n (if b then vs else ws)
if_within n true vs ws h k = h
if_within n false vs ws h k = k

sliced_safe : {p : Program} (n : Heap) (vs : List Value) → AreWithin n vs → Safe p n AreWithin (sliced vs)
sliced_safe n [] h = safe_gives_all n [] tt
sliced_safe n (x ∷ xs) h =
    safe_takes n AreWithin _ (λ c. safe_bind n AreWithin AreWithin _ _ (sliced_safe n xs h.1) (λ ys k le w. safe_gives_all k _ (if_within k (is_even c) (x ∷ ys) ys (within_on n k x le h.0, w) w)))

slice_object_safe : (p : Program) (site line : ℕ) (n : Heap) (v : Value) (o : Object) → IsWithin n v → ObjectWithin n o → Safe p n IsWithin (slice_object p site line v o)
slice_object_safe p site line n v (object.list own xs) a h = safe_bind n AreWithin IsWithin _ _ (sliced_safe n xs h) (λ ys k le w. safe_allocate k _ w)
slice_object_safe p site line n v (object.tuple own layout xs) a h = safe_bind n AreWithin IsWithin _ _ (sliced_safe n xs h) (λ ys k le w. safe_allocate k _ w)
slice_object_safe p site line n v (object.outside (term.list t)) a h = safe_bind n AreWithin IsWithin _ _ (drain_safe p n v a) (λ ys k le w. safe_allocate k _ w)
slice_object_safe p site line n v (object.outside (term.tuple ts)) a h = safe_bind n AreWithin IsWithin _ _ (drain_safe p n v a) (λ ys k le w. safe_allocate k _ w)
slice_object_safe p site line n v (object.outside (term.tuple_of t)) a h = safe_bind n AreWithin IsWithin _ _ (drain_safe p n v a) (λ ys k le w. safe_allocate k _ w)
slice_object_safe p site line n v o a h = safe_if n IsWithin (is_unfollowed o) _ _ (safe_anything n) (safe_fails n IsWithin line unsupported_operands)

pub slice_safe : (p : Program) (site line : ℕ) (n : Heap) (v : Value) → IsWithin n v → Safe p n IsWithin (read_slice p site line v)
slice_safe p site line n (text e) a = text_safe n
slice_safe p site line n (octets e) a = octets_safe n
slice_safe p site line n (ref place) a = safe_at n IsWithin place _ (λ o k le w. slice_object_safe p site line k (ref place) o (within_on n k (ref place) le a) w)
slice_safe p site line n _ a = safe_fails n IsWithin line _

unpacked_safe : {p : Program} (line : ℕ) (n : Heap) (one : Step) → StepWithin n one → Safe p n IsWithin (unpacked line one)
unpacked_safe line n no_items h = safe_fails n IsWithin line _
unpacked_safe line n ended h = safe_raise n IsWithin _
unpacked_safe line n (element v) h = safe_gives n v h

place_safe : {p : Program} (n : Heap) (vs : List Value) (i count : ℕ) → AreWithin n vs → Safe p n IsWithin (place_at vs i count)
place_safe n vs i count h = safe_if n IsWithin (length vs == count) _ _ (safe_found n IsWithin (slice_get vs i) _ _ (get_within n vs i h) (λ v w. safe_gives n v w) (safe_raise n IsWithin _)) (safe_raise n IsWithin _)

iterated_safe : (p : Program) (line : ℕ) (n : Heap) (v : Value) → IsWithin n v → Safe p n IsWithin (bind (iterate p v) (unpacked line))
iterated_safe p line n v a = safe_bind n StepWithin IsWithin _ _ (iterate_safe p n v a) (λ one k le w. unpacked_safe line k one w)

part_from_safe : (p : Program) (line i count : ℕ) (n : Heap) (v : Value) (o : Object) → IsWithin n v → ObjectWithin n o → Safe p n IsWithin (part_from p line i count v o)
part_from_safe p line i count n v (object.tuple site object.places vs) a h = place_safe n vs i count h
part_from_safe p line i count n v (object.tuple site object.parts vs) a h = iterated_safe p line n v a
part_from_safe p line i count n v o a h = iterated_safe p line n v a

unpack_one_safe : (p : Program) (line i count : ℕ) (n : Heap) (v : Value) → IsWithin n v → Safe p n IsWithin (unpack_one p line i count v)
unpack_one_safe p line i count n (ref place) a = safe_at n IsWithin place _ (λ o k le w. part_from_safe p line i count k (ref place) o (within_on n k (ref place) le a) w)
unpack_one_safe p line i count n none a = iterated_safe p line n none a
unpack_one_safe p line i count n v a = iterated_safe p line n v a

unpack_from_safe : (p : Program) (line count : ℕ) (n : Heap) (v : Value) (i : ℕ) (got : List Value) → IsWithin n v → AreWithin n got → Safe p n AreWithin (unpack_from p line count v i got)
unpack_from_safe p line count n v zero got a h = safe_gives_all n got h
unpack_from_safe p line count n v (suc i) got a h =
    safe_bind n Free AreWithin _ _ (safe_may n) (λ x k le w. safe_bind k IsWithin AreWithin _ _ (unpack_one_safe p line i count k v (within_on n k v le a)) (λ u j le' y.
    unpack_from_safe p line count j v i (u ∷ got) (within_on k j v le' (within_on n k v le a)) (y, are_on k j got le' (are_on n k got le h))))

pub unpack_safe : (p : Program) (line count : ℕ) (n : Heap) (v : Value) → IsWithin n v → Safe p n AreWithin (unpack p line count v)
unpack_safe p line count n v a = unpack_from_safe p line count n v count [] a tt

-- ---- attributes

pub lacks_safe : {p : Program} {A : Type 0} (n : Heap) (P : Heap → A → Type 0) (line : ℕ) (holder : Holder) (name : ℕ) → Safe p n P (lacks line holder name)
lacks_safe n P line holder name = safe_tells n P _ _ (safe_raise n P _)

abbrev EntriesOption : Heap → Option Entries → Type 0
EntriesOption n None = Unit {0}
EntriesOption n (Some es) = EntriesWithin n es

if_entries : (n : Heap) (b : Bool) (es : Entries) → EntriesWithin n es → EntriesOption n (if b then Some es else None)
if_entries n true es h = h
if_entries n false es h = tt

members_if_within : (n : Heap) (c : ℕ) (o : Object) → ObjectWithin n o → EntriesOption n (members_if c o None)
members_if_within n c (object.class d es) h = if_entries n (c == d) es h
members_if_within n c (object.list site vs) h = tt
members_if_within n c _ h = tt

members_or : (n : Heap) (o : Option Entries) (es : Entries) → EntriesOption n o → EntriesWithin n es → EntriesWithin n (elim o [ Some ds ↦ ds | None ↦ es ])
members_or n None es h k = k
members_or n (Some ds) es h k = h

pub members_within : (n : Heap) (os : List Object) (c : ℕ) → ObjectsWithin n os → EntriesWithin n (members_of os c)
members_within n [] c h = tt
members_within n (o ∷ os) c h = members_or n (members_if c o None) (members_of os c) (members_if_within n c o h.0) (members_within n os c h.1)

or_else_within : (n : Heap) (o q : Option Value) → OptionWithin n o → OptionWithin n q → OptionWithin n (or_else o q)
or_else_within n None q h k = k
or_else_within n (Some v) q h k = h

look_up_within : (n : Heap) (os : List Object) (cs : List ℕ) (name : ℕ) → ObjectsWithin n os → OptionWithin n (look_up os cs name)
look_up_within n os [] name h = tt
look_up_within n os (c ∷ cs) name h = or_else_within n (entry (members_of os c) name) (look_up os cs name) (entry_within n (members_of os c) name (members_within n os c h)) (look_up_within n os cs name h)

bound_object_safe : {p : Program} (n : Heap) (receiver v : Value) (o : Object) → IsWithin n receiver → IsWithin n v → Safe p n IsWithin (bound_object receiver v o)
bound_object_safe n receiver v (object.function f) a b = safe_allocate n _ a
bound_object_safe n receiver v (object.list site vs) a b = safe_gives n v b
bound_object_safe n receiver v _ a b = safe_gives n v b

bound_safe : {p : Program} (n : Heap) (receiver v : Value) → IsWithin n receiver → IsWithin n v → Safe p n IsWithin (bound_to receiver v)
bound_safe n receiver (ref place) a b = safe_at n IsWithin place _ (λ o k le w. bound_object_safe k receiver (ref place) o (within_on n k receiver le a) (within_on n k (ref place) le b))
bound_safe n receiver none a b = safe_gives n none b
bound_safe n receiver v a b = safe_gives n v b

base_init_safe : {p : Program} (n : Heap) → Safe p n IsWithin base_init
base_init_safe n = safe_known n IsWithin (function_number (codes "base_init")) (λ i. allocate (object.foreign (builtin i))) anything (λ i e. safe_allocate n _ (codes "base_init", e)) (safe_anything n)

sort_safe : {p : Program} (n : Heap) (s : NativeSort) (a b : Action Value) → Safe p n IsWithin a → Safe p n IsWithin b → Safe p n IsWithin (elim s [ sort.Value ↦ a | _ ↦ b ])
sort_safe n sort.Value a b h k = h
sort_safe n sort.Function a b h k = k
sort_safe n _ a b h k = k

native_attribute_safe : {p : Program} (n : Heap) (receiver : Value) (number : ℕ) (o : Option Native) → IsWithin n receiver → IsMethodOf p n receiver number → Safe p n IsWithin (native_attribute receiver number o)
native_attribute_safe n receiver number None a b = safe_anything n
native_attribute_safe {p} n receiver number (Some x) a b = sort_safe n x.sort (value_of_row x) (allocate (object.bound_foreign receiver (builtin number))) (row_value_safe n x) (safe_allocate n _ ((a, loosely p n receiver number b), b))

kind_attribute_safe : (p : Program) (line : ℕ) (n : Heap) (receiver : Value) (k : Basic) (holder : Holder) (name : ℕ) → IsWithin n receiver → IsTakenAs p n receiver k → Safe p n IsWithin (kind_attribute p line receiver k holder name)
kind_attribute_safe p line n receiver k holder name a t =
    safe_known n IsWithin (method_number k (text_at p name)) (λ i. native_attribute receiver i (slice_get natives i)) (lacks line holder name) (λ i e. native_attribute_safe n receiver i _ a (k, text_at p name, t, e)) (lacks_safe n IsWithin line holder name)

init_or_lacks : (p : Program) (line : ℕ) (n : Heap) (holder : Holder) (name : ℕ) → Safe p n IsWithin (if is_init p name then base_init else lacks line holder name)
init_or_lacks p line n holder name = safe_if n IsWithin (is_init p name) base_init (lacks line holder name) (base_init_safe n) (lacks_safe n IsWithin line holder name)

otherwise_safe : (p : Program) (line : ℕ) (n : Heap) (receiver : Value) (c name : ℕ) (o : Option (List ℕ)) → IsWithin n receiver → is_raised_at p n receiver ≡ is_some o → Safe p n IsWithin (otherwise_of_instance p line receiver c name o)
otherwise_safe p line n receiver c name (Some base) a t =
    safe_known n IsWithin (method_number kind.Exception (text_at p name)) (λ i. native_attribute receiver i (slice_get natives i)) _ (λ i e. native_attribute_safe n receiver i _ a (kind.Exception, text_at p name, inr (refl, t), e)) (init_or_lacks p line n (on_instance c) name)
otherwise_safe p line n receiver c name None a t = init_or_lacks p line n (on_instance c) name

instance_attribute_safe : (p : Program) (line : ℕ) (n : Heap) (receiver : Value) (c : ℕ) (es : Entries) (name : ℕ) → IsWithin n receiver → EntriesWithin n es → is_raised_at p n receiver ≡ is_some (exception_base p c) → Safe p n IsWithin (instance_attribute p line receiver c es name)
instance_attribute_safe p line n receiver c es name a h t =
    safe_found n IsWithin (entry es name) gives (looks (λ m. elim (look_up m.heap (chain p c) name) [ Some v ↦ bound_to receiver v | None ↦ otherwise_of_instance p line receiver c name (exception_base p c) ]))
    (entry_within n es name h) (λ v w. safe_gives n v w)
    (safe_looks n IsWithin _ (λ root m good le. safe_found m.heap IsWithin (look_up m.heap (chain p c) name) (bound_to receiver) (otherwise_of_instance p line receiver c name (exception_base p c)) (look_up_within m.heap m.heap (chain p c) name good.heap)
    (λ v w. bound_safe m.heap receiver v (within_on n m.heap receiver le a) w) (otherwise_safe p line m.heap receiver c name _ (within_on n m.heap receiver le a) (sort_on p n m.heap receiver le a ∙ t))))

class_attribute_safe : (p : Program) (line : ℕ) (n : Heap) (c name : ℕ) → Safe p n IsWithin (class_attribute p line c name)
class_attribute_safe p line n c name =
    safe_looks n IsWithin _ (λ root m good le. safe_found m.heap IsWithin (look_up m.heap (chain p c) name) gives _ (look_up_within m.heap m.heap (chain p c) name good.heap) (λ v w. safe_gives m.heap v w) (init_or_lacks p line m.heap (on_class c) name))

pub item_value_safe : (p : Program) (home name : List ℕ) (n : Heap) (i : Item) → Safe p n IsWithin (item_value p home name i)
item_value_safe p home name n (of_type t) = fresh_safe p t n
item_value_safe p home name n a_function = safe_allocate n _ tt
item_value_safe p home name n a_class = safe_allocate n _ tt
item_value_safe p home name n (a_method c) = safe_anything n

module_attribute_safe : (p : Program) (line : ℕ) (n : Heap) (home : List ℕ) (name : ℕ) → Safe p n IsWithin (module_attribute p line home name)
module_attribute_safe p line n home name =
    safe_option n IsWithin (option_and_then (λ s. item_in s home (text_at p name)) (stub_at p home)) (item_value p home (text_at p name)) (lacks line on_another name) (λ i. item_value_safe p home (text_at p name) n i) (lacks_safe n IsWithin line on_another name)

member_value_safe : (p : Program) (n : Heap) (receiver : Value) (home name : List ℕ) (i : Item) → IsWithin n receiver → Safe p n IsWithin (member_value p receiver home name i)
member_value_safe p n receiver home name (of_type t) a = fresh_safe p t n
member_value_safe p n receiver home name (a_method c) a = safe_allocate n _ ((a, tt), tt)
member_value_safe p n receiver home name a_function a = safe_anything n
member_value_safe p n receiver home name a_class a = safe_anything n

after_bases_safe : (p : Program) (line : ℕ) (n : Heap) (receiver : Value) (bs : List (List ℕ)) (name : ℕ) → IsWithin n receiver → is_raised_at p n receiver ≡ has_parts bs → Safe p n IsWithin (after_bases p line receiver bs name)
after_bases_safe p line n receiver [] name a t = lacks_safe n IsWithin line _ name
after_bases_safe p line n receiver (b ∷ bs) name a t = kind_attribute_safe p line n receiver kind.Exception on_another name a (inr (refl, t))

stub_attribute_safe : (p : Program) (line : ℕ) (n : Heap) (receiver : Value) (k : StubClass) (name : ℕ) → IsWithin n receiver → is_raised_at p n receiver ≡ has_parts (exceptions_above (bases k)) → Safe p n IsWithin (stub_attribute p line receiver k name)
stub_attribute_safe p line n receiver k name a t =
    safe_option n IsWithin (member_of k (text_at p name)) (member_value p receiver k.home (text_at p name)) (after_bases p line receiver (exceptions_above (bases k)) name) (λ i. member_value_safe p n receiver k.home (text_at p name) i a) (after_bases_safe p line n receiver _ name a t)

class_sort_safe : {p : Program} (n : Heap) (s : NativeSort) (a b : Action Value) → Safe p n IsWithin a → Safe p n IsWithin b → Safe p n IsWithin (elim s [ sort.Class ↦ a | _ ↦ b ])
class_sort_safe n sort.Class a b h k = h
class_sort_safe n sort.Function a b h k = k
class_sort_safe n _ a b h k = k

foreign_attribute_safe : {p : Program} (line : ℕ) (n : Heap) (f : Foreign) (name : ℕ) → Safe p n IsWithin (foreign_attribute line f name)
foreign_attribute_safe line n (builtin i) name =
    safe_option n IsWithin (slice_get natives i) (λ row. elim row.sort [ sort.Class ↦ anything | _ ↦ lacks line on_another name ]) anything (λ row. class_sort_safe n row.sort anything (lacks line on_another name) (safe_anything n) (lacks_safe n IsWithin line _ name)) (safe_anything n)
foreign_attribute_safe line n (stub_class home own) name = safe_anything n
foreign_attribute_safe line n (stub_fun home own) name = lacks_safe n IsWithin line _ name
foreign_attribute_safe line n (stub_method home c own) name = lacks_safe n IsWithin line _ name

outside_attribute_safe : (p : Program) (line : ℕ) (n : Heap) (receiver : Value) (t : Term) (name : ℕ) → IsWithin n receiver → IsAt p n receiver (object.outside t) → Safe p n IsWithin (outside_attribute p line receiver t name)
outside_attribute_safe p line n receiver term.any name a e = safe_anything n
outside_attribute_safe p line n receiver (term.class own) name a e =
    safe_if n IsWithin (is_instance_name own) _ _ (kind_attribute_safe p line n receiver (kind_of_instance own) on_another name a (inl e.0))
    (safe_known n IsWithin (stub_class_at p own) (λ k. stub_attribute p line receiver k name) anything (λ k q. stub_attribute_safe p line n receiver k name a (e.1 ∙ ap (λ o. elim o [ None ↦ false | Some k ↦ has_parts (exceptions_above (bases k)) ]) q)) (safe_anything n))
outside_attribute_safe p line n receiver t name a e = kind_attribute_safe p line n receiver (kind_of_term t) on_another name a (inl e.0)

object_attribute_safe : (p : Program) (line : ℕ) (n : Heap) (v : Value) (name : ℕ) (o : Object) → IsWithin n v → ObjectWithin n o → IsAt p n v o → Safe p n IsWithin (object_attribute p line v name o)
object_attribute_safe p line n v name (object.instance c es) a h e = instance_attribute_safe p line n v c es name a h e.1
object_attribute_safe p line n v name (object.class c es) a h e = class_attribute_safe p line n c name
object_attribute_safe p line n v name (object.imported home) a h e = module_attribute_safe p line n home name
object_attribute_safe p line n v name (object.foreign f) a h e = foreign_attribute_safe line n f name
object_attribute_safe p line n v name (object.outside t) a h e = outside_attribute_safe p line n v t name a e
object_attribute_safe p line n v name o a h e = kind_attribute_safe p line n v (object.kind_of_object o) on_another name a (inl e.0)

pub attribute_safe : (p : Program) (line : ℕ) (n : Heap) (v : Value) (name : ℕ) → IsWithin n v → Safe p n IsWithin (read_attribute p line v name)
attribute_safe p line n (ref place) name a = safe_at_value n IsWithin place _ (λ o k le w e. object_attribute_safe p line k (ref place) name o (within_on n k (ref place) le a) w e)
attribute_safe p line n none name a = safe_looks n IsWithin _ (λ root m good le. kind_attribute_safe p line m.heap none (object.kind_of m.heap none) on_another name tt (inl refl))
attribute_safe p line n v name a = safe_looks n IsWithin _ (λ root m good le. kind_attribute_safe p line m.heap v (object.kind_of m.heap v) on_another name (within_on n m.heap v le a) (inl refl))

entered_in : {p : Program} {root : Heap} (m : Memory) (place line name : ℕ) (v : Value) (o : Object) → Good p root m → o ≡ object_at m.heap place → ObjectWithin m.heap o → IsWithin m.heap v → SafeIn p root m Free (attribute.store_in_object place line name v o)
entered_in m place line name v (object.instance c es) good e h a = enter_instance m place c name es v good e h a
entered_in m place line name v (object.class c es) good e h a = enter_class m place c name es v good e h a
entered_in {p} {root} m place line name v o good e h a = (safe_if m.heap Free (takes_attributes o) done (lacks line on_another name) (safe_done m.heap) (lacks_safe m.heap Free line on_another name)).keeps root m good (grown_self m.heap)

pub store_attribute_safe : {p : Program} (line : ℕ) (n : Heap) (c : Value) (name : ℕ) (v : Value) → IsWithin n v → Safe p n Free (store_attribute line c name v)
store_attribute_safe line n (ref place) name v a = safe_at_now n Free place (attribute.store_in_object place line name v) (λ root m good le o e w. entered_in m place line name v o good e w (within_on n m.heap v le a))
store_attribute_safe line n none name v a = lacks_safe n Free line _ name
store_attribute_safe line n _ name v a = lacks_safe n Free line _ name

super_member_safe : (p : Program) (line : ℕ) (n : Heap) (receiver : Value) (c name : ℕ) (o : Option ℕ) → IsWithin n receiver → Safe p n IsWithin (super_member p line receiver c name o)
super_member_safe p line n receiver c name None a = init_or_lacks p line n (on_instance c) name
super_member_safe p line n receiver c name (Some owner) a =
    safe_looks n IsWithin _ (λ root m good le. safe_found m.heap IsWithin (entry (members_of m.heap owner) name) (bound_to receiver) _ (entry_within m.heap (members_of m.heap owner) name (members_within m.heap m.heap owner good.heap)) (λ v w. bound_safe m.heap receiver v (within_on n m.heap receiver le a) w) (lacks_safe m.heap IsWithin line _ name))

super_object_safe : (p : Program) (line : ℕ) (n : Heap) (own : Option ℕ) (v : Value) (name : ℕ) (o : Object) → IsWithin n v → Safe p n IsWithin (super_of_object p line own v name o)
super_object_safe p line n own v name (object.instance c es) a = super_member_safe p line n v c name _ a
super_object_safe p line n own v name (object.list site vs) a = safe_anything n
super_object_safe p line n own v name _ a = safe_anything n

pub super_safe : (p : Program) (line : ℕ) (n : Heap) (own : Option ℕ) (v : Value) (name : ℕ) → IsWithin n v → Safe p n IsWithin (super_attribute p line own v name)
super_safe p line n own (ref place) name a = safe_at n IsWithin place _ (λ o k le w. super_object_safe p line k own (ref place) name o (within_on n k (ref place) le a))
super_safe p line n own none name a = safe_anything n
super_safe p line n own _ name a = safe_anything n

-- ---- tests of classes

pub decided_safe : {p : Program} (n : Heap) (t : Test) → Safe p n Free (decided t)
decided_safe n yes_it_has = safe_give n Free true (λ k le. tt)
decided_safe n no_it_lacks = safe_give n Free false (λ k le. tt)
decided_safe n perhaps = safe_takes n Free _ (λ c. safe_give n Free (is_even c) (λ k le. tt))

abbrev PartsWithin : Program → Heap → Option (Action (List Value)) → Type 0
PartsWithin p n None = Unit {0}
PartsWithin p n (Some a) = Safe p n AreWithin a

tuple_parts_within : (p : Program) (n : Heap) (o : Object) → ObjectWithin n o → PartsWithin p n (tuple_parts p o)
tuple_parts_within p n (object.tuple site layout vs) h = safe_gives_all n vs h
tuple_parts_within p n (object.outside (term.tuple ts)) h = read_all_safe p n (contents (object.outside (term.tuple ts))) (contents_within n (object.outside (term.tuple ts)) tt)
tuple_parts_within p n (object.outside (term.tuple_of t)) h = read_all_safe p n (contents (object.outside (term.tuple_of t))) (contents_within n (object.outside (term.tuple_of t)) tt)
tuple_parts_within p n _ h = tt

free_gives : {p : Program} {A : Type 0} (n : Heap) (x : A) → Safe p n Free (gives x)
free_gives n x = safe_give n Free x (λ k le. tt)

-- what looks at values within the heap
abbrev Looks : Program → (Value → Action Bool) → Type 0
Looks p inner = (v : Value) (n : Heap) → IsWithin n v → Safe p n Free (inner v)

some_part_safe : {p : Program} (inner : Value → Action Bool) → Looks p inner → (n : Heap) (vs : List Value) → AreWithin n vs → Safe p n Free (some_part inner vs)
some_part_safe inner it n [] h = free_gives n false
some_part_safe inner it n (v ∷ vs) h = safe_bind n Free Free _ _ (it v n h.0) (λ one k le w. safe_bind k Free Free _ _ (some_part_safe inner it k vs (are_on n k vs le h.1)) (λ others j le' x. free_gives j _))

parts_or : {p : Program} (n : Heap) (o : Option (Action (List Value))) (f : List Value → Action Bool) (a : Action Bool) → PartsWithin p n o → ((vs : List Value) (k : Heap) → Grown p n k → AreWithin k vs → Safe p k Free (f vs)) → Safe p n Free a → Safe p n Free (elim o [ None ↦ a | Some parts ↦ bind parts f ])
parts_or n None f a h g k = k
parts_or n (Some parts) f a h g k = safe_bind n AreWithin Free _ _ h g

part_test_safe : (p : Program) (inner : Value → Action Bool) → Looks p inner → (raised o : Object) (n : Heap) → ObjectWithin n o → Safe p n Free (part_test p inner raised o)
part_test_safe p inner it raised o n h =
    parts_or n (tuple_parts p o) (some_part inner) (gives (may_pass (test_class p raised (class_of_object o)))) (tuple_parts_within p n o h) (λ vs k le w. some_part_safe inner it k vs w) (free_gives n _)

may_match_with_safe : (p : Program) (inner : Value → Action Bool) (raised : Object) → Looks p inner → Looks p (may_match_with p inner raised)
may_match_with_safe p inner raised it (ref place) n h = safe_at n Free place _ (λ o k le w. part_test_safe p inner it raised o k w)
may_match_with_safe p inner raised it none n h = free_gives n true
may_match_with_safe p inner raised it _ n h = free_gives n true

may_match_safe : (p : Program) (fuel : ℕ) (raised : Object) → Looks p (may_match p fuel raised)
may_match_safe p zero raised = may_match_with_safe p (λ w. gives false) raised (λ v n h. free_gives n false)
may_match_safe p (suc fuel) raised = may_match_with_safe p (λ w. may_match p fuel raised w) raised (may_match_safe p fuel raised)

tuple_test_safe : (p : Program) (fuel : ℕ) (raised : Object) (n : Heap) (vs : List Value) → AreWithin n vs → Safe p n Free (tuple_test p fuel raised vs)
tuple_test_safe p fuel raised n vs h = safe_bind n Free Free _ _ (some_part_safe (may_match p fuel raised) (may_match_safe p fuel raised) n vs h) (λ b k le w. decided_safe k _)

object_test_safe : (p : Program) (fuel : ℕ) (raised o : Object) (n : Heap) → ObjectWithin n o → Safe p n Free (object_test p fuel raised o)
object_test_safe p fuel raised o n h =
    safe_if n Free (object.is_anything raised) _ _ (decided_safe n perhaps)
    (parts_or n (tuple_parts p o) (tuple_test p fuel raised) (decided (test_class p raised (class_of_object o))) (tuple_parts_within p n o h) (λ vs k le w. tuple_test_safe p fuel raised k vs w) (decided_safe n _))

matches_object_safe : (p : Program) (raised : Object) (n : Heap) (v : Value) → Safe p n Free (matches_object p raised v)
matches_object_safe p raised n (ref place) = safe_looks n Free _ (λ root m good le. object_test_safe p (length m.heap) raised (object_at m.heap place) m.heap (object_within m place good))
matches_object_safe p raised n none = decided_safe n perhaps
matches_object_safe p raised n _ = decided_safe n perhaps

pub matches_safe : (p : Program) (n : Heap) (v k : Value) → Safe p n Free (matches p v k)
matches_safe p n (ref place) k = safe_at n Free place _ (λ o j le w. matches_object_safe p o j k)
matches_safe p n none k = decided_safe n perhaps
matches_safe p n _ k = decided_safe n perhaps
