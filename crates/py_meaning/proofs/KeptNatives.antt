-- Natives and names keep values within the heap.
use Rattle.std.proofs.Common.{ℕ, zero, suc, Bool, true, false, if◌then◌else◌, List, [], ◌∷◌, ◌++◌, length, Option, Some, None, slice_get, unwrap_or}
use Rattle.std.specs.Prelude.{codes, insert, remove, take, drop}
use Rattle.std.specs.Str.{bytes_eq}
use Rattle.builtin_stubs.specs.declared.native.NativeSort.{NativeSort}
use Rattle.builtin_stubs.specs.declared.native.NativeSort.TheVariants as sort
use Rattle.builtin_stubs.specs.declared.basic.Basic.{Basic}
use Rattle.builtin_stubs.specs.declared.deed.Deed.{Deed}
use Rattle.builtin_stubs.specs.declared.deed.Deed.TheVariants as deed
use Rattle.builtin_stubs.specs.declared.parts.Effect.{Effect}
use Rattle.builtin_stubs.specs.declared.parts.Outcome.{Outcome}
use Rattle.builtin_stubs.specs.declared.parts.Outcome.TheVariants as outcome
use Rattle.builtin_stubs.specs.declared.parts.Part.{Part}
use Rattle.builtin_stubs.specs.declared.parts.Part.TheVariants as part
use Rattle.builtin_stubs.specs.declared.parts.Parts.{Parts}
use Rattle.builtin_stubs.specs.declared.parts.Parts.TheVariants as parts
use Rattle.builtin_stubs.specs.declared.parts.Place.{Place}
use Rattle.builtin_stubs.specs.declared.parts.Place.TheVariants as into
use Rattle.builtin_stubs.specs.Meanings.{Native, effects_of, outcome_of}
use Rattle.builtin_stubs.specs.Natives.{natives, function_number}
use Rattle.type_terms.specs.Terms as term
use Rattle.py_meaning.specs.Values.{Value, none, truth, text, ref, Entries, entry, with_entry}
use Rattle.py_meaning.specs.Objects as object
use Rattle.py_meaning.specs.Objects.{Object, object_at, builtin}
use Rattle.py_meaning.specs.Events.{FaultKind}
use Rattle.py_meaning.specs.Programs.{Program, text_at, is_local, is_bound}
use Rattle.py_meaning.specs.Contents.{Pair, pairs, contents, contents_at, read, read_pairs}
use Rattle.py_meaning.specs.Fresh.{of_kind, value_of_row}
use Rattle.py_meaning.specs.Iteration.{iterate, items_of, is_iterable}
use Rattle.py_meaning.specs.ClassTests.{decided, instance_test, class_at}
use Rattle.py_meaning.specs.Matching.{native_fault}
use Rattle.py_meaning.specs.Dicts.{pairs_added, add_pairs, add_two, is_outside_at, add_item, add_each, add_through, add_from_object, add_from}
use Rattle.py_meaning.specs.Natives.{values, word_pairs, call_by_texts, argument_or, gives_none, given_items, own_pairs, is_dict, given_pairs, receiver_pairs, keys_in, values_in, given, part_values, all_values, some_of, many, three, single, filled_from, new_dict, one_or_error, least_or_most, tells_class, part_value, some_value, outcome_value, same_place, entering, parts_added, add_parts, paired, effects_on, do_effects, inserts, take_part, pops, removes, clears, some_pair, gets, sets_default, pair_taken, given_or_error, pops_pair, updates, do_by_parts, do_deed, do_native, call_native}
use Rattle.py_meaning.specs.Names.{found_or, native_value, builtin_value, global_value, value_in_frame, load, with_globals, with_locals, changed_in_frame, bound, store}
use Rattle.py_meaning.specs.Actions.{Frame, Scope, Memory, Argument, Action, gives, counts, looks, bind, then_do, allocate, refill, anything, is_even, pick, one_of, raise_builtin, may_raise, fails, done}
use Rattle.py_meaning.specs.Receivers.{IsFunction}
use Rattle.py_meaning.proofs.OwnViews.{ReceiverFits, view_fits, receiver_on}
use Rattle.py_meaning.proofs.Growing.{Heap, Grown, grown_self, grown_on}
use Rattle.py_meaning.proofs.Pointing.{MayBeMethodOf, method_on, AreWithin, EntriesWithin, IsWithin, ObjectWithin, OptionWithin, PairsWithin, are_append, are_on, entry_within, firsts_within, get_within, object_on, option_on, or_within, pairs_append, pairs_on, seconds_within, with_entry_within, within_on}
use Rattle.py_meaning.proofs.Kept.{safe_known, safe_give, FrameWithin, ScopeWithin, Good, Safe, safe_changes, Free, ArgumentsWithin, safe_bind, safe_then, safe_takes, safe_counts, safe_looks, safe_if, safe_on, safe_allocate, safe_done, safe_values, safe_pairs, safe_at, object_within, safe_pick, safe_anything, safe_raise, safe_fails, safe_may, safe_option, safe_gives, safe_gives_all, safe_gives_pairs}
use Rattle.py_meaning.proofs.KeptValues.{kind_safe, row_value_safe, ContentWithin, ContentPairsWithin, contents_within, contents_at_within, content_pairs_within, read_safe, read_all_safe, read_pairs_safe, StepWithin, element_safe, iterate_safe, items_safe}
use Rattle.py_meaning.proofs.KeptParts.{part_safe, OnePairWithin, one_pair_within, decided_safe}

-- ---- dicts

pairs_added_safe : {p : Program} (place : ℕ) (n : Heap) (qs : List (Value × Value)) (o : Object) → PairsWithin n qs → ObjectWithin n o → Safe p n Free (pairs_added place qs o)
pairs_added_safe place n qs (object.dict site ps) h k = safe_pairs n place ((ps ++ qs)) (pairs_append n ps qs k h)
pairs_added_safe place n qs (object.list site vs) h k = safe_done n
pairs_added_safe place n qs _ h k = safe_done n

pub add_pairs_safe : {p : Program} (place : ℕ) (n : Heap) (qs : List (Value × Value)) → PairsWithin n qs → Safe p n Free (add_pairs place qs)
add_pairs_safe place n qs h = safe_at n Free place (pairs_added place qs) (λ o k le w. pairs_added_safe place k qs o (pairs_on n k qs le h) w)

add_two_safe : {p : Program} (place : ℕ) (n : Heap) (vs : List Value) → AreWithin n vs → Safe p n Free (add_two place vs)
add_two_safe place n (k ∷ v ∷ []) h = add_pairs_safe place n ((k, v) ∷ []) (h.0, h.1.0, tt)
add_two_safe place n [] h = safe_raise n Free (codes "ValueError")
add_two_safe place n _ h = safe_raise n Free (codes "ValueError")

add_item_safe : (p : Program) (place : ℕ) (n : Heap) (v : Value) → IsWithin n v → Safe p n Free (add_item p place v)
add_item_safe p place n v h =
    safe_looks n Free _ (λ root m good le. safe_if m.heap Free (is_outside_at m.heap v) _ _
    (safe_bind m.heap IsWithin Free anything _ (safe_anything m.heap) (λ k i le' a. safe_bind i IsWithin Free anything _ (safe_anything i) (λ w j le'' b. add_pairs_safe place j ((k, w) ∷ []) (within_on i j k le'' a, b, tt))))
    (safe_if m.heap Free (is_iterable m.heap v) _ _ (safe_bind m.heap AreWithin Free (items_of p v) (add_two place) (items_safe p m.heap v (within_on n m.heap v le h)) (λ vs i le' w. add_two_safe place i vs w)) (safe_raise m.heap Free (codes "TypeError"))))

add_each_safe : (p : Program) (place : ℕ) (n : Heap) (vs : List Value) → AreWithin n vs → Safe p n Free (add_each p place vs)
add_each_safe p place n [] h = safe_done n
add_each_safe p place n (v ∷ vs) h = safe_then n Free Free (add_item p place v) (add_each p place vs) (add_item_safe p place n v h.0) (λ k le. add_each_safe p place k vs (are_on n k vs le h.1))

add_through_safe : (p : Program) (place fuel : ℕ) (n : Heap) (v : Value) → IsWithin n v → Safe p n Free (add_through p place fuel v)
add_through_safe p place zero n v h = safe_bind n StepWithin Free (iterate p v) (λ one. done) (iterate_safe p n v h) (λ one k le w. safe_done k)
add_through_safe p place (suc fuel) n v h =
    safe_bind n StepWithin Free (iterate p v) _ (iterate_safe p n v h) (λ one k le w. element_safe k Free one (λ u. then_do (add_item p place u) (add_through p place fuel v)) done w
    (λ u x. safe_then k Free Free (add_item p place u) (add_through p place fuel v) (add_item_safe p place k u x) (λ j le'. add_through_safe p place fuel j v (within_on k j v le' (within_on n k v le h)))) (safe_done k))

through_safe : (p : Program) (place : ℕ) (n : Heap) (v : Value) → IsWithin n v → Safe p n Free (counts (λ fuel. add_through p place fuel v))
through_safe p place n v h = safe_counts n Free (λ fuel. add_through p place fuel v) (λ fuel. add_through_safe p place fuel n v h)

add_object_safe : (p : Program) (place : ℕ) (n : Heap) (v : Value) (o : Object) → IsWithin n v → ObjectWithin n o → Safe p n Free (add_from_object p place v o)
add_object_safe p place n v (object.dict site ps) a h = add_pairs_safe place n ps h
add_object_safe p place n v (object.outside (term.dict t u)) a h =
    safe_bind n PairsWithin Free (read_pairs p (pairs (object.outside (term.dict t u)))) (add_pairs place) (read_pairs_safe p n (pairs (object.outside (term.dict t u))) (content_pairs_within n (object.outside (term.dict t u)) tt)) (λ qs k le w. add_pairs_safe place k qs w)
add_object_safe p place n v (object.list site vs) a h = add_each_safe p place n vs h
add_object_safe p place n v (object.tuple site layout vs) a h = add_each_safe p place n vs h
add_object_safe p place n v _ a h = through_safe p place n v a

pub add_from_safe : (p : Program) (place : ℕ) (n : Heap) (v : Value) → IsWithin n v → Safe p n Free (add_from p place v)
add_from_safe p place n (ref other) a = safe_at n Free other (add_from_object p place (ref other)) (λ o k le w. add_object_safe p place k (ref other) o (within_on n k (ref other) le a) w)
add_from_safe p place n none a = through_safe p place n none a
add_from_safe p place n v a = through_safe p place n v a

-- ---- arguments

add_value : (n : Heap) (o : Option ℕ) (v : Value) (vs : List Value) → IsWithin n v → AreWithin n vs → AreWithin n (elim o [ None ↦ v ∷ vs | Some k ↦ vs ])
add_value n None v vs h k = (h, k)
add_value n (Some i) v vs h k = k

pub values_within : (n : Heap) (as' : List Argument) → ArgumentsWithin n as' → AreWithin n (values as')
values_within n [] h = tt
values_within n (a ∷ as') h = add_value n a.name a.value (values as') h.0 (values_within n as' h.1)

add_word : (n : Heap) (o : Option ℕ) (v : Value) (qs : List (Value × Value)) → IsWithin n v → PairsWithin n qs → PairsWithin n (elim o [ None ↦ qs | Some k ↦ (text false, v) ∷ qs ])
add_word n None v qs h k = k
add_word n (Some i) v qs h k = (tt, h, k)

words_within : (n : Heap) (as' : List Argument) → ArgumentsWithin n as' → PairsWithin n (word_pairs as')
words_within n [] h = tt
words_within n (a ∷ as') h = add_word n a.name a.value (word_pairs as') h.0 (words_within n as' h.1)

pub arguments_on : {p : Program} (n k : Heap) (as' : List Argument) → Grown p n k → ArgumentsWithin n as' → ArgumentsWithin k as'
arguments_on n k [] le h = tt
arguments_on n k (a ∷ as') le h = (within_on n k a.value le h.0, arguments_on n k as' le h.1)

argument_within : (n : Heap) (vs : List Value) (i : ℕ) (v : Value) → AreWithin n vs → IsWithin n v → IsWithin n (argument_or vs i v)
argument_within n vs i v h k = or_within n (slice_get vs i) v (get_within n vs i h) k

none_safe : {p : Program} (n : Heap) → Safe p n IsWithin gives_none
none_safe n = safe_gives n none tt

-- ---- parts of rows

given_safe : (p : Program) (n : Heap) (o : Option Value) → OptionWithin n o → Safe p n AreWithin (given_items p o)
given_safe p n None h = safe_gives_all n [] tt
given_safe p n (Some v) h = items_safe p n v h

some_of_safe : {p : Program} (fuel : ℕ) (n : Heap) (a : Action Value) (sofar : List Value) → ((k : Heap) → Grown p n k → Safe p k IsWithin a) → AreWithin n sofar → Safe p n AreWithin (some_of fuel a sofar)
some_of_safe zero n a sofar h k = safe_takes n AreWithin (λ c. gives sofar) (λ c. safe_gives_all n sofar k)
some_of_safe (suc fuel) n a sofar h k =
    safe_takes n AreWithin _ (λ c. safe_if n AreWithin (is_even c) _ _
    (safe_bind n IsWithin AreWithin a (λ v. some_of fuel a (sofar ++ v ∷ [])) (h n (grown_self n)) (λ v j le w. some_of_safe fuel j a (sofar ++ v ∷ []) (λ i le'. h i (grown_on le le')) (are_append j sofar (v ∷ []) (are_on n j sofar le k) (w, tt))))
    (safe_gives_all n sofar k))

own_pairs_within : {p : Program} {root : Heap} (m : Memory) (v : Value) → Good p root m → ContentPairsWithin m.heap (own_pairs m.heap v)
own_pairs_within m (ref place) good = content_pairs_within m.heap (object_at m.heap place) (object_within m place good)
own_pairs_within m none good = tt
own_pairs_within m _ good = tt

given_within : (n : Heap) (o : Option Value) → OptionWithin n o → AreWithin n (given o)
given_within n None h = tt
given_within n (Some v) h = (h, tt)

any_pair_safe : {p : Program} (n : Heap) → Safe p n PairsWithin (bind anything (λ k. bind anything (λ w. gives ((k, w) ∷ []))))
any_pair_safe n = safe_bind n IsWithin PairsWithin _ _ (safe_anything n) (λ k i le a. safe_bind i IsWithin PairsWithin _ _ (safe_anything i) (λ w j le' b. safe_gives_pairs j ((k, w) ∷ []) (within_on i j k le' a, b, tt)))

given_pairs_safe : (p : Program) (n : Heap) (o : Option Value) → Safe p n PairsWithin (given_pairs p o)
given_pairs_safe p n None = safe_gives_pairs n [] tt
given_pairs_safe p n (Some v) =
    safe_looks n PairsWithin _ (λ root m good le. safe_if m.heap PairsWithin (is_dict m.heap v) _ _ (read_pairs_safe p m.heap (own_pairs m.heap v) (own_pairs_within m v good)) (any_pair_safe m.heap))

receiver_pairs_safe : (p : Program) (n : Heap) (receiver : Value) → Safe p n PairsWithin (receiver_pairs p receiver)
receiver_pairs_safe p n receiver = safe_looks n PairsWithin _ (λ root m good le. read_pairs_safe p m.heap (own_pairs m.heap receiver) (own_pairs_within m receiver good))

keys_safe : {p : Program} (n : Heap) (a : Action (List (Value × Value))) → Safe p n PairsWithin a → Safe p n AreWithin (keys_in a)
keys_safe n a h = safe_bind n PairsWithin AreWithin a _ h (λ qs k le w. safe_gives_all k _ (firsts_within k qs w))

values_safe : {p : Program} (n : Heap) (a : Action (List (Value × Value))) → Safe p n PairsWithin a → Safe p n AreWithin (values_in a)
values_safe n a h = safe_bind n PairsWithin AreWithin a _ h (λ qs k le w. safe_gives_all k _ (seconds_within k qs w))

-- what makes values of a kind within the heap
abbrev Makes : Program → (Basic → Action (List Value)) → Type 0
Makes p several = (k : Basic) (n : Heap) → Safe p n AreWithin (several k)

many_safe : (p : Program) → Makes p many
many_safe p k n = safe_counts n AreWithin (λ fuel. some_of fuel (of_kind k) []) (λ fuel. some_of_safe fuel n (of_kind k) [] (λ j le. kind_safe j k) tt)

three_safe : (p : Program) → Makes p three
three_safe p a n =
    safe_bind n IsWithin AreWithin _ _ (kind_safe n a) (λ u i le x. safe_bind i IsWithin AreWithin _ _ (kind_safe i a) (λ v j le' y. safe_bind j IsWithin AreWithin _ _ (kind_safe j a) (λ w k le'' z.
    safe_gives_all k (u ∷ v ∷ w ∷ []) (within_on j k u le'' (within_on i j u le' x), (within_on j k v le'' y, (z, tt))))))

single_safe : (p : Program) → Makes p single
single_safe p a n = safe_bind n IsWithin AreWithin _ _ (kind_safe n a) (λ v k le w. safe_gives_all k (v ∷ []) (w, tt))

module _ (p : Program) (several : Basic → Action (List Value)) (makes : Makes p several) (receiver : Value) (as' : List Argument) where
  part_values_safe : (n : Heap) (q : Part) → ArgumentsWithin n as' → Safe p n AreWithin (part_values p several receiver as' q)
  part_values_safe n (part.Kind k) h = makes k n
  part_values_safe n (part.Argument i) h = safe_gives_all n _ (given_within n (slice_get (values as') i) (get_within n (values as') i (values_within n as' h)))
  part_values_safe n (part.ArgumentOrNone i) h = safe_gives_all n _ (argument_within n (values as') i none (values_within n as' h) tt, tt)
  part_values_safe n (part.Items i) h = given_safe p n (slice_get (values as') i) (get_within n (values as') i (values_within n as' h))
  part_values_safe n (part.Keys i) h = keys_safe n _ (given_pairs_safe p n (slice_get (values as') i))
  part_values_safe n (part.Values i) h = values_safe n _ (given_pairs_safe p n (slice_get (values as') i))
  part_values_safe n part.WordNames h = safe_gives_all n _ (firsts_within n (word_pairs as') (words_within n as' h))
  part_values_safe n part.WordValues h = safe_gives_all n _ (seconds_within n (word_pairs as') (words_within n as' h))
  part_values_safe n part.OwnElements h = safe_looks n AreWithin _ (λ root m good le. read_all_safe p m.heap (contents_at m.heap receiver) (contents_at_within m receiver good))
  part_values_safe n part.OwnKeys h = keys_safe n _ (receiver_pairs_safe p n receiver)
  part_values_safe n part.OwnValues h = values_safe n _ (receiver_pairs_safe p n receiver)

  all_values_safe : (n : Heap) (ps : Parts) → ArgumentsWithin n as' → Safe p n AreWithin (all_values p several receiver as' ps)
  all_values_safe n (parts.One q) h = part_values_safe n q h
  all_values_safe n (parts.Two q r) h =
      safe_bind n AreWithin AreWithin _ _ (part_values_safe n q h) (λ vs k le w. safe_bind k AreWithin AreWithin _ _ (part_values_safe k r (arguments_on n k as' le h)) (λ ws j le' x.
      safe_gives_all j (vs ++ ws) (are_append j vs ws (are_on k j vs le' w) x)))

filled_safe : (p : Program) (n : Heap) (d : Value) (o : Option Value) (qs : List (Value × Value)) → IsWithin n d → OptionWithin n o → PairsWithin n qs → Safe p n IsWithin (filled_from p d o qs)
filled_safe p n (ref place) None qs a b c = safe_then n Free IsWithin (add_pairs place qs) (gives (ref place)) (add_pairs_safe place n qs c) (λ k le. safe_gives k (ref place) (within_on n k (ref place) le a))
filled_safe p n (ref place) (Some v) qs a b c =
    safe_then n Free IsWithin (add_from p place v) (then_do (add_pairs place qs) (gives (ref place))) (add_from_safe p place n v b) (λ k le.
    safe_then k Free IsWithin (add_pairs place qs) (gives (ref place)) (add_pairs_safe place k qs (pairs_on n k qs le c)) (λ j le'. safe_gives j (ref place) (within_on k j (ref place) le' (within_on n k (ref place) le a))))
filled_safe p n none o qs a b c = safe_gives n none tt
filled_safe p n d o qs a b c = safe_gives n d a

fill_new : (p : Program) (site : ℕ) (n : Heap) (i : ℕ) (as' : List Argument) → ArgumentsWithin n as' → Safe p n IsWithin (bind (allocate (object.dict site [])) (λ d. filled_from p d (slice_get (values as') i) (word_pairs as')))
fill_new p site n i as' h =
    safe_bind n IsWithin IsWithin (allocate (object.dict site [])) (λ d. filled_from p d (slice_get (values as') i) (word_pairs as')) (safe_allocate n (object.dict site []) tt) (λ d k le w.
    filled_safe p k d (slice_get (values as') i) (word_pairs as') w (get_within k (values as') i (values_within k as' (arguments_on n k as' le h))) (words_within k as' (arguments_on n k as' le h)))

new_dict_safe : (p : Program) (site : ℕ) (n : Heap) (receiver : Value) (as' : List Argument) (ks vs : Parts) → ArgumentsWithin n as' → Safe p n IsWithin (new_dict p site receiver as' ks vs)
new_dict_safe p site n receiver as' (parts.One part.OwnKeys) (parts.One part.OwnValues) h =
    safe_bind n PairsWithin IsWithin (receiver_pairs p receiver) (λ qs. allocate (object.dict site qs)) (receiver_pairs_safe p n receiver) (λ qs k le w. safe_allocate k (object.dict site qs) w)
new_dict_safe p site n receiver as' (parts.Two (part.Keys i) part.WordNames) (parts.Two (part.Values j) part.WordValues) h = fill_new p site n i as' h
new_dict_safe p site n receiver as' _ _ h = safe_allocate n (object.dict site []) tt

one_or_error_safe : {p : Program} (n : Heap) (o : Option Value) → OptionWithin n o → Safe p n IsWithin (one_or_error o)
one_or_error_safe n None h = safe_raise n IsWithin (codes "ValueError")
one_or_error_safe n (Some v) h = safe_gives n v h

option_gives : {p : Program} (n : Heap) (o : Option Value) → OptionWithin n o → Safe p n OptionWithin (gives o)
option_gives n o h = safe_give n OptionWithin o (λ k le. option_on n k o le h)

one_value : {p : Program} (n : Heap) (vs : List Value) → AreWithin n vs → Safe p n OptionWithin (one_of vs)
one_value n vs h = safe_bind n Free OptionWithin (pick (length vs)) (λ i. gives (slice_get vs i)) (safe_pick n (length vs)) (λ i k le w. option_gives k (slice_get vs i) (get_within k vs i (are_on n k vs le h)))

one_safe : {p : Program} (n : Heap) (vs : List Value) → AreWithin n vs → Safe p n IsWithin (bind (one_of vs) one_or_error)
one_safe n vs h = safe_bind n OptionWithin IsWithin (one_of vs) one_or_error (one_value n vs h) (λ o k le w. one_or_error_safe k o w)

least_safe : (p : Program) (n : Heap) (vs : List Value) → AreWithin n vs → Safe p n IsWithin (least_or_most p vs)
least_safe p n (v ∷ []) h = safe_bind n AreWithin IsWithin (items_of p v) (λ ws. bind (one_of ws) one_or_error) (items_safe p n v h.0) (λ ws k le w. one_safe k ws w)
least_safe p n [] h = one_safe n [] h
least_safe p n (v ∷ w ∷ ws) h = one_safe n (v ∷ w ∷ ws) h

tells_safe : (p : Program) (n : Heap) (v k : Value) → Safe p n IsWithin (tells_class p v k)
tells_safe p n v k =
    safe_looks n IsWithin (λ m. bind (decided (instance_test p m.heap v (class_at m.heap k))) (λ b. gives (truth b))) (λ root m good le.
    safe_bind m.heap Free IsWithin (decided (instance_test p m.heap v (class_at m.heap k))) (λ b. gives (truth b)) (decided_safe m.heap (instance_test p m.heap v (class_at m.heap k))) (λ b j le' w. safe_gives j (truth b) tt))

view_within : {p : Program} (n : Heap) (site number : ℕ) (receiver : Option Value) (vs : List Value) → OptionWithin n receiver → AreWithin n vs → ReceiverFits n receiver number → Safe p n IsWithin (allocate (object.view site number receiver vs))
view_within n site number receiver vs a b c = safe_allocate n (object.view site number receiver vs) (a, b, view_fits n number receiver c)

one_of_part : (p : Program) (n : Heap) (receiver : Value) (as' : List Argument) (q : Part) → ArgumentsWithin n as' → Safe p n IsWithin (bind (part_values p single receiver as' q) (λ vs. bind (one_of vs) one_or_error))
one_of_part p n receiver as' q h = safe_bind n AreWithin IsWithin _ _ (part_values_safe p single (single_safe p) receiver as' n q h) (λ vs k le w. one_safe k vs w)

part_value_safe : (p : Program) (n : Heap) (receiver : Value) (as' : List Argument) (q : Part) → ArgumentsWithin n as' → Safe p n IsWithin (part_value p receiver as' q)
part_value_safe p n receiver as' (part.Kind k) h = kind_safe n k
part_value_safe p n receiver as' (part.Argument i) h = one_of_part p n receiver as' (part.Argument i) h
part_value_safe p n receiver as' q h = one_of_part p n receiver as' q h

some_value_safe : (p : Program) (n : Heap) (receiver : Value) (as' : List Argument) (ps : Parts) → ArgumentsWithin n as' → Safe p n IsWithin (some_value p receiver as' ps)
some_value_safe p n receiver as' (parts.One q) h = part_value_safe p n receiver as' q h
some_value_safe p n receiver as' (parts.Two q r) h =
    safe_takes n IsWithin _ (λ c. safe_if n IsWithin (is_even c) _ _ (part_value_safe p n receiver as' q h) (part_value_safe p n receiver as' r h))

outcome_safe : (p : Program) (number : ℕ) (x : Native) (receiver : Option Value) (as' : List Argument) (site : ℕ) (n : Heap) (o : Outcome) → OptionWithin n receiver → ArgumentsWithin n as' → ReceiverFits n receiver number → Safe p n IsWithin (outcome_value p number x receiver as' site o)
outcome_safe p number x receiver as' site n (outcome.Gives ps) a b c = some_value_safe p n (unwrap_or receiver none) as' ps b
outcome_safe p number x receiver as' site n (outcome.NewList ps) a b c =
    safe_bind n AreWithin IsWithin _ (λ vs. allocate (object.list site vs)) (all_values_safe p many (many_safe p) (unwrap_or receiver none) as' n ps b) (λ vs k le w. safe_allocate k (object.list site vs) w)
outcome_safe p number x receiver as' site n (outcome.NewTuple ps) a b c =
    safe_bind n AreWithin IsWithin _ (λ vs. allocate (object.tuple site object.parts vs)) (all_values_safe p three (three_safe p) (unwrap_or receiver none) as' n ps b) (λ vs k le w. safe_allocate k (object.tuple site object.parts vs) w)
outcome_safe p number x receiver as' site n (outcome.NewDict ks others) a b c = new_dict_safe p site n (unwrap_or receiver none) as' ks others b
outcome_safe p number x receiver as' site n (outcome.View ps) a b c = view_within n site number receiver (values as') a (values_within n as' b) c
outcome_safe p number x receiver as' site n (outcome.PairView first second) a b c = view_within n site number receiver (values as') a (values_within n as' b) c
outcome_safe p number x receiver as' site n outcome.LeastOrMost a b c = least_safe p n (values as') (values_within n as' b)
outcome_safe p number x receiver as' site n outcome.TestsClass a b c = tells_safe p n (argument_or (values as') 0 none) (argument_or (values as') 1 none)
outcome_safe p number x receiver as' site n outcome.FreshObject a b c = safe_allocate n (object.outside (term.class (codes "object"))) tt
outcome_safe p number x receiver as' site n outcome.InstanceOfIt a b c = safe_allocate n (object.outside (term.class x.name)) tt
outcome_safe p number x receiver as' site n outcome.TupleOfAnything a b c = safe_allocate n (object.outside (term.tuple_of term.any)) tt
outcome_safe p number x receiver as' site n outcome.NotFollowed a b c = safe_anything n

-- ---- effects

entering_safe : (p : Program) (to : Place) (n : Heap) (receiver : Value) (as' : List Argument) (es : List Effect) → ArgumentsWithin n as' → Safe p n AreWithin (entering p to receiver as' es)
entering_safe p to n receiver as' [] h = safe_gives_all n [] tt
entering_safe p to n receiver as' (e ∷ es) h =
    safe_if n AreWithin (same_place to e.place) _ _
    (safe_bind n AreWithin AreWithin _ _ (part_values_safe p single (single_safe p) receiver as' n e.part h) (λ vs k le w. safe_bind k AreWithin AreWithin _ _ (entering_safe p to k receiver as' es (arguments_on n k as' le h)) (λ ws j le' x.
    safe_gives_all j (vs ++ ws) (are_append j vs ws (are_on k j vs le' w) x))))
    (entering_safe p to n receiver as' es h)

parts_added_safe : {p : Program} (place : ℕ) (n : Heap) (ws : List Value) (o : Object) → AreWithin n ws → ObjectWithin n o → Safe p n Free (parts_added place ws o)
parts_added_safe place n ws (object.list site vs) h k = safe_values n place ((vs ++ ws)) (are_append n vs ws k h)
parts_added_safe place n ws (object.dict site qs) h k = safe_done n
parts_added_safe place n ws _ h k = safe_done n

pub add_parts_safe : {p : Program} (place : ℕ) (n : Heap) (ws : List Value) → AreWithin n ws → Safe p n Free (add_parts place ws)
add_parts_safe place n ws h = safe_at n Free place (parts_added place ws) (λ o k le w. parts_added_safe place k ws o (are_on n k ws le h) w)

paired_within : (n : Heap) (ks vs : List Value) → AreWithin n ks → AreWithin n vs → PairsWithin n (paired ks vs)
paired_within n [] vs h g = tt
paired_within n (k ∷ ks) [] h g = tt
paired_within n (k ∷ ks) (v ∷ vs) h g = (h.0, g.0, paired_within n ks vs h.1 g.1)

effects_on_safe : (p : Program) (place : ℕ) (n : Heap) (as' : List Argument) (es : List Effect) (o : Object) → ArgumentsWithin n as' → Safe p n Free (effects_on p place as' es o)
effects_on_safe p place n as' es (object.list site ws) h =
    safe_bind n AreWithin Free _ (add_parts place) (entering_safe p into.Elements n (ref place) as' es h) (λ ws k le w. add_parts_safe place k ws w)
effects_on_safe p place n as' es (object.dict site qs) h =
    safe_bind n AreWithin Free _ _ (entering_safe p into.Keys n (ref place) as' es h) (λ ks k le w. safe_bind k AreWithin Free _ _ (entering_safe p into.Values k (ref place) as' es (arguments_on n k as' le h)) (λ vs j le' x.
    add_pairs_safe place j (paired ks vs) (paired_within j ks vs (are_on k j ks le' w) x)))
effects_on_safe p place n as' es _ h = safe_done n

effects_safe : (p : Program) (n : Heap) (receiver : Option Value) (as' : List Argument) (es : List Effect) → ArgumentsWithin n as' → Safe p n Free (do_effects p receiver as' es)
effects_safe p n (Some (ref place)) as' es h = safe_at n Free place (effects_on p place as' es) (λ o k le w. effects_on_safe p place k as' es o (arguments_on n k as' le h))
effects_safe p n None as' es h = safe_done n
effects_safe p n _ as' es h = safe_done n

-- ---- single parts

take_within : (n : Heap) (i : ℕ) (vs : List Value) → AreWithin n vs → AreWithin n (take i vs)
take_within n zero [] h = tt
take_within n zero (v ∷ vs) h = tt
take_within n (suc i) [] h = tt
take_within n (suc i) (v ∷ vs) h = (h.0, take_within n i vs h.1)

drop_within : (n : Heap) (i : ℕ) (vs : List Value) → AreWithin n vs → AreWithin n (drop i vs)
drop_within n zero [] h = tt
drop_within n zero (v ∷ vs) h = h
drop_within n (suc i) [] h = tt
drop_within n (suc i) (v ∷ vs) h = drop_within n i vs h.1

take_pairs : (n : Heap) (i : ℕ) (qs : List (Value × Value)) → PairsWithin n qs → PairsWithin n (take i qs)
take_pairs n zero [] h = tt
take_pairs n zero (q ∷ qs) h = tt
take_pairs n (suc i) [] h = tt
take_pairs n (suc i) (q ∷ qs) h = (h.0, h.1, take_pairs n i qs h.2)

drop_pairs : (n : Heap) (i : ℕ) (qs : List (Value × Value)) → PairsWithin n qs → PairsWithin n (drop i qs)
drop_pairs n zero [] h = tt
drop_pairs n zero (q ∷ qs) h = h
drop_pairs n (suc i) [] h = tt
drop_pairs n (suc i) (q ∷ qs) h = drop_pairs n i qs h.2

insert_within : (n : Heap) (vs : List Value) (i : ℕ) (v : Value) → AreWithin n vs → IsWithin n v → AreWithin n (insert vs i v)
insert_within n vs i v h k = are_append n (take i vs) (v ∷ drop i vs) (take_within n i vs h) (k, drop_within n i vs h)

remove_within : (n : Heap) (vs : List Value) (i : ℕ) → AreWithin n vs → AreWithin n (remove vs i)
remove_within n vs i h = are_append n (take i vs) (drop (suc i) vs) (take_within n i vs h) (drop_within n (suc i) vs h)

remove_pairs : (n : Heap) (qs : List (Value × Value)) (i : ℕ) → PairsWithin n qs → PairsWithin n (remove qs i)
remove_pairs n qs i h = pairs_append n (take i qs) (drop (suc i) qs) (take_pairs n i qs h) (drop_pairs n (suc i) qs h)

inserts_safe : {p : Program} (place : ℕ) (n : Heap) (v : Value) (o : Object) → IsWithin n v → ObjectWithin n o → Safe p n IsWithin (inserts place v o)
inserts_safe place n v (object.list site vs) a h =
    safe_bind n Free IsWithin (pick (suc (length vs))) (λ i. then_do (refill place (object.of_values (insert vs i v))) gives_none) (safe_pick n (suc (length vs))) (λ i k le w.
    safe_then k Free IsWithin (refill place (object.of_values (insert vs i v))) gives_none (safe_values k place ((insert vs i v)) (insert_within k vs i v (are_on n k vs le h) (within_on n k v le a))) (λ j le'. none_safe j))
inserts_safe place n v (object.dict site qs) a h = none_safe n
inserts_safe place n v _ a h = none_safe n

take_safe : {p : Program} (place : ℕ) (n : Heap) (vs : List Value) (i : ℕ) → AreWithin n vs → Safe p n Free (take_part place vs i)
take_safe place n vs i h = safe_values n place ((remove vs i)) (remove_within n vs i h)

pop_one : (p : Program) (n : Heap) (o : Object) → ObjectWithin n o → Safe p n IsWithin (bind (one_of (contents o)) (λ c. elim c [ None ↦ raise_builtin (codes "IndexError") | Some one ↦ read p one ]))
pop_one p n o h = part_safe p n (contents o) (contents_within n o h)

pops_safe : (p : Program) (place : ℕ) (n : Heap) (o : Object) → ObjectWithin n o → Safe p n IsWithin (pops p place o)
pops_safe p place n (object.list site []) h = safe_raise n IsWithin (codes "IndexError")
pops_safe p place n (object.list site (v ∷ vs)) h =
    safe_bind n Free IsWithin (pick (length (v ∷ vs))) (λ i. then_do (take_part place (v ∷ vs) i) (gives (unwrap_or (slice_get (v ∷ vs) i) v))) (safe_pick n (length (v ∷ vs))) (λ i k le w.
    safe_then k Free IsWithin (take_part place (v ∷ vs) i) (gives (unwrap_or (slice_get (v ∷ vs) i) v)) (take_safe place k (v ∷ vs) i (are_on n k (v ∷ vs) le h)) (λ j le'.
    safe_on k j IsWithin (gives (unwrap_or (slice_get (v ∷ vs) i) v)) le' (safe_gives k (unwrap_or (slice_get (v ∷ vs) i) v) (or_within k (slice_get (v ∷ vs) i) v (get_within k (v ∷ vs) i (are_on n k (v ∷ vs) le h)) (within_on n k v le h.0)))))
pops_safe p place n o h = pop_one p n o h

removes_safe : {p : Program} (place : ℕ) (n : Heap) (o : Object) → ObjectWithin n o → Safe p n IsWithin (removes place o)
removes_safe place n (object.list site []) h = safe_raise n IsWithin (codes "ValueError")
removes_safe place n (object.list site (v ∷ vs)) h =
    safe_bind n Free IsWithin (pick (length (v ∷ vs))) (λ i. then_do (take_part place (v ∷ vs) i) gives_none) (safe_pick n (length (v ∷ vs))) (λ i k le w.
    safe_then k Free IsWithin (take_part place (v ∷ vs) i) gives_none (take_safe place k (v ∷ vs) i (are_on n k (v ∷ vs) le h)) (λ j le'. none_safe j))
removes_safe place n _ h = none_safe n

clears_safe : {p : Program} (place : ℕ) (n : Heap) (o : Object) → Safe p n IsWithin (clears place o)
clears_safe place n (object.list site vs) = safe_then n Free IsWithin (refill place (object.of_values [])) gives_none (safe_values n place ([]) tt) (λ k le. none_safe k)
clears_safe place n (object.dict site qs) = safe_then n Free IsWithin (refill place (object.of_pairs [])) gives_none (safe_pairs n place ([]) tt) (λ k le. none_safe k)
clears_safe place n _ = none_safe n

-- ---- single pairs

pairs_later : {p : Program} (n k : Heap) (o : Object) → Grown p n k → ObjectWithin n o → ContentPairsWithin k (pairs o)
pairs_later n k o le h = content_pairs_within k o (object_on n k o le h)

-- a pair that a choice picks, or what is done without one
on_pair : (p : Program) (n : Heap) (o : Option Pair) (f : Pair → Action Value) (a : Action Value) → OnePairWithin n o → ((q : Pair) → ContentWithin n q.1 → Safe p n IsWithin (f q)) → Safe p n IsWithin a → Safe p n IsWithin (elim o [ Some q ↦ f q | None ↦ a ])
on_pair p n None f a h g k = k
on_pair p n (Some q) f a h g k = g q h.1

gets_safe : (p : Program) (n : Heap) (vs : List Value) (o : Object) → AreWithin n vs → ObjectWithin n o → Safe p n IsWithin (gets p vs o)
gets_safe p n vs o a h =
    safe_bind n Free IsWithin (some_pair o) (λ i. elim (slice_get (pairs o) i) [ Some q ↦ read p q.1 | None ↦ gives (argument_or vs 1 none) ]) (safe_pick n (suc (length (pairs o)))) (λ i k le w.
    on_pair p k (slice_get (pairs o) i) (λ q. read p q.1) (gives (argument_or vs 1 none)) (one_pair_within k (pairs o) i (pairs_later n k o le h)) (λ q x. read_safe p k q.1 x) (safe_gives k (argument_or vs 1 none) (argument_within k vs 1 none (are_on n k vs le a) tt)))

default_safe : (p : Program) (place : ℕ) (n : Heap) (vs : List Value) (o : Object) → AreWithin n vs → ObjectWithin n o → Safe p n IsWithin (sets_default p place vs o)
default_safe p place n vs o a h =
    safe_bind n Free IsWithin (some_pair o) (λ i. elim (slice_get (pairs o) i) [ Some q ↦ read p q.1 | None ↦ then_do (add_pairs place ((argument_or vs 0 none, argument_or vs 1 none) ∷ [])) (gives (argument_or vs 1 none)) ]) (safe_pick n (suc (length (pairs o)))) (λ i k le w.
    on_pair p k (slice_get (pairs o) i) (λ q. read p q.1) (then_do (add_pairs place ((argument_or vs 0 none, argument_or vs 1 none) ∷ [])) (gives (argument_or vs 1 none))) (one_pair_within k (pairs o) i (pairs_later n k o le h)) (λ q x. read_safe p k q.1 x)
    (safe_then k Free IsWithin (add_pairs place ((argument_or vs 0 none, argument_or vs 1 none) ∷ [])) (gives (argument_or vs 1 none)) (add_pairs_safe place k ((argument_or vs 0 none, argument_or vs 1 none) ∷ []) (argument_within k vs 0 none (are_on n k vs le a) tt, argument_within k vs 1 none (are_on n k vs le a) tt, tt))
    (λ j le'. safe_gives j (argument_or vs 1 none) (argument_within j vs 1 none (are_on k j vs le' (are_on n k vs le a)) tt))))

pair_taken_safe : {p : Program} (place : ℕ) (n : Heap) (i : ℕ) (o : Object) → ObjectWithin n o → Safe p n Free (pair_taken place i o)
pair_taken_safe place n i (object.dict site qs) h = safe_pairs n place ((remove qs i)) (remove_pairs n qs i h)
pair_taken_safe place n i (object.list site vs) h = safe_done n
pair_taken_safe place n i _ h = safe_done n

given_or_safe : {p : Program} (n : Heap) (o : Option Value) → OptionWithin n o → Safe p n IsWithin (given_or_error o)
given_or_safe n None h = safe_raise n IsWithin (codes "KeyError")
given_or_safe n (Some v) h = safe_gives n v h

pops_pair_safe : (p : Program) (place : ℕ) (n : Heap) (vs : List Value) (o : Object) → AreWithin n vs → ObjectWithin n o → Safe p n IsWithin (pops_pair p place vs o)
pops_pair_safe p place n vs o a h =
    safe_bind n Free IsWithin (some_pair o) (λ i. elim (slice_get (pairs o) i) [ Some q ↦ then_do (pair_taken place i o) (read p q.1) | None ↦ given_or_error (slice_get vs 1) ]) (safe_pick n (suc (length (pairs o)))) (λ i k le w.
    on_pair p k (slice_get (pairs o) i) (λ q. then_do (pair_taken place i o) (read p q.1)) (given_or_error (slice_get vs 1)) (one_pair_within k (pairs o) i (pairs_later n k o le h))
    (λ q x. safe_then k Free IsWithin (pair_taken place i o) (read p q.1) (pair_taken_safe place k i o (object_on n k o le h)) (λ j le'. safe_on k j IsWithin (read p q.1) le' (read_safe p k q.1 x)))
    (given_or_safe k (slice_get vs 1) (get_within k vs 1 (are_on n k vs le a))))

updates_safe : (p : Program) (place : ℕ) (n : Heap) (vs : List Value) (o : Object) → AreWithin n vs → Safe p n IsWithin (updates p place vs o)
updates_safe p place n vs (object.dict site qs) a = safe_then n Free IsWithin (add_from p place (argument_or vs 0 none)) gives_none (add_from_safe p place n (argument_or vs 0 none) (argument_within n vs 0 none a tt)) (λ k le. none_safe k)
updates_safe p place n vs (object.list site ws) a = none_safe n
updates_safe p place n vs _ a = none_safe n

-- ---- calls of natives

by_parts_safe : (p : Program) (number : ℕ) (x : Native) (receiver : Option Value) (as' : List Argument) (site : ℕ) (n : Heap) → OptionWithin n receiver → ArgumentsWithin n as' → ReceiverFits n receiver number → Safe p n IsWithin (do_by_parts p number x receiver as' site)
by_parts_safe p number x receiver as' site n a b c =
    safe_then n Free IsWithin (do_effects p receiver as' (effects_of x.deed)) (outcome_value p number x receiver as' site (outcome_of x.deed)) (effects_safe p n receiver as' (effects_of x.deed) b) (λ k le.
    outcome_safe p number x receiver as' site k (outcome_of x.deed) (option_on n k receiver le a) (arguments_on n k as' le b) (receiver_on n k receiver number le a c))

deed_safe : (p : Program) (number : ℕ) (x : Native) (place : ℕ) (as' : List Argument) (site : ℕ) (n : Heap) (o : Object) (d : Deed) → IsWithin n (ref place) → ArgumentsWithin n as' → ObjectWithin n o → MayBeMethodOf n (ref place) number → Safe p n IsWithin (do_deed p number x place as' site o d)
deed_safe p number x place as' site n o (deed.ByParts es out) a b h c = by_parts_safe p number x (Some (ref place)) as' site n a b c
deed_safe p number x place as' site n o deed.Inserts a b h c = inserts_safe place n (argument_or (values as') 1 none) o (argument_within n (values as') 1 none (values_within n as' b) tt) h
deed_safe p number x place as' site n o deed.PopsPart a b h c = pops_safe p place n o h
deed_safe p number x place as' site n o deed.RemovesPart a b h c = removes_safe place n o h
deed_safe p number x place as' site n o deed.Clears a b h c = clears_safe place n o
deed_safe p number x place as' site n o deed.GetsValue a b h c = gets_safe p n (values as') o (values_within n as' b) h
deed_safe p number x place as' site n o deed.PopsPair a b h c = pops_pair_safe p place n (values as') o (values_within n as' b) h
deed_safe p number x place as' site n o deed.SetsDefault a b h c = default_safe p place n (values as') o (values_within n as' b) h
deed_safe p number x place as' site n o deed.Updates a b h c = updates_safe p place n (values as') o (values_within n as' b)

native_safe : (p : Program) (number : ℕ) (x : Native) (receiver : Option Value) (as' : List Argument) (site : ℕ) (n : Heap) → OptionWithin n receiver → ArgumentsWithin n as' → ReceiverFits n receiver number → Safe p n IsWithin (do_native p number x receiver as' site)
native_safe p number x (Some (ref place)) as' site n a b c =
    safe_at n IsWithin place (λ o. do_deed p number x place as' site o x.deed) (λ o k le w. deed_safe p number x place as' site k o x.deed (within_on n k (ref place) le a) (arguments_on n k as' le b) w (method_on n k (ref place) number le a c))
native_safe p number x None as' site n a b c = by_parts_safe p number x None as' site n a b c
native_safe p number x (Some v) as' site n a b c = by_parts_safe p number x (Some v) as' site n a b c

fault_or : {p : Program} (n : Heap) (line : ℕ) (o : Option FaultKind) (a : Action Value) → Safe p n IsWithin a → Safe p n IsWithin (elim o [ Some f ↦ fails line f | None ↦ a ])
fault_or n line None a h = h
fault_or n line (Some f) a h = safe_fails n IsWithin line f

pub call_native_safe : (p : Program) (number : ℕ) (receiver : Option Value) (as' : List Argument) (site line : ℕ) (n : Heap) → OptionWithin n receiver → ArgumentsWithin n as' → ReceiverFits n receiver number → Safe p n IsWithin (call_native p number receiver as' site line)
call_native_safe p number receiver as' site line n a b c =
    safe_option n IsWithin (slice_get natives number) (λ x. elim (native_fault x.arguments (call_by_texts p as')) [ Some f ↦ fails line f | None ↦ do_native p number x receiver as' site ]) anything
    (λ x. fault_or n line (native_fault x.arguments (call_by_texts p as')) (do_native p number x receiver as' site) (native_safe p number x receiver as' site n a b c)) (safe_anything n)

-- ---- names

found_or_safe : {p : Program} (error : List ℕ) (n : Heap) (o : Option Value) → OptionWithin n o → Safe p n IsWithin (found_or error o)
found_or_safe error n None h = safe_raise n IsWithin error
found_or_safe error n (Some v) h = safe_gives n v h

name_sort : {p : Program} (n : Heap) (s : NativeSort) (a b : Action Value) → Safe p n IsWithin a → Safe p n IsWithin b → Safe p n IsWithin (elim s [ sort.Value ↦ a | _ ↦ b ])
name_sort n sort.Value a b h k = h
name_sort n sort.Function a b h k = k
name_sort n _ a b h k = k

native_value_safe : {p : Program} (n : Heap) (number : ℕ) (o : Option Native) → IsFunction number → Safe p n IsWithin (native_value number o)
native_value_safe n number None f = safe_anything n
native_value_safe n number (Some x) f = name_sort n x.sort (value_of_row x) (allocate (object.foreign (builtin number))) (row_value_safe n x) (safe_allocate n (object.foreign (builtin number)) f)

pub builtin_value_safe : {p : Program} (n : Heap) (name : List ℕ) → Safe p n IsWithin (builtin_value name)
builtin_value_safe n name =
    safe_known n IsWithin (function_number name) (λ i. if bytes_eq name (codes "base_init") then anything else native_value i (slice_get natives i)) anything
    (λ i e. safe_if n IsWithin (bytes_eq name (codes "base_init")) anything (native_value i (slice_get natives i)) (safe_anything n) (native_value_safe n i (slice_get natives i) (name, e))) (safe_anything n)

global_safe : (p : Program) (n : Heap) (c : Scope) (name : ℕ) → ScopeWithin n c → Safe p n IsWithin (global_value p c name)
global_safe p n c name good =
    safe_if n IsWithin (is_bound p name) (found_or (codes "NameError") (entry c.globals name)) (builtin_value (text_at p name)) (found_or_safe (codes "NameError") n (entry c.globals name) (entry_within n c.globals name good.globals)) (builtin_value_safe n (text_at p name))

in_frame_safe : (p : Program) (n : Heap) (c : Scope) (name : ℕ) (o : Option Frame) → ScopeWithin n c → FrameWithin n o → Safe p n IsWithin (value_in_frame p c name o)
in_frame_safe p n c name None good h = global_safe p n c name good
in_frame_safe p n c name (Some f) good h =
    safe_if n IsWithin (is_local p f.function name) (found_or (codes "UnboundLocalError") (entry f.locals name)) (global_value p c name) (found_or_safe (codes "UnboundLocalError") n (entry f.locals name) (entry_within n f.locals name h)) (global_safe p n c name good)

pub load_safe : (p : Program) (n : Heap) (name : ℕ) → Safe p n IsWithin (load p name)
load_safe p n name =
    safe_bind n Free IsWithin may_raise (λ x. looks (λ m. value_in_frame p m.scope name m.scope.frame)) (safe_may n) (λ x k le w.
    safe_looks k IsWithin (λ m. value_in_frame p m.scope name m.scope.frame) (λ root m good le'. in_frame_safe p m.heap m.scope name m.scope.frame good.scope good.scope.frame))

-- a change of names, where the entries that it gives are within the heap
pub changed_within : (p : Program) (n : Heap) (name : ℕ) (f : Entries → Entries) (c : Scope) → ScopeWithin n c → ((es : Entries) → EntriesWithin n es → EntriesWithin n (f es)) → (o : Option Frame) → FrameWithin n o → ScopeWithin n (changed_in_frame p name f o c)
changed_within p n name f c good h None w = record { globals = h c.globals good.globals; frame = good.frame; handled = good.handled }
changed_within p n name f c good h (Some fr) w = local_or (is_local p fr.function name)
  where
    local_or : (b : Bool) → ScopeWithin n (if b then with_locals f fr c else with_globals f c)
    local_or true = record { globals = good.globals; frame = h fr.locals w; handled = good.handled }
    local_or false = record { globals = h c.globals good.globals; frame = good.frame; handled = good.handled }

pub store_safe : (p : Program) (n : Heap) (name : ℕ) (v : Value) → IsWithin n v → Safe p n Free (store p name v)
store_safe p n name v a =
    safe_changes n Free (bound p name v) done (λ c k le good. changed_within p k name (λ es. with_entry es name v) c good (λ es h. with_entry_within k es name v h (within_on n k v le a)) c.frame good.frame) (safe_done n)
