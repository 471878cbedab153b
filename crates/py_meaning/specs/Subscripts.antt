-- What subscripts and slices read and store, and what unpacking gives (language reference, "Subscriptions", "Slicings",
-- "Assignment statements").
use Rattle.std.specs.Prelude.{ℕ, zero, suc, Bool, ◌&&◌, ◌||◌, ◌==◌, List, [], ◌∷◌, length, Option, Some, None, slice_get, slice_set, if◌then◌else◌, codes}
use Rattle.builtin_stubs.specs.declared.parts.Part.{Part}
use Rattle.builtin_stubs.specs.declared.parts.Part.TheVariants as part
use Rattle.builtin_stubs.specs.Kinds.{part_of as part_of_kind, has_index, takes_index}
use Rattle.type_terms.specs.Terms as term
use Rattle.type_terms.specs.Terms.{Term}
use Rattle.py_meaning.specs.Values.{Value, text, octets, ref}
use Rattle.py_meaning.specs.Objects as object
use Rattle.py_meaning.specs.Objects.{Object, object_at, kind_of, is_unfollowed, is_unfollowed_at}
use Rattle.py_meaning.specs.Events.{unsupported_operands, not_iterable}
use Rattle.py_meaning.specs.Programs.{Program}
use Rattle.py_meaning.specs.Fresh.{fresh_text, fresh_octets, of_kind}
use Rattle.py_meaning.specs.Contents.{Content, contents_at, pairs, read}
use Rattle.py_meaning.specs.Iteration.{Step, no_items, ended, element, iterate, drain}
use Rattle.py_meaning.specs.Actions.{Action, gives, takes, looks, bind, allocate, refill, anything, at_place, is_even, pick, one_of, raise_builtin, may_raise, fails, done}

-- ---- reading: any part, by choice

abbrev pub read_one : Program → (error : List ℕ) → Option Content → Action Value
read_one p error None = raise_builtin error
read_one p error (Some c) = read p c

-- a part of a list or a tuple; without parts an IndexError
abbrev pub part_of : Program → List Content → Action Value
part_of p cs = bind (one_of cs) (read_one p (codes "IndexError"))

-- a value of a dict; without pairs a KeyError
abbrev pub value_in : Program → Object → Action Value
value_in p o = bind (one_of (pairs o)) (λ q. elim q [ None ↦ raise_builtin (codes "KeyError") | Some r ↦ read p r.1 ])

abbrev pub value_at : Program → List Object → Value → (line : ℕ) → Action Value
value_at p heap (ref place) line = value_in p (object_at heap place)
value_at p heap v line = fails line unsupported_operands

-- by what the tables say that the container gives
abbrev pub read_part : Program → List Object → Value → (line : ℕ) → Option Part → Action Value
read_part p heap v line (Some (part.Kind k)) = of_kind k
read_part p heap v line (Some part.OwnElements) = part_of p (contents_at heap v)
read_part p heap v line (Some part.OwnValues) = value_at p heap v line
read_part p heap v line _ = fails line unsupported_operands

-- an index that isn't followed may be any
abbrev pub fits_index : List Object → Value → Value → Bool
fits_index heap v i = has_index (kind_of heap v) && (is_unfollowed_at heap i || takes_index (kind_of heap v) (kind_of heap i))

abbrev pub read_item : Program → (line : ℕ) → Value → Value → Action Value
read_item p line v i =
    looks (λ m.
    if is_unfollowed_at m.heap v then anything
    else if fits_index m.heap v i then read_part p m.heap v line (part_of_kind (kind_of m.heap v)) else fails line unsupported_operands)

-- ---- storing

-- in place of a part that a choice picks; without parts an IndexError
abbrev pub store_part : (place : ℕ) → List Value → Value → Action (Unit {0})
store_part place [] v = raise_builtin (codes "IndexError")
store_part place (x ∷ xs) v = bind (pick (length (x ∷ xs))) (λ i. refill place (object.of_values (slice_set (x ∷ xs) i v)))

-- the value in place of that of a pair, or at the last number a new pair at the end
abbrev pub with_pair : List (Value × Value) → ℕ → Value → Value → List (Value × Value)
with_pair [] i k v = (k, v) ∷ []
with_pair (q ∷ qs) zero k v = (q.0, v) ∷ qs
with_pair (q ∷ qs) (suc i) k v = q ∷ with_pair qs i k v

abbrev pub store_pair : (place : ℕ) → List (Value × Value) → Value → Value → Action (Unit {0})
store_pair place qs k v = bind (pick (suc (length qs))) (λ i. refill place (object.of_pairs (with_pair qs i k v)))

-- a store into what is outside is forgotten
abbrev pub store_in_object : (place line : ℕ) → Value → Value → Object → Action (Unit {0})
store_in_object place line i v (object.list site xs) = store_part place xs v
store_in_object place line i v (object.dict site qs) = store_pair place qs i v
store_in_object place line i v (object.outside (term.list t)) = done
store_in_object place line i v (object.outside (term.dict t u)) = done
store_in_object place line i v o = if is_unfollowed o then done else fails line unsupported_operands

abbrev pub store_item : (line : ℕ) → (container index value : Value) → Action (Unit {0})
store_item line (ref place) i v = at_place place (store_in_object place line i v)
store_item line _ i v = fails line unsupported_operands

-- ---- slices

-- keeps a part where its choice is even
abbrev pub sliced : List Value → Action (List Value)
sliced [] = gives []
sliced (x ∷ xs) = takes (λ c. bind (sliced xs) (λ ys. gives (if is_even c then x ∷ ys else ys)))

abbrev pub slice_object : Program → (site line : ℕ) → Value → Object → Action Value
slice_object p site line v (object.list own xs) = bind (sliced xs) (λ ys. allocate (object.list site ys))
slice_object p site line v (object.tuple own layout xs) = bind (sliced xs) (λ ys. allocate (object.tuple site object.parts ys))
slice_object p site line v (object.outside (term.list t)) = bind (drain p v) (λ ys. allocate (object.list site ys))
slice_object p site line v (object.outside (term.tuple ts)) = bind (drain p v) (λ ys. allocate (object.tuple site object.parts ys))
slice_object p site line v (object.outside (term.tuple_of t)) = bind (drain p v) (λ ys. allocate (object.tuple site object.parts ys))
slice_object p site line v o = if is_unfollowed o then anything else fails line unsupported_operands

abbrev pub read_slice : Program → (site line : ℕ) → Value → Action Value
read_slice p site line (text empty) = fresh_text
read_slice p site line (octets empty) = fresh_octets
read_slice p site line (ref place) = at_place place (slice_object p site line (ref place))
read_slice p site line _ = fails line unsupported_operands

-- ---- unpacking into so many targets

abbrev pub unpacked : (line : ℕ) → Step → Action Value
unpacked line no_items = fails line not_iterable
unpacked line ended = raise_builtin (codes "ValueError")
unpacked line (element v) = gives v

-- a tuple that was written down gives its places; with another count it is a ValueError
abbrev pub place_at : List Value → (i count : ℕ) → Action Value
place_at vs i count =
    if length vs == count then elim (slice_get vs i) [ None ↦ raise_builtin (codes "ValueError") | Some v ↦ gives v ] else raise_builtin (codes "ValueError")

abbrev pub part_from : Program → (line i count : ℕ) → Value → Object → Action Value
part_from p line i count v (object.tuple site object.places vs) = place_at vs i count
part_from p line i count v _ = bind (iterate p v) (unpacked line)

abbrev pub unpack_one : Program → (line i count : ℕ) → Value → Action Value
unpack_one p line i count (ref place) = at_place place (part_from p line i count (ref place))
unpack_one p line i count v = bind (iterate p v) (unpacked line)

-- from the last to the first, each a step that may raise
abbrev pub unpack_from : Program → (line count : ℕ) → Value → ℕ → List Value → Action (List Value)
unpack_from p line count v zero got = gives got
unpack_from p line count v (suc i) got = bind may_raise (λ x. bind (unpack_one p line i count v) (λ w. unpack_from p line count v i (w ∷ got)))

abbrev pub unpack : Program → (line count : ℕ) → Value → Action (List Value)
unpack p line count v = unpack_from p line count v count []
