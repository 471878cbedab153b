-- What calls of builtin functions, classes and methods do, by the rows of the tables of natives (library reference, "Built-in
-- Functions", "Built-in Types"). A row says what is taken, and the deed; the deeds are said here.
use Rattle.std.specs.Prelude.{ℕ, zero, suc, Bool, true, false, List, [], ◌∷◌, ◌++◌, map, length, insert, remove, Option, Some, None, slice_get, unwrap_or, if◌then◌else◌, codes}
use Rattle.builtin_stubs.specs.declared.basic.Basic.{Basic}
use Rattle.builtin_stubs.specs.declared.basic.Basic.TheVariants as kind
use Rattle.builtin_stubs.specs.declared.deed.Deed.{Deed}
use Rattle.builtin_stubs.specs.declared.deed.Deed.TheVariants as deed
use Rattle.builtin_stubs.specs.declared.parts.Effect.{Effect}
use Rattle.builtin_stubs.specs.declared.parts.Outcome.{Outcome}
use Rattle.builtin_stubs.specs.declared.parts.Outcome.TheVariants as outcome
use Rattle.builtin_stubs.specs.declared.parts.Part.{Part}
use Rattle.builtin_stubs.specs.declared.parts.Part.TheVariants as part
use Rattle.builtin_stubs.specs.declared.parts.Parts.{Parts}
use Rattle.builtin_stubs.specs.declared.parts.Parts.TheVariants as parts
use Rattle.builtin_stubs.specs.declared.parts.Place.{Place}
use Rattle.builtin_stubs.specs.declared.parts.Place.TheVariants as into
use Rattle.builtin_stubs.specs.Meanings.{Native, effects_of, outcome_of}
use Rattle.builtin_stubs.specs.Natives.{natives}
use Rattle.type_terms.specs.Terms as term
use Rattle.py_meaning.specs.Values.{Value, none, truth, text, ref}
use Rattle.py_meaning.specs.Objects as object
use Rattle.py_meaning.specs.Objects.{Object, object_at, kind_of}
use Rattle.py_meaning.specs.Programs.{Program, text_at}
use Rattle.py_meaning.specs.Fresh.{of_kind}
use Rattle.py_meaning.specs.Contents.{contents, contents_at, Pair, pairs, read, read_all, read_pairs}
use Rattle.py_meaning.specs.Iteration.{items_of}
use Rattle.py_meaning.specs.ClassTests.{decided, instance_test, class_at}
use Rattle.py_meaning.specs.Matching.{Call, native_fault}
use Rattle.py_meaning.specs.Dicts.{add_pairs, add_from}
use Rattle.py_meaning.specs.Actions.{Argument, Action, gives, takes, counts, looks, bind, then_do, allocate, refill, anything, at_place, is_even, pick, one_of, raise_builtin, fails, done}

-- ---- arguments

abbrev pub positional_count : List Argument → ℕ
positional_count [] = 0
positional_count (a ∷ as') = elim a.name [ None ↦ suc (positional_count as') | Some n ↦ positional_count as' ]

abbrev pub keywords : List Argument → List ℕ
keywords [] = []
keywords (a ∷ as') = elim a.name [ None ↦ keywords as' | Some n ↦ n ∷ keywords as' ]

abbrev pub values : List Argument → List Value
values [] = []
values (a ∷ as') = elim a.name [ None ↦ a.value ∷ values as' | Some n ↦ values as' ]

-- each argument that is given by name: a text that isn't empty, and its value
abbrev pub word_pairs : List Argument → List (Value × Value)
word_pairs [] = []
word_pairs (a ∷ as') = elim a.name [ None ↦ word_pairs as' | Some n ↦ (text false, a.value) ∷ word_pairs as' ]

abbrev pub call_by_texts : Program → List Argument → Call (List ℕ)
call_by_texts p as' = record { positional = positional_count as'; keywords = map (text_at p) (keywords as') }

abbrev pub argument_or : List Value → ℕ → Value → Value
argument_or vs i v = unwrap_or (slice_get vs i) v

abbrev pub gives_none : Action Value
gives_none = gives none

-- ---- the parts that a row speaks of

-- the items of an argument, none where it isn't given
abbrev pub given_items : Program → Option Value → Action (List Value)
given_items p None = gives []
given_items p (Some v) = items_of p v

abbrev pub own_pairs : List Object → Value → List Pair
own_pairs heap (ref place) = pairs (object_at heap place)
own_pairs heap v = []

abbrev pub is_dict : List Object → Value → Bool
is_dict heap v = elim (kind_of heap v) [ kind.Dict ↦ true | _ ↦ false ]

-- the pairs of an argument: of a dict its own, and of anything else one of which nothing is known
abbrev pub given_pairs : Program → Option Value → Action (List (Value × Value))
given_pairs p None = gives []
given_pairs p (Some v) =
    looks (λ m. if is_dict m.heap v then read_pairs p (own_pairs m.heap v) else bind anything (λ k. bind anything (λ w. gives ((k, w) ∷ []))))

abbrev pub receiver_pairs : Program → (receiver : Value) → Action (List (Value × Value))
receiver_pairs p receiver = looks (λ m. read_pairs p (own_pairs m.heap receiver))

abbrev pub keys_in : Action (List (Value × Value)) → Action (List Value)
keys_in a = bind a (λ qs. gives (map (λ q. q.0) qs))

abbrev pub values_in : Action (List (Value × Value)) → Action (List Value)
values_in a = bind a (λ qs. gives (map (λ q. q.1) qs))

abbrev pub given : Option Value → List Value
given None = []
given (Some v) = v ∷ []

-- all values of a part, in order; an argument that isn't given has none. `several` makes those of a kind.
abbrev pub part_values : Program → (several : Basic → Action (List Value)) → (receiver : Value) → List Argument → Part → Action (List Value)
part_values p several receiver as' (part.Kind k) = several k
part_values p several receiver as' (part.Argument i) = gives (given (slice_get (values as') i))
part_values p several receiver as' (part.ArgumentOrNone i) = gives (argument_or (values as') i none ∷ [])
part_values p several receiver as' (part.Items i) = given_items p (slice_get (values as') i)
part_values p several receiver as' (part.Keys i) = keys_in (given_pairs p (slice_get (values as') i))
part_values p several receiver as' (part.Values i) = values_in (given_pairs p (slice_get (values as') i))
part_values p several receiver as' part.WordNames = gives (map (λ q. q.0) (word_pairs as'))
part_values p several receiver as' part.WordValues = gives (map (λ q. q.1) (word_pairs as'))
part_values p several receiver as' part.OwnElements = looks (λ m. read_all p (contents_at m.heap receiver))
part_values p several receiver as' part.OwnKeys = keys_in (receiver_pairs p receiver)
part_values p several receiver as' part.OwnValues = values_in (receiver_pairs p receiver)

-- all values of one part after those of the other
abbrev pub all_values : Program → (several : Basic → Action (List Value)) → (receiver : Value) → List Argument → Parts → Action (List Value)
all_values p several receiver as' (parts.One one) = part_values p several receiver as' one
all_values p several receiver as' (parts.Two one other) =
    bind (part_values p several receiver as' one) (λ vs. bind (part_values p several receiver as' other) (λ ws. gives (vs ++ ws)))

-- ---- how many values of a kind are made

-- fresh values as long as the next choice is even
abbrev pub some_of : ℕ → Action Value → List Value → Action (List Value)
some_of zero a sofar = takes (λ c. gives sofar)
some_of (suc n) a sofar = takes (λ c. if is_even c then bind a (λ v. some_of n a (sofar ++ v ∷ [])) else gives sofar)

-- in a list any number
abbrev pub many : Basic → Action (List Value)
many k = counts (λ n. some_of n (of_kind k) [])

-- in a tuple three, as of a method that parts a text
abbrev pub three : Basic → Action (List Value)
three k = bind (of_kind k) (λ u. bind (of_kind k) (λ v. bind (of_kind k) (λ w. gives (u ∷ v ∷ w ∷ []))))

abbrev pub single : Basic → Action (List Value)
single k = bind (of_kind k) (λ v. gives (v ∷ []))

-- ---- dicts

abbrev pub filled_from : Program → (dict : Value) → Option Value → List (Value × Value) → Action Value
filled_from p (ref place) None qs = then_do (add_pairs place qs) (gives (ref place))
filled_from p (ref place) (Some v) qs = then_do (add_from p place v) (then_do (add_pairs place qs) (gives (ref place)))
filled_from p d v qs = gives d

-- a copy of the receiver, or a new dict with what an argument has and the arguments that are given by name
abbrev pub new_dict : Program → (site : ℕ) → (receiver : Value) → List Argument → (keys values : Parts) → Action Value
new_dict p site receiver as' (parts.One part.OwnKeys) (parts.One part.OwnValues) = bind (receiver_pairs p receiver) (λ qs. allocate (object.dict site qs))
new_dict p site receiver as' (parts.Two (part.Keys i) part.WordNames) (parts.Two (part.Values j) part.WordValues) =
    bind (allocate (object.dict site [])) (λ d. filled_from p d (slice_get (values as') i) (word_pairs as'))
new_dict p site receiver as' _ _ = allocate (object.dict site [])

-- ---- `min` and `max`: of one argument its items, else the arguments

abbrev pub one_or_error : Option Value → Action Value
one_or_error None = raise_builtin (codes "ValueError")
one_or_error (Some v) = gives v

abbrev pub least_or_most : Program → List Value → Action Value
least_or_most p (v ∷ []) = bind (items_of p v) (λ vs. bind (one_of vs) one_or_error)
least_or_most p vs = bind (one_of vs) one_or_error

-- ---- what comes back

abbrev pub tells_class : Program → Value → Value → Action Value
tells_class p v k = looks (λ m. bind (decided (instance_test p m.heap v (class_at m.heap k))) (λ b. gives (truth b)))

-- a value of a part: one of all
abbrev pub part_value : Program → (receiver : Value) → List Argument → Part → Action Value
part_value p receiver as' (part.Kind k) = of_kind k
part_value p receiver as' other = bind (part_values p single receiver as' other) (λ vs. bind (one_of vs) one_or_error)

-- of two parts a choice picks one
abbrev pub some_value : Program → (receiver : Value) → List Argument → Parts → Action Value
some_value p receiver as' (parts.One one) = part_value p receiver as' one
some_value p receiver as' (parts.Two one other) = takes (λ c. if is_even c then part_value p receiver as' one else part_value p receiver as' other)

abbrev pub outcome_value : Program → (number : ℕ) → Native → (receiver : Option Value) → List Argument → (site : ℕ) → Outcome → Action Value
outcome_value p number n receiver as' site (outcome.Gives ps) = some_value p (unwrap_or receiver none) as' ps
outcome_value p number n receiver as' site (outcome.NewList ps) = bind (all_values p many (unwrap_or receiver none) as' ps) (λ vs. allocate (object.list site vs))
outcome_value p number n receiver as' site (outcome.NewTuple ps) =
    bind (all_values p three (unwrap_or receiver none) as' ps) (λ vs. allocate (object.tuple site object.parts vs))
outcome_value p number n receiver as' site (outcome.NewDict keys others) = new_dict p site (unwrap_or receiver none) as' keys others
outcome_value p number n receiver as' site (outcome.View ps) = allocate (object.view site number receiver (values as'))
outcome_value p number n receiver as' site (outcome.PairView first second) = allocate (object.view site number receiver (values as'))
outcome_value p number n receiver as' site outcome.LeastOrMost = least_or_most p (values as')
outcome_value p number n receiver as' site outcome.TestsClass = tells_class p (argument_or (values as') 0 none) (argument_or (values as') 1 none)
outcome_value p number n receiver as' site outcome.FreshObject = allocate (object.outside (term.class (codes "object")))
outcome_value p number n receiver as' site outcome.InstanceOfIt = allocate (object.outside (term.class n.name))
outcome_value p number n receiver as' site outcome.TupleOfAnything = allocate (object.outside (term.tuple_of term.any))
outcome_value p number n receiver as' site outcome.NotFollowed = anything

-- ---- what enters the receiver at its end, in the place that an effect names

abbrev pub same_place : Place → Place → Bool
same_place into.Elements into.Elements = true
same_place into.Keys into.Keys = true
same_place into.Values into.Values = true
same_place _ _ = false

-- what enters one place, in order
abbrev pub entering : Program → Place → (receiver : Value) → List Argument → List Effect → Action (List Value)
entering p to receiver as' [] = gives []
entering p to receiver as' (e ∷ es) =
    if same_place to e.place then bind (part_values p single receiver as' e.part) (λ vs. bind (entering p to receiver as' es) (λ ws. gives (vs ++ ws)))
    else entering p to receiver as' es

abbrev pub parts_added : (place : ℕ) → List Value → Object → Action (Unit {0})
parts_added place ws (object.list site vs) = refill place (object.of_values (vs ++ ws))
parts_added place ws _ = done

abbrev pub add_parts : (place : ℕ) → List Value → Action (Unit {0})
add_parts place ws = at_place place (parts_added place ws)

-- keys and values in pairs
abbrev pub paired : List Value → List Value → List (Value × Value)
paired (k ∷ ks) (v ∷ vs) = (k, v) ∷ paired ks vs
paired _ _ = []

-- An effect on what is outside is forgotten: its argument isn't even iterated.
abbrev pub effects_on : Program → (place : ℕ) → List Argument → List Effect → Object → Action (Unit {0})
effects_on p place as' es (object.list site ws) = bind (entering p into.Elements (ref place) as' es) (add_parts place)
effects_on p place as' es (object.dict site qs) =
    bind (entering p into.Keys (ref place) as' es) (λ ks. bind (entering p into.Values (ref place) as' es) (λ vs. add_pairs place (paired ks vs)))
effects_on p place as' es _ = done

abbrev pub do_effects : Program → (receiver : Option Value) → List Argument → List Effect → Action (Unit {0})
do_effects p (Some (ref place)) as' es = at_place place (effects_on p place as' es)
do_effects p _ as' es = done

-- ---- single parts of lists

abbrev pub inserts : (place : ℕ) → Value → Object → Action Value
inserts place v (object.list site vs) = bind (pick (suc (length vs))) (λ i. then_do (refill place (object.of_values (insert vs i v))) gives_none)
inserts place v _ = gives_none

-- without the part at a place
abbrev pub take_part : (place : ℕ) → List Value → ℕ → Action (Unit {0})
take_part place vs i = refill place (object.of_values (remove vs i))

abbrev pub pops : Program → (place : ℕ) → Object → Action Value
pops p place (object.list site []) = raise_builtin (codes "IndexError")
pops p place (object.list site (v ∷ vs)) =
    bind (pick (length (v ∷ vs))) (λ i. then_do (take_part place (v ∷ vs) i) (gives (unwrap_or (slice_get (v ∷ vs) i) v)))
pops p place o = bind (one_of (contents o)) (λ c. elim c [ None ↦ raise_builtin (codes "IndexError") | Some one ↦ read p one ])

abbrev pub removes : (place : ℕ) → Object → Action Value
removes place (object.list site []) = raise_builtin (codes "ValueError")
removes place (object.list site (v ∷ vs)) = bind (pick (length (v ∷ vs))) (λ i. then_do (take_part place (v ∷ vs) i) gives_none)
removes place _ = gives_none

abbrev pub clears : (place : ℕ) → Object → Action Value
clears place (object.list site vs) = then_do (refill place (object.of_values [])) gives_none
clears place (object.dict site qs) = then_do (refill place (object.of_pairs [])) gives_none
clears place _ = gives_none

-- ---- single pairs of dicts: a pair that a choice picks, or, at the last number, none

abbrev pub some_pair : Object → Action ℕ
some_pair o = pick (suc (length (pairs o)))

abbrev pub gets : Program → List Value → Object → Action Value
gets p vs o = bind (some_pair o) (λ i. elim (slice_get (pairs o) i) [ Some q ↦ read p q.1 | None ↦ gives (argument_or vs 1 none) ])

abbrev pub sets_default : Program → (place : ℕ) → List Value → Object → Action Value
sets_default p place vs o =
    bind (some_pair o) (λ i.
    elim (slice_get (pairs o) i) [
      | Some q ↦ read p q.1
      | None ↦ then_do (add_pairs place ((argument_or vs 0 none, argument_or vs 1 none) ∷ [])) (gives (argument_or vs 1 none))
    ])

abbrev pub pair_taken : (place : ℕ) → ℕ → Object → Action (Unit {0})
pair_taken place i (object.dict site qs) = refill place (object.of_pairs (remove qs i))
pair_taken place i _ = done

abbrev pub given_or_error : Option Value → Action Value
given_or_error None = raise_builtin (codes "KeyError")
given_or_error (Some v) = gives v

abbrev pub pops_pair : Program → (place : ℕ) → List Value → Object → Action Value
pops_pair p place vs o =
    bind (some_pair o) (λ i. elim (slice_get (pairs o) i) [ Some q ↦ then_do (pair_taken place i o) (read p q.1) | None ↦ given_or_error (slice_get vs 1) ])

abbrev pub updates : Program → (place : ℕ) → List Value → Object → Action Value
updates p place vs (object.dict site qs) = then_do (add_from p place (argument_or vs 0 none)) gives_none
updates p place vs _ = gives_none

-- ---- what natives do

abbrev pub do_by_parts : Program → (number : ℕ) → Native → (receiver : Option Value) → List Argument → (site : ℕ) → Action Value
do_by_parts p number n receiver as' site =
    then_do (do_effects p receiver as' (effects_of n.deed)) (outcome_value p number n receiver as' site (outcome_of n.deed))

abbrev pub do_deed : Program → (number : ℕ) → Native → (place : ℕ) → List Argument → (site : ℕ) → Object → Deed → Action Value
do_deed p number n place as' site o (deed.ByParts es out) = do_by_parts p number n (Some (ref place)) as' site
do_deed p number n place as' site o deed.Inserts = inserts place (argument_or (values as') 1 none) o
do_deed p number n place as' site o deed.PopsPart = pops p place o
do_deed p number n place as' site o deed.RemovesPart = removes place o
do_deed p number n place as' site o deed.Clears = clears place o
do_deed p number n place as' site o deed.GetsValue = gets p (values as') o
do_deed p number n place as' site o deed.PopsPair = pops_pair p place (values as') o
do_deed p number n place as' site o deed.SetsDefault = sets_default p place (values as') o
do_deed p number n place as' site o deed.Updates = updates p place (values as') o

abbrev pub do_native : Program → (number : ℕ) → Native → (receiver : Option Value) → List Argument → (site : ℕ) → Action Value
do_native p number n (Some (ref place)) as' site = at_place place (λ o. do_deed p number n place as' site o n.deed)
do_native p number n receiver as' site = do_by_parts p number n receiver as' site

-- ---- a call of the native with a number, on its receiver if it is a method

abbrev pub call_native : Program → (number : ℕ) → (receiver : Option Value) → List Argument → (site line : ℕ) → Action Value
call_native p number receiver as' site line =
    elim (slice_get natives number) [
      | None ↦ anything
      | Some n ↦ elim (native_fault n.arguments (call_by_texts p as')) [ Some fault ↦ fails line fault | None ↦ do_native p number n receiver as' site ]
    ]
