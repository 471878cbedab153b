-- How pairs are added to a dict: by `dict` and by `update` (library reference, "Mapping Types").
use Rattle.std.specs.Prelude.{ℕ, zero, suc, Bool, true, false, List, [], ◌∷◌, ◌++◌, if◌then◌else◌, codes}
use Rattle.type_terms.specs.Terms as term
use Rattle.py_meaning.specs.Values.{Value, ref}
use Rattle.py_meaning.specs.Objects as object
use Rattle.py_meaning.specs.Objects.{Object, object_at}
use Rattle.py_meaning.specs.Programs.{Program}
use Rattle.py_meaning.specs.Contents.{pairs, read_pairs}
use Rattle.py_meaning.specs.Iteration.{iterate, on_element, is_iterable, items_of}
use Rattle.py_meaning.specs.Actions.{Action, counts, looks, bind, then_do, refill, anything, at_place, raise_builtin, done}

abbrev pub pairs_added : (place : ℕ) → List (Value × Value) → Object → Action (Unit {0})
pairs_added place qs (object.dict site ps) = refill place (object.of_pairs (ps ++ qs))
pairs_added place qs _ = done

-- at the end; a store into a dict from outside is forgotten
abbrev pub add_pairs : (place : ℕ) → List (Value × Value) → Action (Unit {0})
add_pairs place qs = at_place place (pairs_added place qs)

-- An item has two parts, a key and a value.
abbrev pub add_two : (place : ℕ) → List Value → Action (Unit {0})
add_two place (k ∷ v ∷ []) = add_pairs place ((k, v) ∷ [])
add_two place _ = raise_builtin (codes "ValueError")

abbrev pub is_outside : Object → Bool
is_outside (object.outside t) = true
is_outside _ = false

abbrev pub is_outside_at : List Object → Value → Bool
is_outside_at heap (ref place) = is_outside (object_at heap place)
is_outside_at heap v = false

-- an item of what is no dict: from outside it may be any pair; one that can't be iterated is a TypeError
abbrev pub add_item : Program → (place : ℕ) → Value → Action (Unit {0})
add_item p place v =
    looks (λ m.
    if is_outside_at m.heap v then bind anything (λ k. bind anything (λ w. add_pairs place ((k, w) ∷ [])))
    else if is_iterable m.heap v then bind (items_of p v) (add_two place) else raise_builtin (codes "TypeError"))

-- each item is dealt with before the next is taken
abbrev pub add_each : Program → (place : ℕ) → List Value → Action (Unit {0})
add_each p place [] = done
add_each p place (v ∷ vs) = then_do (add_item p place v) (add_each p place vs)

abbrev pub add_through : Program → (place : ℕ) → ℕ → Value → Action (Unit {0})
add_through p place zero v = bind (iterate p v) (λ one. done)
add_through p place (suc n) v = bind (iterate p v) (λ one. on_element one (λ w. then_do (add_item p place w) (add_through p place n v)) done)

abbrev pub add_from_object : Program → (place : ℕ) → Value → Object → Action (Unit {0})
add_from_object p place v (object.dict site ps) = add_pairs place ps
add_from_object p place v (object.outside (term.dict t u)) = bind (read_pairs p (pairs (object.outside (term.dict t u)))) (add_pairs place)
add_from_object p place v (object.list site vs) = add_each p place vs
add_from_object p place v (object.tuple site layout vs) = add_each p place vs
add_from_object p place v _ = counts (λ n. add_through p place n v)

-- a dict's pairs, or the items of anything else
abbrev pub add_from : Program → (place : ℕ) → Value → Action (Unit {0})
add_from p place (ref other) = at_place other (add_from_object p place (ref other))
add_from p place v = counts (λ n. add_through p place n v)
