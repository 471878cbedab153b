-- Runs with values that stubs declare, computed.
use Rattle.std.specs.Prelude.{◌≡◌, pos, true, false, [], ◌∷◌, Some, None, refl, codes}
use Rattle.place_ids.specs.declared.operators.BinOp.TheVariants as bin
use Rattle.place_ids.specs.declared.operators.CompareOp.TheVariants as cmp
use Rattle.builtin_stubs.specs.declared.basic.Basic.TheVariants as kind
use Rattle.py_tree.specs.declared.literal.Literal.TheVariants as lit
use Rattle.type_terms.specs.Terms as term
use Rattle.type_terms.specs.Stubs.{Stub}
use Rattle.py_tree.specs.Tree.{Module}
use Rattle.py_meaning.specs.Values.{truth, whole, text, ref}
use Rattle.py_meaning.specs.Objects as object
use Rattle.py_meaning.specs.Events as event
use Rattle.py_meaning.specs.Runs.{turns_within, answer, ended, raised_out}
use Rattle.py_meaning.proofs.Written.{written, ·◌, lower, name, literal, int, compare, attr, item, slice, call, list, pass}
use Rattle.py_meaning.proofs.Written.{raise, import, taken, from, assign, set, augment, for, try, except, end_try, pass_member, class}
use Rattle.py_meaning.proofs.Samples.{answered, native, method, error, anything}

-- v: Any, o: object, u: Union[K, KeyError], xs: List[int], d: Dict[str, int], e: Tuple[()]
-- class K, class Err(KeyError)
abbrev m : Stub
m = record {
  names = record { name = codes "v"; term = term.any } ∷ record { name = codes "o"; term = term.class (codes "object") }
      ∷ record { name = codes "u"; term = term.union (term.term (term.class (codes "K")) (term.term (term.class (codes "KeyError")) term.no_terms)) }
      ∷ record { name = codes "xs"; term = term.list term.int } ∷ record { name = codes "d"; term = term.dict term.str term.int }
      ∷ record { name = codes "e"; term = term.tuple term.no_terms } ∷ [];
  funs = [];
  classes = record { name = codes "K"; base = None; names = []; funs = [] }
      ∷ record { name = codes "Err"; base = Some (codes "KeyError"); names = []; funs = [] } ∷ [];
}

-- what may be anything may be None
--     from m import v
--     x = None is v
abbrev may_be_none_module : Module
may_be_none_module = written (
    from ("m" ∷ []) (taken "v" None ∷ []) ∷
    set "x" (compare (literal lit.NoneValue) cmp.Is (name "v")) ∷ [])

may_be_none : answered may_be_none_module ((codes "m", m) ∷ []) 0 (0 ∷ 0 ∷ 0 ∷ 0 ∷ []) ([]) ≡ record {
  events = event.held 2 (truth true) ∷ [];
  heap = anything ∷ [];
  ending = ended;
  choices = [];
  turns = 0;
}
unfolding answer turns_within
may_be_none = refl

may_be_another : answered may_be_none_module ((codes "m", m) ∷ []) 0 (0 ∷ 0 ∷ 0 ∷ 1 ∷ []) ([]) ≡ record {
  events = event.held 2 (truth false) ∷ [];
  heap = anything ∷ [];
  ending = ended;
  choices = [];
  turns = 0;
}
unfolding answer turns_within
may_be_another = refl

--     from m import K
--     x = K() in [2]
abbrev is_looked_for_in_a_list_module : Module
is_looked_for_in_a_list_module = written (
    from ("m" ∷ []) (taken "K" None ∷ []) ∷
    set "x" (compare (call (name "K") []) cmp.Within (list (int 2 ∷ []))) ∷ [])

is_looked_for_in_a_list : answered is_looked_for_in_a_list_module ((codes "m", m) ∷ []) 1 (0 ∷ 0 ∷ 0 ∷ 0 ∷ 0 ∷ []) ([]) ≡ record {
  events = event.held 2 (truth true) ∷ [];
  heap = object.foreign (object.stub_class (codes "m") (codes "K")) ∷ object.outside (term.class (codes "m.K")) ∷ object.list 4 (whole (pos 2) ∷ []) ∷ [];
  ending = ended;
  choices = [];
  turns = 0;
}
unfolding answer turns_within
is_looked_for_in_a_list = refl

-- a class of the module may be below one of a stub
--     from m import K
--     class C:
--         pass
--     x = isinstance(C(), K)
abbrev may_be_of_a_stub_class_module : Module
may_be_of_a_stub_class_module = written (
    from ("m" ∷ []) (taken "K" None ∷ []) ∷
    class "C" None (
    · pass_member ∷ []) ∷
    set "x" (call (name "isinstance") (call (name "C") [] ∷ name "K" ∷ [])) ∷ [])

may_be_of_a_stub_class : answered may_be_of_a_stub_class_module ((codes "m", m) ∷ []) 2 (0 ∷ 0 ∷ 0 ∷ 0 ∷ 0 ∷ 0 ∷ 0 ∷ []) ([]) ≡ record {
  events = event.held 3 (truth true) ∷ [];
  heap = object.foreign (object.stub_class (codes "m") (codes "K")) ∷ object.class 0 [] ∷ native (codes "isinstance") ∷ object.instance 0 [] ∷ [];
  ending = ended;
  choices = [];
  turns = 0;
}
unfolding answer turns_within
may_be_of_a_stub_class = refl

may_be_of_no_stub_class : answered may_be_of_a_stub_class_module ((codes "m", m) ∷ []) 2 (0 ∷ 0 ∷ 0 ∷ 0 ∷ 0 ∷ 0 ∷ 1 ∷ []) ([]) ≡ record {
  events = event.held 3 (truth false) ∷ [];
  heap = object.foreign (object.stub_class (codes "m") (codes "K")) ∷ object.class 0 [] ∷ native (codes "isinstance") ∷ object.instance 0 [] ∷ [];
  ending = ended;
  choices = [];
  turns = 0;
}
unfolding answer turns_within
may_be_of_no_stub_class = refl

--     from m import Err
--     try:
--         raise Err()
--     except Err:
--         x = 1
abbrev catches_a_stub_exception_module : Module
catches_a_stub_exception_module = written (
    from ("m" ∷ []) (taken "Err" None ∷ []) ∷
    try (
    · raise (Some (call (name "Err") [])) None ∷ []) (
    except (Some (name "Err")) None (
    · set "x" (int 1) ∷ []) end_try) ∷ [])

catches_a_stub_exception : answered catches_a_stub_exception_module ((codes "m", m) ∷ []) 1 (0 ∷ 0 ∷ 0 ∷ 0 ∷ 0 ∷ 0 ∷ 0 ∷ []) ([]) ≡ record {
  events = event.held 2 (whole (pos 1)) ∷ [];
  heap = object.foreign (object.stub_class (codes "m") (codes "Err")) ∷ object.outside (term.class (codes "m.Err")) ∷ [];
  ending = ended;
  choices = [];
  turns = 0;
}
unfolding answer turns_within
catches_a_stub_exception = refl

--     from m import Err
--     try:
--         raise Err()
--     except LookupError:
--         x = 1
abbrev catches_a_stub_exception_by_a_base_module : Module
catches_a_stub_exception_by_a_base_module = written (
    from ("m" ∷ []) (taken "Err" None ∷ []) ∷
    try (
    · raise (Some (call (name "Err") [])) None ∷ []) (
    except (Some (name "LookupError")) None (
    · set "x" (int 1) ∷ []) end_try) ∷ [])

catches_a_stub_exception_by_a_base : answered catches_a_stub_exception_by_a_base_module ((codes "m", m) ∷ []) 1 (0 ∷ 0 ∷ 0 ∷ 0 ∷ 0 ∷ 0 ∷ 0 ∷ []) ([]) ≡ record {
  events = event.held 3 (whole (pos 1)) ∷ [];
  heap = object.foreign (object.stub_class (codes "m") (codes "Err")) ∷ object.outside (term.class (codes "m.Err")) ∷ native (codes "LookupError") ∷ [];
  ending = ended;
  choices = [];
  turns = 0;
}
unfolding answer turns_within
catches_a_stub_exception_by_a_base = refl

-- the stub's own class stands under its whole name, behind the builtin one
--     from m import u
--     x = u
abbrev a_union_in_order_module : Module
a_union_in_order_module = written (
    from ("m" ∷ []) (taken "u" None ∷ []) ∷
    set "x" (name "u") ∷ [])

a_union_in_order : answered a_union_in_order_module ((codes "m", m) ∷ []) 0 (0 ∷ 0 ∷ 0 ∷ []) ([]) ≡ record {
  events = event.held 2 (ref 0) ∷ [];
  heap = error (codes "KeyError") ∷ [];
  ending = ended;
  choices = [];
  turns = 0;
}
unfolding answer turns_within
a_union_in_order = refl

the_last_of_a_union : answered a_union_in_order_module ((codes "m", m) ∷ []) 0 (0 ∷ 1 ∷ 0 ∷ []) ([]) ≡ record {
  events = event.held 2 (ref 0) ∷ [];
  heap = object.outside (term.class (codes "m.K")) ∷ [];
  ending = ended;
  choices = [];
  turns = 0;
}
unfolding answer turns_within
the_last_of_a_union = refl

--     from m import o
--     x = o.z
abbrev object_may_be_anything_module : Module
object_may_be_anything_module = written (
    from ("m" ∷ []) (taken "o" None ∷ []) ∷
    set "x" (attr (name "o") "z") ∷ [])

object_may_be_anything : answered object_may_be_anything_module ((codes "m", m) ∷ []) 0 (0 ∷ 0 ∷ 0 ∷ []) ([]) ≡ record {
  events = event.held 2 (ref 1) ∷ [];
  heap = anything ∷ anything ∷ [];
  ending = ended;
  choices = [];
  turns = 0;
}
unfolding answer turns_within
object_may_be_anything = refl

--     from m import d
--     d[1] = 2
abbrev forgets_what_is_stored_module : Module
forgets_what_is_stored_module = written (
    from ("m" ∷ []) (taken "d" None ∷ []) ∷
    assign (item (name "d") (int 1) ∷ []) (int 2) ∷ [])

forgets_what_is_stored : answered forgets_what_is_stored_module ((codes "m", m) ∷ []) 0 (0 ∷ 0 ∷ 0 ∷ []) ([]) ≡ record {
  events = [];
  heap = object.outside (term.dict term.str term.int) ∷ [];
  ending = ended;
  choices = [];
  turns = 0;
}
unfolding answer turns_within
forgets_what_is_stored = refl

-- not even whether it can be iterated matters
--     from m import xs
--     xs += 3
abbrev forgets_what_is_added_module : Module
forgets_what_is_added_module = written (
    from ("m" ∷ []) (taken "xs" None ∷ []) ∷
    augment (name "xs") bin.Add (int 3) ∷ [])

forgets_what_is_added : answered forgets_what_is_added_module ((codes "m", m) ∷ []) 0 (0 ∷ 0 ∷ 0 ∷ []) ([]) ≡ record {
  events = event.held 1 (ref 0) ∷ [];
  heap = object.outside (term.list term.int) ∷ [];
  ending = ended;
  choices = [];
  turns = 0;
}
unfolding answer turns_within
forgets_what_is_added = refl

--     from m import e
--     for x in e:
--         pass
abbrev an_empty_tuple_has_no_element_module : Module
an_empty_tuple_has_no_element_module = written (
    from ("m" ∷ []) (taken "e" None ∷ []) ∷
    for (name "x") (name "e") (
    · pass ∷ []) ∷ [])

an_empty_tuple_has_no_element : answered an_empty_tuple_has_no_element_module ((codes "m", m) ∷ []) 0 (0 ∷ 0 ∷ 0 ∷ []) ([]) ≡ record {
  events = [];
  heap = object.outside (term.tuple term.no_terms) ∷ [];
  ending = ended;
  choices = [];
  turns = 0;
}
unfolding answer turns_within
an_empty_tuple_has_no_element = refl

--     from m import xs
--     xs *= 3
abbrev forgets_what_is_multiplied_module : Module
forgets_what_is_multiplied_module = written (
    from ("m" ∷ []) (taken "xs" None ∷ []) ∷
    augment (name "xs") bin.Mul (int 3) ∷ [])

forgets_what_is_multiplied : answered forgets_what_is_multiplied_module ((codes "m", m) ∷ []) 0 (0 ∷ 0 ∷ 0 ∷ []) ([]) ≡ record {
  events = event.held 1 (ref 0) ∷ [];
  heap = object.outside (term.list term.int) ∷ [];
  ending = ended;
  choices = [];
  turns = 0;
}
unfolding answer turns_within
forgets_what_is_multiplied = refl

-- a slice of a tuple has parts, and no places
--     from m import e
--     x = e[:]
abbrev slices_have_no_places_module : Module
slices_have_no_places_module = written (
    from ("m" ∷ []) (taken "e" None ∷ []) ∷
    set "x" (slice (name "e") None None None) ∷ [])

slices_have_no_places : answered slices_have_no_places_module ((codes "m", m) ∷ []) 0 (0 ∷ 0 ∷ 0 ∷ []) ([]) ≡ record {
  events = event.held 2 (ref 1) ∷ [];
  heap = object.outside (term.tuple term.no_terms) ∷ object.tuple 2 object.parts [] ∷ [];
  ending = ended;
  choices = [];
  turns = 0;
}
unfolding answer turns_within
slices_have_no_places = refl

-- what is missed by the store in place is missed at the target's line
--     (
--     int).z += 1
abbrev misses_at_the_target_module : Module
misses_at_the_target_module = written (
    augment (attr (lower (name "int")) "z") bin.Add (int 1) ∷ [])

misses_at_the_target : answered misses_at_the_target_module [] 0 (0 ∷ 0 ∷ 0 ∷ 0 ∷ []) ([]) ≡ record {
  events = event.fault 2 event.attribute_error event.on_another (Some 1) ∷ [];
  heap = native (codes "int") ∷ anything ∷ anything ∷ error (codes "AttributeError") ∷ [];
  ending = raised_out (ref 3);
  choices = [];
  turns = 0;
}
unfolding answer turns_within
misses_at_the_target = refl

-- keys are of the first of the declared types, and values of the second
--     from m import d
--     y = d.copy()
abbrev copies_what_is_declared_module : Module
copies_what_is_declared_module = written (
    from ("m" ∷ []) (taken "d" None ∷ []) ∷
    set "y" (call (attr (name "d") "copy") []) ∷ [])

copies_what_is_declared : answered copies_what_is_declared_module ((codes "m", m) ∷ []) 1 (0 ∷ 0 ∷ 0 ∷ 0 ∷ 0 ∷ 7 ∷ []) ([]) ≡ record {
  events = event.held 2 (ref 2) ∷ [];
  heap = object.outside (term.dict term.str term.int) ∷ method kind.Dict (codes "copy") (ref 0) ∷ object.dict 3 ((text true, whole (pos 7)) ∷ []) ∷ [];
  ending = ended;
  choices = [];
  turns = 0;
}
unfolding answer turns_within
copies_what_is_declared = refl

-- nothing is known of what a stub's class is below
--     from m import K
--     x = isinstance(K(), int)
abbrev may_be_an_int_module : Module
may_be_an_int_module = written (
    from ("m" ∷ []) (taken "K" None ∷ []) ∷
    set "x" (call (name "isinstance") (call (name "K") [] ∷ name "int" ∷ [])) ∷ [])

may_be_an_int : answered may_be_an_int_module ((codes "m", m) ∷ []) 2 (0 ∷ 0 ∷ 0 ∷ 0 ∷ 0 ∷ 0 ∷ 0 ∷ []) ([]) ≡ record {
  events = event.held 2 (truth true) ∷ [];
  heap = object.foreign (object.stub_class (codes "m") (codes "K")) ∷ native (codes "isinstance")
      ∷ object.outside (term.class (codes "m.K")) ∷ native (codes "int") ∷ [];
  ending = ended;
  choices = [];
  turns = 0;
}
unfolding answer turns_within
may_be_an_int = refl

-- an import of a path binds its first name
--     import a.b
--     x = a
abbrev binds_the_first_name_module : Module
binds_the_first_name_module = written (
    import ("a" ∷ "b" ∷ []) None ∷
    set "x" (name "a") ∷ [])

binds_the_first_name : answered binds_the_first_name_module [] 0 (0 ∷ 0 ∷ []) ([]) ≡ record {
  events = event.held 2 (ref 0) ∷ [];
  heap = anything ∷ [];
  ending = ended;
  choices = [];
  turns = 0;
}
unfolding answer turns_within
binds_the_first_name = refl

-- what may be anything may be iterated
--     from m import v
--     x = []
--     x += v
abbrev takes_items_of_anything_module : Module
takes_items_of_anything_module = written (
    from ("m" ∷ []) (taken "v" None ∷ []) ∷
    set "x" (list []) ∷
    augment (name "x") bin.Add (name "v") ∷ [])

takes_items_of_anything : answered takes_items_of_anything_module ((codes "m", m) ∷ []) 0 (0 ∷ 0 ∷ 0 ∷ 0 ∷ 0 ∷ 1 ∷ []) ([]) ≡ record {
  events = event.held 2 (ref 1) ∷ [];
  heap = anything ∷ object.list 1 (ref 2 ∷ []) ∷ anything ∷ [];
  ending = ended;
  choices = [];
  turns = 0;
}
unfolding answer turns_within
takes_items_of_anything = refl

-- what may be anything may be raised
--     from m import v
--     raise v
abbrev raises_anything_module : Module
raises_anything_module = written (
    from ("m" ∷ []) (taken "v" None ∷ []) ∷
    raise (Some (name "v")) None ∷ [])

raises_anything : answered raises_anything_module ((codes "m", m) ∷ []) 0 (0 ∷ 0 ∷ 0 ∷ 0 ∷ []) ([]) ≡ record {
  events = [];
  heap = anything ∷ [];
  ending = raised_out (ref 0);
  choices = [];
  turns = 0;
}
unfolding answer turns_within
raises_anything = refl
