-- Runs in which an order, a choice or a frame tells, computed.
use Rattle.std.specs.Prelude.{◌≡◌, pos, true, false, [], ◌∷◌, Some, None, refl, codes}
use Rattle.std.specs.Prelude.{unwrap_or}
use Rattle.place_ids.specs.declared.operators.CompareOp.TheVariants as cmp
use Rattle.builtin_stubs.specs.declared.basic.Basic.TheVariants as kind
use Rattle.builtin_stubs.specs.Natives.{method_number}
use Rattle.py_tree.specs.Tree.{Module}
use Rattle.py_meaning.specs.Values.{truth, whole, text, ref}
use Rattle.py_meaning.specs.Objects as object
use Rattle.py_meaning.specs.Events as event
use Rattle.py_meaning.specs.Runs.{turns_within, answer, ended, raised_out}
use Rattle.py_meaning.proofs.Written.{written, ·◌, ··◌, name, int, str, compare, attr, item, call, call_by, tuple, list, dict, continue, return}
use Rattle.py_meaning.proofs.Written.{raise, assign, set, expression, for, when, end_if, try, except, end_try, parameter, def, pass_member, class}
use Rattle.py_meaning.proofs.Samples.{answered, native, method, error, anything}

-- no choice is taken
--     x = isinstance({}.keys(), int)
--     y = isinstance({}.keys(), object)
abbrev a_view_is_of_no_class_but_object_module : Module
a_view_is_of_no_class_but_object_module = written (
    set "x" (call (name "isinstance") (call (attr (dict []) "keys") [] ∷ name "int" ∷ [])) ∷
    set "y" (call (name "isinstance") (call (attr (dict []) "keys") [] ∷ name "object" ∷ [])) ∷ [])

a_view_is_of_no_class_but_object : answered a_view_is_of_no_class_but_object_module ([]) 4 (0 ∷ 0 ∷ 0 ∷ 0 ∷ 0 ∷ 0 ∷ 0 ∷ 0 ∷ 0 ∷ 0 ∷ []) ([]) ≡ record {
  events = event.held 0 (truth false) ∷ event.held 4 (truth true) ∷ [];
  heap = native (codes "isinstance") ∷ object.dict 2 [] ∷ method kind.Dict (codes "keys") (ref 1)
      ∷ object.view 4 (unwrap_or (method_number kind.Dict (codes "keys")) 0) (Some (ref 1)) [] ∷ native (codes "int")
      ∷ native (codes "isinstance") ∷ object.dict 9 [] ∷ method kind.Dict (codes "keys") (ref 6)
      ∷ object.view 11 (unwrap_or (method_number kind.Dict (codes "keys")) 0) (Some (ref 6)) [] ∷ native (codes "object") ∷ [];
  ending = ended;
  choices = [];
  turns = 0;
}
unfolding answer turns_within
a_view_is_of_no_class_but_object = refl

--     if {}.keys():
--         x = 1
abbrev a_view_may_be_true_module : Module
a_view_may_be_true_module = written (
    when (call (attr (dict []) "keys") []) (
    · set "x" (int 1) ∷ []) end_if ∷ [])

a_view_may_be_true : answered a_view_may_be_true_module ([]) 1 (0 ∷ 0 ∷ 1 ∷ []) ([]) ≡ record {
  events = event.held 1 (whole (pos 1)) ∷ [];
  heap = object.dict 0 [] ∷ method kind.Dict (codes "keys") (ref 0)
      ∷ object.view 2 (unwrap_or (method_number kind.Dict (codes "keys")) 0) (Some (ref 0)) [] ∷ [];
  ending = ended;
  choices = [];
  turns = 0;
}
unfolding answer turns_within
a_view_may_be_true = refl

a_view_may_be_false : answered a_view_may_be_true_module ([]) 1 (0 ∷ 0 ∷ 0 ∷ []) ([]) ≡ record {
  events = [];
  heap = object.dict 0 [] ∷ method kind.Dict (codes "keys") (ref 0)
      ∷ object.view 2 (unwrap_or (method_number kind.Dict (codes "keys")) 0) (Some (ref 0)) [] ∷ [];
  ending = ended;
  choices = [];
  turns = 0;
}
unfolding answer turns_within
a_view_may_be_false = refl

-- a store is forgotten
--     KeyError().x = 1
abbrev exceptions_keep_no_attribute_module : Module
exceptions_keep_no_attribute_module = written (
    assign (attr (call (name "KeyError") []) "x" ∷ []) (int 1) ∷ [])

exceptions_keep_no_attribute : answered exceptions_keep_no_attribute_module ([]) 1 (0 ∷ 0 ∷ 0 ∷ []) ([]) ≡ record {
  events = [];
  heap = native (codes "KeyError") ∷ error (codes "KeyError") ∷ [];
  ending = ended;
  choices = [];
  turns = 0;
}
unfolding answer turns_within
exceptions_keep_no_attribute = refl

--     def f(a):
--         return a
--     f(a=1, a=2)
abbrev gives_a_keyword_twice_module : Module
gives_a_keyword_twice_module = written (
    def "f" (parameter "a" None ∷ []) (
    · return (Some (name "a")) ∷ []) ∷
    expression (call_by (name "f") [] (("a", int 1) ∷ ("a", int 2) ∷ [])) ∷ [])

gives_a_keyword_twice : answered gives_a_keyword_twice_module ([]) 1 (0 ∷ 0 ∷ []) ([]) ≡ record {
  events = event.fault 3 event.duplicate_keyword event.on_another None ∷ [];
  heap = object.function 0 ∷ error (codes "TypeError") ∷ [];
  ending = raised_out (ref 1);
  choices = [];
  turns = 0;
}
unfolding answer turns_within
gives_a_keyword_twice = refl

--     sorted([], reverse=1, reverse=2)
abbrev gives_a_native_a_keyword_twice_module : Module
gives_a_native_a_keyword_twice_module = written (
    expression (call_by (name "sorted") (list [] ∷ []) (("reverse", int 1) ∷ ("reverse", int 2) ∷ [])) ∷ [])

gives_a_native_a_keyword_twice : answered gives_a_native_a_keyword_twice_module ([]) 1 (0 ∷ 0 ∷ []) ([]) ≡ record {
  events = event.fault 1 event.duplicate_keyword event.on_another None ∷ [];
  heap = native (codes "sorted") ∷ object.list 1 [] ∷ error (codes "TypeError") ∷ [];
  ending = raised_out (ref 2);
  choices = [];
  turns = 0;
}
unfolding answer turns_within
gives_a_native_a_keyword_twice = refl

-- where any keyword may stand it may stand twice
--     x = dict(a=1, a=2)
abbrev gives_a_key_twice_module : Module
gives_a_key_twice_module = written (
    set "x" (call_by (name "dict") [] (("a", int 1) ∷ ("a", int 2) ∷ [])) ∷ [])

gives_a_key_twice : answered gives_a_key_twice_module ([]) 1 (0 ∷ 0 ∷ []) ([]) ≡ record {
  events = event.held 0 (ref 1) ∷ [];
  heap = native (codes "dict") ∷ object.dict 4 ((text false, whole (pos 1)) ∷ (text false, whole (pos 2)) ∷ []) ∷ [];
  ending = ended;
  choices = [];
  turns = 0;
}
unfolding answer turns_within
gives_a_key_twice = refl

-- from the last target to the first
--     a, b = "xy"
abbrev unpacks_a_text_module : Module
unpacks_a_text_module = written (
    assign (tuple (name "a" ∷ name "b" ∷ []) ∷ []) (str "xy") ∷ [])

unpacks_a_text : answered unpacks_a_text_module ([]) 0 (0 ∷ 0 ∷ 1 ∷ 0 ∷ 0 ∷ 0 ∷ []) ([]) ≡ record {
  events = event.held 0 (text true) ∷ event.held 1 (text false) ∷ [];
  heap = [];
  ending = ended;
  choices = [];
  turns = 0;
}
unfolding answer turns_within
unpacks_a_text = refl

--     a, b = [1]
abbrev unpacks_a_short_list_module : Module
unpacks_a_short_list_module = written (
    assign (tuple (name "a" ∷ name "b" ∷ []) ∷ []) (list (int 1 ∷ [])) ∷ [])

unpacks_a_short_list : answered unpacks_a_short_list_module ([]) 0 (0 ∷ 0 ∷ 0 ∷ 1 ∷ []) ([]) ≡ record {
  events = [];
  heap = object.list 4 (whole (pos 1) ∷ []) ∷ error (codes "ValueError") ∷ [];
  ending = raised_out (ref 1);
  choices = [];
  turns = 0;
}
unfolding answer turns_within
unpacks_a_short_list = refl

--     x = 1 not in "b"
abbrev is_not_looked_for_in_a_text_module : Module
is_not_looked_for_in_a_text_module = written (
    set "x" (compare (int 1) cmp.NotWithin (str "b")) ∷ [])

is_not_looked_for_in_a_text : answered is_not_looked_for_in_a_text_module ([]) 0 (0 ∷ []) ([]) ≡ record {
  events = event.fault 1 event.unsupported_operands event.on_another None ∷ [];
  heap = error (codes "TypeError") ∷ [];
  ending = raised_out (ref 0);
  choices = [];
  turns = 0;
}
unfolding answer turns_within
is_not_looked_for_in_a_text = refl

--     def g():
--         return [1]
--     def h():
--         return 0
--     x = g()[h()]
abbrev reads_the_container_first_module : Module
reads_the_container_first_module = written (
    def "g" [] (
    · return (Some (list (int 1 ∷ []))) ∷ []) ∷
    def "h" [] (
    · return (Some (int 0)) ∷ []) ∷
    set "x" (item (call (name "g") []) (call (name "h") [])) ∷ [])

reads_the_container_first : answered reads_the_container_first_module ([]) 2 (0 ∷ 0 ∷ 0 ∷ 0 ∷ 0 ∷ []) ([]) ≡ record {
  events = event.returned 0 (ref 2) ∷ event.returned 1 (whole (pos 0)) ∷ event.held 2 (whole (pos 1)) ∷ [];
  heap = object.function 0 ∷ object.function 1 ∷ object.list 1 (whole (pos 1) ∷ []) ∷ [];
  ending = ended;
  choices = [];
  turns = 0;
}
unfolding answer turns_within
reads_the_container_first = refl

-- the list that the name held before has the other
--     xs = [0]
--     xs[0] = xs = [1]
abbrev stores_from_the_left_module : Module
stores_from_the_left_module = written (
    set "xs" (list (int 0 ∷ [])) ∷
    assign (item (name "xs") (int 0) ∷ name "xs" ∷ []) (list (int 1 ∷ [])) ∷ [])

stores_from_the_left : answered stores_from_the_left_module ([]) 0 (0 ∷ 0 ∷ []) ([]) ≡ record {
  events = event.held 0 (ref 1) ∷ [];
  heap = object.list 2 (ref 1 ∷ []) ∷ object.list 8 (whole (pos 1) ∷ []) ∷ [];
  ending = ended;
  choices = [];
  turns = 0;
}
unfolding answer turns_within
stores_from_the_left = refl

--     for x in [1]:
--         continue
--         y = 2
abbrev continues_a_loop_module : Module
continues_a_loop_module = written (
    for (name "x") (list (int 1 ∷ [])) (
    · continue ∷
    · set "y" (int 2) ∷ []) ∷ [])

continues_a_loop : answered continues_a_loop_module ([]) 1 (0 ∷ 0 ∷ 0 ∷ 1 ∷ []) ([]) ≡ record {
  events = event.held 0 (whole (pos 1)) ∷ [];
  heap = object.list 2 (whole (pos 1) ∷ []) ∷ [];
  ending = ended;
  choices = [];
  turns = 0;
}
unfolding answer turns_within
continues_a_loop = refl

--     class C:
--         pass
--     x = C.__init__
abbrev each_class_has_an_init_module : Module
each_class_has_an_init_module = written (
    class "C" None (
    · pass_member ∷ []) ∷
    set "x" (attr (name "C") "__init__") ∷ [])

each_class_has_an_init : answered each_class_has_an_init_module ([]) 0 (0 ∷ 0 ∷ []) ([]) ≡ record {
  events = event.held 1 (ref 1) ∷ [];
  heap = object.class 0 [] ∷ native (codes "base_init") ∷ [];
  ending = ended;
  choices = [];
  turns = 0;
}
unfolding answer turns_within
each_class_has_an_init = refl

--     def f():
--         raise ValueError
--     def g():
--         y = 1
--         try:
--             f()
--         except ValueError:
--             return y
--     x = g()
abbrev has_its_locals_after_a_raise_module : Module
has_its_locals_after_a_raise_module = written (
    def "f" [] (
    · raise (Some (name "ValueError")) None ∷ []) ∷
    def "g" [] (
    · set "y" (int 1) ∷
    · try (
    ·· expression (call (name "f") []) ∷ []) (
    · except (Some (name "ValueError")) None (
    ·· return (Some (name "y")) ∷ []) end_try) ∷ []) ∷
    set "x" (call (name "g") []) ∷ [])

has_its_locals_after_a_raise : answered has_its_locals_after_a_raise_module ([]) 3 (0 ∷ 0 ∷ 0 ∷ 0 ∷ 0 ∷ 0 ∷ 0 ∷ 0 ∷ 0 ∷ 0 ∷ []) ([]) ≡ record {
  events = event.returned 1 (whole (pos 1)) ∷ event.held 4 (whole (pos 1)) ∷ [];
  heap = object.function 0 ∷ object.function 1 ∷ native (codes "ValueError") ∷ error (codes "ValueError") ∷ native (codes "ValueError") ∷ [];
  ending = ended;
  choices = [];
  turns = 0;
}
unfolding answer turns_within
has_its_locals_after_a_raise = refl

--     xs = [1]
--     xs.insert(0, 2)
abbrev inserts_at_the_end_module : Module
inserts_at_the_end_module = written (
    set "xs" (list (int 1 ∷ [])) ∷
    expression (call (attr (name "xs") "insert") (int 0 ∷ int 2 ∷ [])) ∷ [])

inserts_at_the_end : answered inserts_at_the_end_module ([]) 1 (0 ∷ 0 ∷ 0 ∷ 1 ∷ []) ([]) ≡ record {
  events = event.held 0 (ref 0) ∷ [];
  heap = object.list 2 (whole (pos 1) ∷ whole (pos 2) ∷ []) ∷ method kind.List (codes "insert") (ref 0) ∷ [];
  ending = ended;
  choices = [];
  turns = 0;
}
unfolding answer turns_within
inserts_at_the_end = refl

--     x = base_init
abbrev base_init_is_no_name_of_python_module : Module
base_init_is_no_name_of_python_module = written (
    set "x" (name "base_init") ∷ [])

base_init_is_no_name_of_python : answered base_init_is_no_name_of_python_module ([]) 0 (0 ∷ []) ([]) ≡ record {
  events = event.held 0 (ref 0) ∷ [];
  heap = anything ∷ [];
  ending = ended;
  choices = [];
  turns = 0;
}
unfolding answer turns_within
base_init_is_no_name_of_python = refl
