-- Runs of calls, functions and classes, computed.
use Rattle.std.specs.Prelude.{◌≡◌, pos, negsuc, true, false, [], ◌∷◌, Some, None, refl, codes}
use Rattle.place_ids.specs.declared.operators.BinOp.TheVariants as bin
use Rattle.py_tree.specs.declared.literal.Literal.TheVariants as lit
use Rattle.type_terms.specs.Terms as term
use Rattle.py_tree.specs.Tree.{Module}
use Rattle.py_meaning.specs.Values.{none, whole, ref}
use Rattle.py_meaning.specs.Objects as object
use Rattle.py_meaning.specs.Events as event
use Rattle.py_meaning.specs.Runs.{turns_within, answer, ended, raised_out, ran_out_of_turns, ran_out_of_choices}
use Rattle.py_meaning.proofs.Written.{written, ·◌, ··◌, ···◌, name, int, str, binary, attr, super, item, call, call_by, tuple, list, pass, return, raise}
use Rattle.py_meaning.proofs.Written.{assign, set, expression, for, when, end_if, try, except, end_try, parameter, def, method_def, value, pass_member, class}
use Rattle.py_meaning.proofs.Samples.{answered}
use Rattle.py_meaning.proofs.Samples.{native, error, anything}

-- a default is a constant, whatever was called before
--     def f(a=1):
--         return a
--     x = f()
--     y = f(2)
abbrev evaluates_a_default_once_module : Module
evaluates_a_default_once_module = written (
    def "f" (parameter "a" (Some (lit.Int false 1)) ∷ []) (
    · return (Some (name "a")) ∷ []) ∷
    set "x" (call (name "f") []) ∷
    set "y" (call (name "f") (int 2 ∷ [])) ∷ [])

evaluates_a_default_once : answered evaluates_a_default_once_module [] 2 (0 ∷ 0 ∷ 0 ∷ 0 ∷ 0 ∷ 0 ∷ []) ([]) ≡ record {
  events = event.returned 0 (whole (pos 1)) ∷ event.returned 0 (whole (pos 2)) ∷ event.held 2 (whole (pos 1)) ∷ event.held 3 (whole (pos 2)) ∷ [];
  heap = object.function 0 ∷ [];
  ending = ended;
  choices = [];
  turns = 0;
}
unfolding answer turns_within
evaluates_a_default_once = refl

--     def f(a=-1):
--         return a
--     x = f()
abbrev defaults_to_a_negative_number_module : Module
defaults_to_a_negative_number_module = written (
    def "f" (parameter "a" (Some (lit.Int true 1)) ∷ []) (
    · return (Some (name "a")) ∷ []) ∷
    set "x" (call (name "f") []) ∷ [])

defaults_to_a_negative_number : answered defaults_to_a_negative_number_module [] 1 (0 ∷ 0 ∷ 0 ∷ []) ([]) ≡ record {
  events = event.returned 0 (whole (negsuc 0)) ∷ event.held 2 (whole (negsuc 0)) ∷ [];
  heap = object.function 0 ∷ [];
  ending = ended;
  choices = [];
  turns = 0;
}
unfolding answer turns_within
defaults_to_a_negative_number = refl

--     def f():
--         pass
--     x = f()
abbrev returns_none_at_the_end_module : Module
returns_none_at_the_end_module = written (
    def "f" [] (
    · pass ∷ []) ∷
    set "x" (call (name "f") []) ∷ [])

returns_none_at_the_end : answered returns_none_at_the_end_module [] 1 (0 ∷ 0 ∷ []) ([]) ≡ record {
  events = event.returned 0 none ∷ event.held 1 none ∷ [];
  heap = object.function 0 ∷ [];
  ending = ended;
  choices = [];
  turns = 0;
}
unfolding answer turns_within
returns_none_at_the_end = refl

--     def f(a, b, c=3):
--         return b
--     x = f(1, b=2)
abbrev binds_by_keyword_module : Module
binds_by_keyword_module = written (
    def "f" (parameter "a" None ∷ parameter "b" None ∷ parameter "c" (Some (lit.Int false 3)) ∷ []) (
    · return (Some (name "b")) ∷ []) ∷
    set "x" (call_by (name "f") (int 1 ∷ []) (("b", int 2) ∷ [])) ∷ [])

binds_by_keyword : answered binds_by_keyword_module [] 1 (0 ∷ 0 ∷ 0 ∷ []) ([]) ≡ record {
  events = event.returned 0 (whole (pos 2)) ∷ event.held 4 (whole (pos 2)) ∷ [];
  heap = object.function 0 ∷ [];
  ending = ended;
  choices = [];
  turns = 0;
}
unfolding answer turns_within
binds_by_keyword = refl

--     def f(a, b=0):
--         return a
--     f(1, 2, 3)
abbrev gives_too_many_module : Module
gives_too_many_module = written (
    def "f" (parameter "a" None ∷ parameter "b" (Some (lit.Int false 0)) ∷ []) (
    · return (Some (name "a")) ∷ []) ∷
    expression (call (name "f") (int 1 ∷ int 2 ∷ int 3 ∷ [])) ∷ [])

gives_too_many : answered gives_too_many_module [] 1 (0 ∷ 0 ∷ []) ([]) ≡ record {
  events = event.fault 3 event.wrong_arg_count event.on_another None ∷ [];
  heap = object.function 0 ∷ error (codes "TypeError") ∷ [];
  ending = raised_out (ref 1);
  choices = [];
  turns = 0;
}
unfolding answer turns_within
gives_too_many = refl

--     def f(a, b=0):
--         return a
--     f()
abbrev gives_too_few_module : Module
gives_too_few_module = written (
    def "f" (parameter "a" None ∷ parameter "b" (Some (lit.Int false 0)) ∷ []) (
    · return (Some (name "a")) ∷ []) ∷
    expression (call (name "f") []) ∷ [])

gives_too_few : answered gives_too_few_module [] 1 (0 ∷ 0 ∷ []) ([]) ≡ record {
  events = event.fault 3 event.missing_parameter event.on_another None ∷ [];
  heap = object.function 0 ∷ error (codes "TypeError") ∷ [];
  ending = raised_out (ref 1);
  choices = [];
  turns = 0;
}
unfolding answer turns_within
gives_too_few = refl

--     def f(a, b=0):
--         return a
--     f(1, c=2)
abbrev gives_an_unknown_keyword_module : Module
gives_an_unknown_keyword_module = written (
    def "f" (parameter "a" None ∷ parameter "b" (Some (lit.Int false 0)) ∷ []) (
    · return (Some (name "a")) ∷ []) ∷
    expression (call_by (name "f") (int 1 ∷ []) (("c", int 2) ∷ [])) ∷ [])

gives_an_unknown_keyword : answered gives_an_unknown_keyword_module [] 1 (0 ∷ 0 ∷ []) ([]) ≡ record {
  events = event.fault 3 event.wrong_keyword_args event.on_another None ∷ [];
  heap = object.function 0 ∷ error (codes "TypeError") ∷ [];
  ending = raised_out (ref 1);
  choices = [];
  turns = 0;
}
unfolding answer turns_within
gives_an_unknown_keyword = refl

--     def f(a, b=0):
--         return a
--     f(1, a=2)
abbrev gives_a_parameter_twice_module : Module
gives_a_parameter_twice_module = written (
    def "f" (parameter "a" None ∷ parameter "b" (Some (lit.Int false 0)) ∷ []) (
    · return (Some (name "a")) ∷ []) ∷
    expression (call_by (name "f") (int 1 ∷ []) (("a", int 2) ∷ [])) ∷ [])

gives_a_parameter_twice : answered gives_a_parameter_twice_module [] 1 (0 ∷ 0 ∷ []) ([]) ≡ record {
  events = event.fault 3 event.duplicate_keyword event.on_another None ∷ [];
  heap = object.function 0 ∷ error (codes "TypeError") ∷ [];
  ending = raised_out (ref 1);
  choices = [];
  turns = 0;
}
unfolding answer turns_within
gives_a_parameter_twice = refl

--     x = 1
--     x()
abbrev calls_a_number_module : Module
calls_a_number_module = written (
    set "x" (int 1) ∷
    expression (call (name "x") []) ∷ [])

calls_a_number : answered calls_a_number_module [] 1 (0 ∷ 0 ∷ []) ([]) ≡ record {
  events = event.fault 2 event.not_callable event.on_another None ∷ [];
  heap = error (codes "TypeError") ∷ [];
  ending = raised_out (ref 0);
  choices = [];
  turns = 0;
}
unfolding answer turns_within
calls_a_number = refl

--     x = 1
--     x()
abbrev begins_a_turn_before_the_fault_module : Module
begins_a_turn_before_the_fault_module = written (
    set "x" (int 1) ∷
    expression (call (name "x") []) ∷ [])

begins_a_turn_before_the_fault : answered begins_a_turn_before_the_fault_module [] 0 (0 ∷ 0 ∷ []) ([]) ≡ record {
  events = [];
  heap = [];
  ending = ran_out_of_turns;
  choices = 0 ∷ [];
  turns = 0;
}
unfolding answer turns_within
begins_a_turn_before_the_fault = refl

--     def f(n):
--         return f(n)
--     f(1)
abbrev recurs_too_deep_module : Module
recurs_too_deep_module = written (
    def "f" (parameter "n" None ∷ []) (
    · return (Some (call (name "f") (name "n" ∷ []))) ∷ []) ∷
    expression (call (name "f") (int 1 ∷ [])) ∷ [])

recurs_too_deep : answered recurs_too_deep_module [] 3 (0 ∷ 0 ∷ 0 ∷ 0 ∷ 0 ∷ 0 ∷ 0 ∷ 0 ∷ 0 ∷ 0 ∷ 0 ∷ 0 ∷ 0 ∷ 0 ∷ 0 ∷ 0 ∷ 0 ∷ 0 ∷ 0 ∷ 0 ∷ []) ([]) ≡ record {
  events = [];
  heap = object.function 0 ∷ [];
  ending = ran_out_of_turns;
  choices = 0 ∷ 0 ∷ 0 ∷ 0 ∷ 0 ∷ 0 ∷ 0 ∷ 0 ∷ 0 ∷ 0 ∷ [];
  turns = 0;
}
unfolding answer turns_within
recurs_too_deep = refl

--     def f(n):
--         return n + 1
--     f(1)
abbrev runs_out_of_choices_in_a_call_module : Module
runs_out_of_choices_in_a_call_module = written (
    def "f" (parameter "n" None ∷ []) (
    · return (Some (binary (name "n") bin.Add (int 1))) ∷ []) ∷
    expression (call (name "f") (int 1 ∷ [])) ∷ [])

runs_out_of_choices_in_a_call : answered runs_out_of_choices_in_a_call_module [] 1 (0 ∷ 0 ∷ 0 ∷ []) ([]) ≡ record {
  events = [];
  heap = object.function 0 ∷ [];
  ending = ran_out_of_choices;
  choices = [];
  turns = 0;
}
unfolding answer turns_within
runs_out_of_choices_in_a_call = refl

--     def f(n):
--         if n:
--             return f(0)
--         return n
--     x = f(1)
abbrev recurs_module : Module
recurs_module = written (
    def "f" (parameter "n" None ∷ []) (
    · when (name "n") (
    ·· return (Some (call (name "f") (int 0 ∷ []))) ∷ []) end_if ∷
    · return (Some (name "n")) ∷ []) ∷
    set "x" (call (name "f") (int 1 ∷ [])) ∷ [])

recurs : answered recurs_module [] 2 (0 ∷ 0 ∷ 0 ∷ 0 ∷ 0 ∷ 0 ∷ 0 ∷ []) ([]) ≡ record {
  events = event.returned 0 (whole (pos 0)) ∷ event.returned 0 (whole (pos 0)) ∷ event.held 2 (whole (pos 0)) ∷ [];
  heap = object.function 0 ∷ [];
  ending = ended;
  choices = [];
  turns = 0;
}
unfolding answer turns_within
recurs = refl

-- raised in a called function, and caught two calls up
--     def f():
--         raise ValueError
--     def g():
--         f()
--     try:
--         g()
--     except ValueError:
--         x = 1
abbrev raises_through_two_calls_module : Module
raises_through_two_calls_module = written (
    def "f" [] (
    · raise (Some (name "ValueError")) None ∷ []) ∷
    def "g" [] (
    · expression (call (name "f") []) ∷ []) ∷
    try (
    · expression (call (name "g") []) ∷ []) (
    except (Some (name "ValueError")) None (
    · set "x" (int 1) ∷ []) end_try) ∷ [])

raises_through_two_calls : answered raises_through_two_calls_module [] 3 (0 ∷ 0 ∷ 0 ∷ 0 ∷ 0 ∷ 0 ∷ 0 ∷ 0 ∷ 0 ∷ []) ([]) ≡ record {
  events = event.held 3 (whole (pos 1)) ∷ [];
  heap = object.function 0 ∷ object.function 1 ∷ native (codes "ValueError") ∷ error (codes "ValueError") ∷ native (codes "ValueError") ∷ [];
  ending = ended;
  choices = [];
  turns = 0;
}
unfolding answer turns_within
raises_through_two_calls = refl

--     x = 1
--     def f(a):
--         x = a
--         return x
--     y = f(2)
--     z = x
abbrev has_locals_of_its_own_module : Module
has_locals_of_its_own_module = written (
    set "x" (int 1) ∷
    def "f" (parameter "a" None ∷ []) (
    · set "x" (name "a") ∷
    · return (Some (name "x")) ∷ []) ∷
    set "y" (call (name "f") (int 2 ∷ [])) ∷
    set "z" (name "x") ∷ [])

has_locals_of_its_own : answered has_locals_of_its_own_module [] 1 (0 ∷ 0 ∷ 0 ∷ 0 ∷ 0 ∷ []) ([]) ≡ record {
  events = event.returned 0 (whole (pos 2)) ∷ event.held 0 (whole (pos 1)) ∷ event.held 3 (whole (pos 2)) ∷ event.held 4 (whole (pos 1)) ∷ [];
  heap = object.function 0 ∷ [];
  ending = ended;
  choices = [];
  turns = 0;
}
unfolding answer turns_within
has_locals_of_its_own = refl

--     x = 1
--     def f():
--         return x
--     x = 2
--     y = f()
abbrev reads_a_global_module : Module
reads_a_global_module = written (
    set "x" (int 1) ∷
    def "f" [] (
    · return (Some (name "x")) ∷ []) ∷
    set "x" (int 2) ∷
    set "y" (call (name "f") []) ∷ [])

reads_a_global : answered reads_a_global_module [] 1 (0 ∷ 0 ∷ 0 ∷ []) ([]) ≡ record {
  events = event.returned 0 (whole (pos 2)) ∷ event.held 0 (whole (pos 2)) ∷ event.held 2 (whole (pos 2)) ∷ [];
  heap = object.function 0 ∷ [];
  ending = ended;
  choices = [];
  turns = 0;
}
unfolding answer turns_within
reads_a_global = refl

-- a name that the body binds anywhere is local to all of it
--     x = 1
--     def f():
--         y = x
--         x = 2
--     f()
abbrev reads_a_local_without_value_module : Module
reads_a_local_without_value_module = written (
    set "x" (int 1) ∷
    def "f" [] (
    · set "y" (name "x") ∷
    · set "x" (int 2) ∷ []) ∷
    expression (call (name "f") []) ∷ [])

reads_a_local_without_value : answered reads_a_local_without_value_module [] 1 (0 ∷ 0 ∷ 0 ∷ []) ([]) ≡ record {
  events = [];
  heap = object.function 0 ∷ error (codes "UnboundLocalError") ∷ [];
  ending = raised_out (ref 1);
  choices = [];
  turns = 0;
}
unfolding answer turns_within
reads_a_local_without_value = refl

--     def f():
--         try:
--             raise KeyError
--         except KeyError as e:
--             return 1
--     x = f()
abbrev keeps_a_name_of_a_clause_local_module : Module
keeps_a_name_of_a_clause_local_module = written (
    def "f" [] (
    · try (
    ·· raise (Some (name "KeyError")) None ∷ []) (
    · except (Some (name "KeyError")) (Some "e") (
    ·· return (Some (int 1)) ∷ []) end_try) ∷ []) ∷
    set "x" (call (name "f") []) ∷ [])

keeps_a_name_of_a_clause_local : answered keeps_a_name_of_a_clause_local_module [] 2 (0 ∷ 0 ∷ 0 ∷ 0 ∷ 0 ∷ 0 ∷ 0 ∷ []) ([]) ≡ record {
  events = event.returned 0 (whole (pos 1)) ∷ event.held 3 (whole (pos 1)) ∷ [];
  heap = object.function 0 ∷ native (codes "KeyError") ∷ error (codes "KeyError") ∷ native (codes "KeyError") ∷ [];
  ending = ended;
  choices = [];
  turns = 0;
}
unfolding answer turns_within
keeps_a_name_of_a_clause_local = refl

--     def f(xs):
--         for x in xs:
--             return x
--     y = f((7,))
abbrev returns_out_of_a_loop_module : Module
returns_out_of_a_loop_module = written (
    def "f" (parameter "xs" None ∷ []) (
    · for (name "x") (name "xs") (
    ·· return (Some (name "x")) ∷ []) ∷ []) ∷
    set "y" (call (name "f") (tuple (int 7 ∷ []) ∷ [])) ∷ [])

returns_out_of_a_loop : answered returns_out_of_a_loop_module [] 2 (0 ∷ 0 ∷ 0 ∷ 0 ∷ 0 ∷ 0 ∷ []) ([]) ≡ record {
  events = event.returned 0 (whole (pos 7)) ∷ event.held 3 (whole (pos 7)) ∷ [];
  heap = object.function 0 ∷ object.tuple 6 object.places ((whole (pos 7)) ∷ []) ∷ [];
  ending = ended;
  choices = [];
  turns = 0;
}
unfolding answer turns_within
returns_out_of_a_loop = refl

--     x = 1
--     y = x.foo
abbrev reads_an_attribute_of_a_number_module : Module
reads_an_attribute_of_a_number_module = written (
    set "x" (int 1) ∷
    set "y" (attr (name "x") "foo") ∷ [])

reads_an_attribute_of_a_number : answered reads_an_attribute_of_a_number_module [] 0 (0 ∷ 0 ∷ []) ([]) ≡ record {
  events = event.fault 2 event.attribute_error event.on_another (Some 2) ∷ [];
  heap = error (codes "AttributeError") ∷ [];
  ending = raised_out (ref 0);
  choices = [];
  turns = 0;
}
unfolding answer turns_within
reads_an_attribute_of_a_number = refl

--     def f():
--         pass
--     f.a = 1
abbrev stores_an_attribute_of_a_function_module : Module
stores_an_attribute_of_a_function_module = written (
    def "f" [] (
    · pass ∷ []) ∷
    assign (attr (name "f") "a" ∷ []) (int 1) ∷ [])

stores_an_attribute_of_a_function : answered stores_an_attribute_of_a_function_module [] 0 (0 ∷ 0 ∷ []) ([]) ≡ record {
  events = event.fault 3 event.attribute_error event.on_another (Some 1) ∷ [];
  heap = object.function 0 ∷ error (codes "AttributeError") ∷ [];
  ending = raised_out (ref 1);
  choices = [];
  turns = 0;
}
unfolding answer turns_within
stores_an_attribute_of_a_function = refl

-- a store into what is outside is forgotten
--     nope.a = 1
abbrev stores_an_attribute_of_anything_module : Module
stores_an_attribute_of_anything_module = written (
    assign (attr (name "nope") "a" ∷ []) (int 1) ∷ [])

stores_an_attribute_of_anything : answered stores_an_attribute_of_anything_module [] 0 (0 ∷ 0 ∷ []) ([]) ≡ record {
  events = [];
  heap = anything ∷ [];
  ending = ended;
  choices = [];
  turns = 0;
}
unfolding answer turns_within
stores_an_attribute_of_anything = refl

-- the class call and its `__init__` are one turn
--     class C:
--         def __init__(self, v):
--             self.v = v
--     c = C(1)
--     p = c.v
abbrev makes_an_instance_module : Module
makes_an_instance_module = written (
    class "C" None (
    · method_def "__init__" (parameter "self" None ∷ parameter "v" None ∷ []) (
    ·· assign (attr (name "self") "v" ∷ []) (name "v") ∷ []) ∷ []) ∷
    set "c" (call (name "C") (int 1 ∷ [])) ∷
    set "p" (attr (name "c") "v") ∷ [])

makes_an_instance : answered makes_an_instance_module [] 1 (0 ∷ 0 ∷ 0 ∷ 0 ∷ 0 ∷ 0 ∷ 0 ∷ []) ([]) ≡ record {
  events = event.returned 0 none ∷ event.held 4 (ref 2) ∷ event.held 5 (whole (pos 1)) ∷ [];
  heap = object.class 0 ((1, (ref 1)) ∷ []) ∷ object.function 0 ∷ object.instance 0 ((3, (whole (pos 1))) ∷ []) ∷ [];
  ending = ended;
  choices = [];
  turns = 0;
}
unfolding answer turns_within
makes_an_instance = refl

--     class C:
--         limit = 5
--     x = C.limit
--     c = C()
--     y = c.limit
abbrev reads_a_member_of_a_class_module : Module
reads_a_member_of_a_class_module = written (
    class "C" None (
    · value "limit" (int 5) ∷ []) ∷
    set "x" (attr (name "C") "limit") ∷
    set "c" (call (name "C") []) ∷
    set "y" (attr (name "c") "limit") ∷ [])

reads_a_member_of_a_class : answered reads_a_member_of_a_class_module [] 1 (0 ∷ 0 ∷ 0 ∷ 0 ∷ 0 ∷ 0 ∷ []) ([]) ≡ record {
  events = event.held 3 (ref 1) ∷ event.held 2 (whole (pos 5)) ∷ event.held 4 (whole (pos 5)) ∷ [];
  heap = object.class 0 ((1, (whole (pos 5))) ∷ []) ∷ object.instance 0 ([]) ∷ [];
  ending = ended;
  choices = [];
  turns = 0;
}
unfolding answer turns_within
reads_a_member_of_a_class = refl

--     class C:
--         limit = 5
--     y = C.none
abbrev reads_a_member_that_a_class_lacks_module : Module
reads_a_member_that_a_class_lacks_module = written (
    class "C" None (
    · value "limit" (int 5) ∷ []) ∷
    set "y" (attr (name "C") "none") ∷ [])

reads_a_member_that_a_class_lacks : answered reads_a_member_that_a_class_lacks_module [] 0 (0 ∷ 0 ∷ []) ([]) ≡ record {
  events = event.fault 3 event.attribute_error (event.on_class 0) (Some 3) ∷ [];
  heap = object.class 0 ((1, (whole (pos 5))) ∷ []) ∷ error (codes "AttributeError") ∷ [];
  ending = raised_out (ref 1);
  choices = [];
  turns = 0;
}
unfolding answer turns_within
reads_a_member_that_a_class_lacks = refl

--     class C:
--         pass
--     C(1)
abbrev gives_an_argument_to_a_plain_class_module : Module
gives_an_argument_to_a_plain_class_module = written (
    class "C" None (
    · pass_member ∷ []) ∷
    expression (call (name "C") (int 1 ∷ [])) ∷ [])

gives_an_argument_to_a_plain_class : answered gives_an_argument_to_a_plain_class_module [] 1 (0 ∷ 0 ∷ []) ([]) ≡ record {
  events = event.fault 3 event.wrong_arg_count event.on_another None ∷ [];
  heap = object.class 0 ([]) ∷ error (codes "TypeError") ∷ [];
  ending = raised_out (ref 1);
  choices = [];
  turns = 0;
}
unfolding answer turns_within
gives_an_argument_to_a_plain_class = refl

--     class C:
--         def put(self, n):
--             if n:
--                 self.v = n
--     c = C()
--     c.put(0)
--     x = c.v
abbrev has_an_attribute_on_one_path_module : Module
has_an_attribute_on_one_path_module = written (
    class "C" None (
    · method_def "put" (parameter "self" None ∷ parameter "n" None ∷ []) (
    ·· when (name "n") (
    ··· assign (attr (name "self") "v" ∷ []) (name "n") ∷ []) end_if ∷ []) ∷ []) ∷
    set "c" (call (name "C") []) ∷
    expression (call (attr (name "c") "put") (int 0 ∷ [])) ∷
    set "x" (attr (name "c") "v") ∷ [])

has_an_attribute_on_one_path : answered has_an_attribute_on_one_path_module [] 2 (0 ∷ 0 ∷ 0 ∷ 0 ∷ 0 ∷ 0 ∷ 0 ∷ 0 ∷ []) ([]) ≡ record {
  events = event.returned 0 none ∷ event.fault 7 event.attribute_error (event.on_instance 0) (Some 4) ∷ [];
  heap = object.class 0 ((1, (ref 1)) ∷ []) ∷ object.function 0 ∷ object.instance 0 ([]) ∷ object.bound (ref 2) 0 ∷ error (codes "AttributeError") ∷ [];
  ending = raised_out (ref 4);
  choices = [];
  turns = 0;
}
unfolding answer turns_within
has_an_attribute_on_one_path = refl

--     class C:
--         def get(self):
--             return self
--     c = C()
--     ms = [c.get]
--     x = ms[0]()
abbrev keeps_a_bound_method_in_a_list_module : Module
keeps_a_bound_method_in_a_list_module = written (
    class "C" None (
    · method_def "get" (parameter "self" None ∷ []) (
    ·· return (Some (name "self")) ∷ []) ∷ []) ∷
    set "c" (call (name "C") []) ∷
    set "ms" (list (attr (name "c") "get" ∷ [])) ∷
    set "x" (call (item (name "ms") (int 0)) []) ∷ [])

keeps_a_bound_method_in_a_list : answered keeps_a_bound_method_in_a_list_module [] 2 (0 ∷ 0 ∷ 0 ∷ 0 ∷ 0 ∷ 0 ∷ 0 ∷ 0 ∷ []) ([]) ≡ record {
  events = event.returned 0 (ref 2) ∷ event.held 3 (ref 2) ∷ event.held 4 (ref 4) ∷ event.held 5 (ref 2) ∷ [];
  heap = object.class 0 ((1, (ref 1)) ∷ []) ∷ object.function 0 ∷ object.instance 0 ([]) ∷ object.bound (ref 2) 0 ∷ object.list 7 ((ref 3) ∷ []) ∷ [];
  ending = ended;
  choices = [];
  turns = 0;
}
unfolding answer turns_within
keeps_a_bound_method_in_a_list = refl

-- only what is found in a class is bound
--     class C:
--         pass
--     def f(a):
--         return a
--     c = C()
--     c.f = f
--     x = c.f(3)
abbrev does_not_bind_a_function_of_an_instance_module : Module
does_not_bind_a_function_of_an_instance_module = written (
    class "C" None (
    · pass_member ∷ []) ∷
    def "f" (parameter "a" None ∷ []) (
    · return (Some (name "a")) ∷ []) ∷
    set "c" (call (name "C") []) ∷
    assign (attr (name "c") "f" ∷ []) (name "f") ∷
    set "x" (call (attr (name "c") "f") (int 3 ∷ [])) ∷ [])

does_not_bind_a_function_of_an_instance : answered does_not_bind_a_function_of_an_instance_module [] 2 (0 ∷ 0 ∷ 0 ∷ 0 ∷ 0 ∷ 0 ∷ 0 ∷ 0 ∷ 0 ∷ []) ([]) ≡ record {
  events = event.returned 0 (whole (pos 3)) ∷ event.held 3 (ref 2) ∷ event.held 4 (whole (pos 3)) ∷ [];
  heap = object.class 0 ([]) ∷ object.function 0 ∷ object.instance 0 ((1, (ref 1)) ∷ []) ∷ [];
  ending = ended;
  choices = [];
  turns = 0;
}
unfolding answer turns_within
does_not_bind_a_function_of_an_instance = refl

--     class C:
--         pass
--     c = C()
--     C.n = 4
--     x = c.n
abbrev stores_a_member_later_module : Module
stores_a_member_later_module = written (
    class "C" None (
    · pass_member ∷ []) ∷
    set "c" (call (name "C") []) ∷
    assign (attr (name "C") "n" ∷ []) (int 4) ∷
    set "x" (attr (name "c") "n") ∷ [])

stores_a_member_later : answered stores_a_member_later_module [] 1 (0 ∷ 0 ∷ 0 ∷ 0 ∷ 0 ∷ 0 ∷ []) ([]) ≡ record {
  events = event.held 1 (ref 1) ∷ event.held 3 (whole (pos 4)) ∷ [];
  heap = object.class 0 ((2, (whole (pos 4))) ∷ []) ∷ object.instance 0 ([]) ∷ [];
  ending = ended;
  choices = [];
  turns = 0;
}
unfolding answer turns_within
stores_a_member_later = refl

--     class B:
--         def __init__(self, x):
--             self.x = x
--     class C(B):
--         def __init__(self):
--             super().__init__(1)
--     c = C()
--     y = c.x
abbrev calls_the_init_above_module : Module
calls_the_init_above_module = written (
    class "B" None (
    · method_def "__init__" (parameter "self" None ∷ parameter "x" None ∷ []) (
    ·· assign (attr (name "self") "x" ∷ []) (name "x") ∷ []) ∷ []) ∷
    class "C" (Some "B") (
    · method_def "__init__" (parameter "self" None ∷ []) (
    ·· expression (call (super "__init__") (int 1 ∷ [])) ∷ []) ∷ []) ∷
    set "c" (call (name "C") []) ∷
    set "y" (attr (name "c") "x") ∷ [])

calls_the_init_above : answered calls_the_init_above_module [] 2 (0 ∷ 0 ∷ 0 ∷ 0 ∷ 0 ∷ 0 ∷ 0 ∷ 0 ∷ 0 ∷ []) ([]) ≡ record {
  events = event.returned 0 none ∷ event.returned 1 none ∷ event.held 6 (ref 4) ∷ event.held 7 (whole (pos 1)) ∷ [];
  heap = object.class 0 ((1, (ref 1)) ∷ []) ∷ object.function 0 ∷ object.class 1 ((1, (ref 3)) ∷ []) ∷ object.function 1
      ∷ object.instance 1 ((3, (whole (pos 1))) ∷ []) ∷ object.bound (ref 4) 0 ∷ [];
  ending = ended;
  choices = [];
  turns = 0;
}
unfolding answer turns_within
calls_the_init_above = refl

--     class E(Exception):
--         def __init__(self, n):
--             super().__init__(n)
--     e = E(1)
--     x = e.args
abbrev calls_the_init_of_no_class_above_module : Module
calls_the_init_of_no_class_above_module = written (
    class "E" (Some "Exception") (
    · method_def "__init__" (parameter "self" None ∷ parameter "n" None ∷ []) (
    ·· expression (call (super "__init__") (name "n" ∷ [])) ∷ []) ∷ []) ∷
    set "e" (call (name "E") (int 1 ∷ [])) ∷
    set "x" (attr (name "e") "args") ∷ [])

calls_the_init_of_no_class_above : answered calls_the_init_of_no_class_above_module [] 2 (0 ∷ 0 ∷ 0 ∷ 0 ∷ 0 ∷ 0 ∷ 0 ∷ []) ([]) ≡ record {
  events = event.returned 0 none ∷ event.held 6 (ref 2) ∷ event.held 7 (ref 4) ∷ [];
  heap = object.class 0 ((2, (ref 1)) ∷ []) ∷ object.function 0 ∷ object.instance 0 ([]) ∷ native (codes "base_init")
      ∷ object.outside (term.tuple_of term.any) ∷ [];
  ending = ended;
  choices = [];
  turns = 0;
}
unfolding answer turns_within
calls_the_init_of_no_class_above = refl

--     class B:
--         pass
--     class C(B):
--         def f(self):
--             return super().g
--     C().f()
abbrev looks_above_for_what_is_not_there_module : Module
looks_above_for_what_is_not_there_module = written (
    class "B" None (
    · pass_member ∷ []) ∷
    class "C" (Some "B") (
    · method_def "f" (parameter "self" None ∷ []) (
    ·· return (Some (super "g")) ∷ []) ∷ []) ∷
    expression (call (attr (call (name "C") []) "f") []) ∷ [])

looks_above_for_what_is_not_there : answered looks_above_for_what_is_not_there_module [] 2 (0 ∷ 0 ∷ 0 ∷ 0 ∷ 0 ∷ []) ([]) ≡ record {
  events = event.fault 5 event.attribute_error (event.on_instance 1) (Some 5) ∷ [];
  heap = object.class 0 ([]) ∷ object.class 1 ((2, (ref 2)) ∷ []) ∷ object.function 0 ∷ object.instance 1 ([]) ∷ object.bound (ref 3) 0
      ∷ error (codes "AttributeError") ∷ [];
  ending = raised_out (ref 5);
  choices = [];
  turns = 0;
}
unfolding answer turns_within
looks_above_for_what_is_not_there = refl

--     class B:
--         def get(self):
--             return 1
--     class C(B):
--         pass
--     x = C().get()
abbrev inherits_module : Module
inherits_module = written (
    class "B" None (
    · method_def "get" (parameter "self" None ∷ []) (
    ·· return (Some (int 1)) ∷ []) ∷ []) ∷
    class "C" (Some "B") (
    · pass_member ∷ []) ∷
    set "x" (call (attr (call (name "C") []) "get") []) ∷ [])

inherits : answered inherits_module [] 2 (0 ∷ 0 ∷ 0 ∷ 0 ∷ []) ([]) ≡ record {
  events = event.returned 0 (whole (pos 1)) ∷ event.held 4 (whole (pos 1)) ∷ [];
  heap = object.class 0 ((1, (ref 1)) ∷ []) ∷ object.function 0 ∷ object.class 1 ([]) ∷ object.instance 1 ([]) ∷ object.bound (ref 3) 0 ∷ [];
  ending = ended;
  choices = [];
  turns = 0;
}
unfolding answer turns_within
inherits = refl

-- an exception class takes any arguments by position
--     class E(ValueError):
--         pass
--     try:
--         raise E("a", 1)
--     except ValueError as e:
--         x = e
abbrev raises_an_exception_of_the_module_module : Module
raises_an_exception_of_the_module_module = written (
    class "E" (Some "ValueError") (
    · pass_member ∷ []) ∷
    try (
    · raise (Some (call (name "E") (str "a" ∷ int 1 ∷ []))) None ∷ []) (
    except (Some (name "ValueError")) (Some "e") (
    · set "x" (name "e") ∷ []) end_try) ∷ [])

raises_an_exception_of_the_module : answered raises_an_exception_of_the_module_module [] 1 (0 ∷ 0 ∷ 0 ∷ 0 ∷ 0 ∷ 0 ∷ 0 ∷ []) ([]) ≡ record {
  events = event.held 3 (ref 1) ∷ [];
  heap = object.class 0 ([]) ∷ object.instance 0 ([]) ∷ native (codes "ValueError") ∷ [];
  ending = ended;
  choices = [];
  turns = 0;
}
unfolding answer turns_within
raises_an_exception_of_the_module = refl

--     class C:
--         a = 1
--         b = nope
--         def f(self):
--             pass
abbrev fills_a_class_as_values_come_module : Module
fills_a_class_as_values_come_module = written (
    class "C" None (
    · value "a" (int 1) ∷
    · value "b" (name "nope") ∷
    · method_def "f" (parameter "self" None ∷ []) (
    ·· pass ∷ []) ∷ []) ∷ [])

fills_a_class_as_values_come : answered fills_a_class_as_values_come_module [] 0 (0 ∷ []) ([]) ≡ record {
  events = [];
  heap = object.class 0 ((1, (whole (pos 1))) ∷ (2, (ref 1)) ∷ (4, (ref 2)) ∷ []) ∷ anything ∷ object.function 0 ∷ [];
  ending = ended;
  choices = [];
  turns = 0;
}
unfolding answer turns_within
fills_a_class_as_values_come = refl
