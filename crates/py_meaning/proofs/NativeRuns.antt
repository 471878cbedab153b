-- Runs of builtin functions, classes and methods, computed.
use Rattle.std.specs.Prelude.{◌≡◌, pos, true, false, [], ◌∷◌, Some, None, refl, codes}
use Rattle.py_tree.specs.declared.literal.Literal.TheVariants as lit
use Rattle.type_terms.specs.Terms as term
use Rattle.py_tree.specs.Tree.{Module}
use Rattle.py_meaning.specs.Values.{none, truth, whole, float, text, octets, ref}
use Rattle.py_meaning.specs.Objects as object
use Rattle.py_meaning.specs.Events as event
use Rattle.py_meaning.specs.Runs.{turns_within, answer, ended, raised_out}
use Rattle.builtin_stubs.specs.declared.basic.Basic.TheVariants as kind
use Rattle.py_meaning.proofs.Written.{written, ·◌, name, literal, int, str, bytes, attr, item, call, call_by}
use Rattle.py_meaning.proofs.Written.{tuple, list, dict, pass, assign, set, expression, for, pass_member, class}
use Rattle.py_meaning.proofs.Samples.{answered, native, method, error, anything}

-- any whole number
--     x = len([1])
abbrev takes_a_length_module : Module
takes_a_length_module = written (
    set "x" (call (name "len") (list (int 1 ∷ []) ∷ [])) ∷ [])

takes_a_length : answered takes_a_length_module [] 1 (0 ∷ 0 ∷ 5 ∷ []) ([]) ≡ record {
  events = event.held 0 (whole (pos 5)) ∷ [];
  heap = native (codes "len") ∷ object.list 3 ((whole (pos 1)) ∷ []) ∷ [];
  ending = ended;
  choices = [];
  turns = 0;
}
unfolding answer turns_within
takes_a_length = refl

--     x = print(1, end="")
abbrev prints_module : Module
prints_module = written (
    set "x" (call_by (name "print") (int 1 ∷ []) (("end", str "") ∷ [])) ∷ [])

prints : answered prints_module [] 1 (0 ∷ 0 ∷ []) ([]) ≡ record {
  events = event.held 0 none ∷ [];
  heap = native (codes "print") ∷ [];
  ending = ended;
  choices = [];
  turns = 0;
}
unfolding answer turns_within
prints = refl

-- a choice, whatever the argument is
--     x = bool(1)
abbrev makes_a_truth_value_module : Module
makes_a_truth_value_module = written (
    set "x" (call (name "bool") (int 1 ∷ [])) ∷ [])

makes_a_truth_value : answered makes_a_truth_value_module [] 1 (0 ∷ 0 ∷ 1 ∷ []) ([]) ≡ record {
  events = event.held 0 (truth false) ∷ [];
  heap = native (codes "bool") ∷ [];
  ending = ended;
  choices = [];
  turns = 0;
}
unfolding answer turns_within
makes_a_truth_value = refl

--     x = int("7")
--     y = float(1)
--     z = str(1)
abbrev makes_numbers_and_texts_module : Module
makes_numbers_and_texts_module = written (
    set "x" (call (name "int") (str "7" ∷ [])) ∷
    set "y" (call (name "float") (int 1 ∷ [])) ∷
    set "z" (call (name "str") (int 1 ∷ [])) ∷ [])

makes_numbers_and_texts : answered makes_numbers_and_texts_module [] 3 (0 ∷ 0 ∷ 7 ∷ 0 ∷ 0 ∷ 0 ∷ 0 ∷ 2 ∷ []) ([]) ≡ record {
  events = event.held 0 (whole (pos 7)) ∷ event.held 2 float ∷ event.held 4 (text true) ∷ [];
  heap = native (codes "int") ∷ native (codes "float") ∷ native (codes "str") ∷ [];
  ending = ended;
  choices = [];
  turns = 0;
}
unfolding answer turns_within
makes_numbers_and_texts = refl

--     len()
abbrev takes_no_length_of_nothing_module : Module
takes_no_length_of_nothing_module = written (
    expression (call (name "len") []) ∷ [])

takes_no_length_of_nothing : answered takes_no_length_of_nothing_module [] 1 (0 ∷ 0 ∷ []) ([]) ≡ record {
  events = event.fault 1 event.missing_parameter event.on_another None ∷ [];
  heap = native (codes "len") ∷ error (codes "TypeError") ∷ [];
  ending = raised_out (ref 1);
  choices = [];
  turns = 0;
}
unfolding answer turns_within
takes_no_length_of_nothing = refl

--     len(1, 2)
abbrev takes_no_length_of_two_module : Module
takes_no_length_of_two_module = written (
    expression (call (name "len") (int 1 ∷ int 2 ∷ [])) ∷ [])

takes_no_length_of_two : answered takes_no_length_of_two_module [] 1 (0 ∷ 0 ∷ []) ([]) ≡ record {
  events = event.fault 1 event.wrong_arg_count event.on_another None ∷ [];
  heap = native (codes "len") ∷ error (codes "TypeError") ∷ [];
  ending = raised_out (ref 1);
  choices = [];
  turns = 0;
}
unfolding answer turns_within
takes_no_length_of_two = refl

--     len(x=1)
abbrev takes_no_length_by_keyword_module : Module
takes_no_length_by_keyword_module = written (
    expression (call_by (name "len") [] (("x", int 1) ∷ [])) ∷ [])

takes_no_length_by_keyword : answered takes_no_length_by_keyword_module [] 1 (0 ∷ 0 ∷ []) ([]) ≡ record {
  events = event.fault 1 event.wrong_keyword_args event.on_another None ∷ [];
  heap = native (codes "len") ∷ error (codes "TypeError") ∷ [];
  ending = raised_out (ref 1);
  choices = [];
  turns = 0;
}
unfolding answer turns_within
takes_no_length_by_keyword = refl

-- its items by choice, until an odd one
--     x = sorted("ab", reverse=1)
abbrev sorts_a_text_module : Module
sorts_a_text_module = written (
    set "x" (call_by (name "sorted") (str "ab" ∷ []) (("reverse", int 1) ∷ [])) ∷ [])

sorts_a_text : answered sorts_a_text_module [] 1 (0 ∷ 0 ∷ 0 ∷ 1 ∷ 1 ∷ []) ([]) ≡ record {
  events = event.held 0 (ref 1) ∷ [];
  heap = native (codes "sorted") ∷ object.list 4 ((text false) ∷ []) ∷ [];
  ending = ended;
  choices = [];
  turns = 0;
}
unfolding answer turns_within
sorts_a_text = refl

--     x = list({"a": 1, 2: 3})
--     y = list()
abbrev makes_a_list_of_keys_module : Module
makes_a_list_of_keys_module = written (
    set "x" (call (name "list") (dict ((str "a", int 1) ∷ (int 2, int 3) ∷ []) ∷ [])) ∷
    set "y" (call (name "list") []) ∷ [])

makes_a_list_of_keys : answered makes_a_list_of_keys_module [] 2 (0 ∷ 0 ∷ 0 ∷ 0 ∷ []) ([]) ≡ record {
  events = event.held 0 (ref 2) ∷ event.held 2 (ref 4) ∷ [];
  heap = native (codes "list") ∷ object.dict 6 (((text false), (whole (pos 1))) ∷ ((whole (pos 2)), (whole (pos 3))) ∷ [])
      ∷ object.list 7 ((text false) ∷ (whole (pos 2)) ∷ []) ∷ native (codes "list") ∷ object.list 10 ([]) ∷ [];
  ending = ended;
  choices = [];
  turns = 0;
}
unfolding answer turns_within
makes_a_list_of_keys = refl

--     x = tuple([1, 2])
abbrev makes_a_tuple_module : Module
makes_a_tuple_module = written (
    set "x" (call (name "tuple") (list (int 1 ∷ int 2 ∷ []) ∷ [])) ∷ [])

makes_a_tuple : answered makes_a_tuple_module [] 1 (0 ∷ 0 ∷ []) ([]) ≡ record {
  events = event.held 0 (ref 2) ∷ [];
  heap = native (codes "tuple") ∷ object.list 4 ((whole (pos 1)) ∷ (whole (pos 2)) ∷ [])
      ∷ object.tuple 5 object.parts ((whole (pos 1)) ∷ (whole (pos 2)) ∷ []) ∷ [];
  ending = ended;
  choices = [];
  turns = 0;
}
unfolding answer turns_within
makes_a_tuple = refl

-- what can't be iterated gives a native no item
--     x = list(3)
abbrev makes_a_list_of_a_number_module : Module
makes_a_list_of_a_number_module = written (
    set "x" (call (name "list") (int 3 ∷ [])) ∷ [])

makes_a_list_of_a_number : answered makes_a_list_of_a_number_module [] 1 (0 ∷ 0 ∷ []) ([]) ≡ record {
  events = event.held 0 (ref 1) ∷ [];
  heap = native (codes "list") ∷ object.list 3 ([]) ∷ [];
  ending = ended;
  choices = [];
  turns = 0;
}
unfolding answer turns_within
makes_a_list_of_a_number = refl

--     x = dict(a=1)
abbrev makes_a_dict_of_keywords_module : Module
makes_a_dict_of_keywords_module = written (
    set "x" (call_by (name "dict") [] (("a", int 1) ∷ [])) ∷ [])

makes_a_dict_of_keywords : answered makes_a_dict_of_keywords_module [] 1 (0 ∷ 0 ∷ []) ([]) ≡ record {
  events = event.held 0 (ref 1) ∷ [];
  heap = native (codes "dict") ∷ object.dict 3 (((text false), (whole (pos 1))) ∷ []) ∷ [];
  ending = ended;
  choices = [];
  turns = 0;
}
unfolding answer turns_within
makes_a_dict_of_keywords = refl

--     x = dict([(1, 2)], b=3)
abbrev makes_a_dict_of_pairs_module : Module
makes_a_dict_of_pairs_module = written (
    set "x" (call_by (name "dict") (list (tuple (int 1 ∷ int 2 ∷ []) ∷ []) ∷ []) (("b", int 3) ∷ [])) ∷ [])

makes_a_dict_of_pairs : answered makes_a_dict_of_pairs_module [] 1 (0 ∷ 0 ∷ []) ([]) ≡ record {
  events = event.held 0 (ref 3) ∷ [];
  heap = native (codes "dict") ∷ object.tuple 4 object.places ((whole (pos 1)) ∷ (whole (pos 2)) ∷ []) ∷ object.list 5 ((ref 1) ∷ [])
      ∷ object.dict 7 (((whole (pos 1)), (whole (pos 2))) ∷ ((text false), (whole (pos 3))) ∷ []) ∷ [];
  ending = ended;
  choices = [];
  turns = 0;
}
unfolding answer turns_within
makes_a_dict_of_pairs = refl

--     x = dict({1: 2})
abbrev makes_a_dict_of_a_dict_module : Module
makes_a_dict_of_a_dict_module = written (
    set "x" (call (name "dict") (dict ((int 1, int 2) ∷ []) ∷ [])) ∷ [])

makes_a_dict_of_a_dict : answered makes_a_dict_of_a_dict_module [] 1 (0 ∷ 0 ∷ []) ([]) ≡ record {
  events = event.held 0 (ref 2) ∷ [];
  heap = native (codes "dict") ∷ object.dict 4 (((whole (pos 1)), (whole (pos 2))) ∷ []) ∷ object.dict 5 (((whole (pos 1)), (whole (pos 2))) ∷ []) ∷ [];
  ending = ended;
  choices = [];
  turns = 0;
}
unfolding answer turns_within
makes_a_dict_of_a_dict = refl

--     x = dict([(1, 2, 3)])
abbrev makes_no_dict_of_threes_module : Module
makes_no_dict_of_threes_module = written (
    set "x" (call (name "dict") (list (tuple (int 1 ∷ int 2 ∷ int 3 ∷ []) ∷ []) ∷ [])) ∷ [])

makes_no_dict_of_threes : answered makes_no_dict_of_threes_module [] 1 (0 ∷ 0 ∷ []) ([]) ≡ record {
  events = [];
  heap = native (codes "dict") ∷ object.tuple 5 object.places ((whole (pos 1)) ∷ (whole (pos 2)) ∷ (whole (pos 3)) ∷ [])
      ∷ object.list 6 ((ref 1) ∷ []) ∷ object.dict 7 ([]) ∷ error (codes "ValueError") ∷ [];
  ending = raised_out (ref 4);
  choices = [];
  turns = 0;
}
unfolding answer turns_within
makes_no_dict_of_threes = refl

-- a TypeError that is no event
--     x = dict([3])
abbrev makes_no_dict_of_numbers_module : Module
makes_no_dict_of_numbers_module = written (
    set "x" (call (name "dict") (list (int 3 ∷ []) ∷ [])) ∷ [])

makes_no_dict_of_numbers : answered makes_no_dict_of_numbers_module [] 1 (0 ∷ 0 ∷ []) ([]) ≡ record {
  events = [];
  heap = native (codes "dict") ∷ object.list 3 ((whole (pos 3)) ∷ []) ∷ object.dict 4 ([]) ∷ error (codes "TypeError") ∷ [];
  ending = raised_out (ref 3);
  choices = [];
  turns = 0;
}
unfolding answer turns_within
makes_no_dict_of_numbers = refl

--     x = dict([nope])
abbrev makes_a_dict_of_what_is_outside_module : Module
makes_a_dict_of_what_is_outside_module = written (
    set "x" (call (name "dict") (list (name "nope" ∷ []) ∷ [])) ∷ [])

makes_a_dict_of_what_is_outside : answered makes_a_dict_of_what_is_outside_module [] 1 (0 ∷ 0 ∷ 0 ∷ []) ([]) ≡ record {
  events = event.held 0 (ref 3) ∷ [];
  heap = native (codes "dict") ∷ anything ∷ object.list 3 ((ref 1) ∷ []) ∷ object.dict 4 (((ref 4), (ref 5)) ∷ []) ∷ anything ∷ anything ∷ [];
  ending = ended;
  choices = [];
  turns = 0;
}
unfolding answer turns_within
makes_a_dict_of_what_is_outside = refl

--     x = object()
--     y = range(1, 2)
abbrev makes_objects_module : Module
makes_objects_module = written (
    set "x" (call (name "object") []) ∷
    set "y" (call (name "range") (int 1 ∷ int 2 ∷ [])) ∷ [])

makes_objects : answered makes_objects_module [] 2 (0 ∷ 0 ∷ 0 ∷ 0 ∷ []) ([]) ≡ record {
  events = event.held 0 (ref 1) ∷ event.held 2 (ref 3) ∷ [];
  heap = native (codes "object") ∷ object.outside (term.class (codes "object")) ∷ native (codes "range") ∷ object.outside (term.class (codes "range")) ∷ [];
  ending = ended;
  choices = [];
  turns = 0;
}
unfolding answer turns_within
makes_objects = refl

--     x = isinstance(True, int)
--     y = isinstance(1, bool)
abbrev tests_for_a_class_module : Module
tests_for_a_class_module = written (
    set "x" (call (name "isinstance") (literal lit.TrueValue ∷ name "int" ∷ [])) ∷
    set "y" (call (name "isinstance") (int 1 ∷ name "bool" ∷ [])) ∷ [])

tests_for_a_class : answered tests_for_a_class_module [] 2 (0 ∷ 0 ∷ 0 ∷ 0 ∷ 0 ∷ 0 ∷ []) ([]) ≡ record {
  events = event.held 0 (truth true) ∷ event.held 3 (truth false) ∷ [];
  heap = native (codes "isinstance") ∷ native (codes "int") ∷ native (codes "isinstance") ∷ native (codes "bool") ∷ [];
  ending = ended;
  choices = [];
  turns = 0;
}
unfolding answer turns_within
tests_for_a_class = refl

--     class B:
--         pass
--     class C(B):
--         pass
--     x = isinstance(C(), B)
--     y = isinstance(B(), C)
abbrev tests_an_instance_module : Module
tests_an_instance_module = written (
    class "B" None (
    · pass_member ∷ []) ∷
    class "C" (Some "B") (
    · pass_member ∷ []) ∷
    set "x" (call (name "isinstance") (call (name "C") [] ∷ name "B" ∷ [])) ∷
    set "y" (call (name "isinstance") (call (name "B") [] ∷ name "C" ∷ [])) ∷ [])

tests_an_instance : answered tests_an_instance_module [] 4 (0 ∷ 0 ∷ 0 ∷ 0 ∷ 0 ∷ 0 ∷ 0 ∷ 0 ∷ 0 ∷ 0 ∷ []) ([]) ≡ record {
  events = event.held 2 (truth true) ∷ event.held 4 (truth false) ∷ [];
  heap = object.class 0 ([]) ∷ object.class 1 ([]) ∷ native (codes "isinstance") ∷ object.instance 1 ([]) ∷ native (codes "isinstance")
      ∷ object.instance 0 ([]) ∷ [];
  ending = ended;
  choices = [];
  turns = 0;
}
unfolding answer turns_within
tests_an_instance = refl

--     x = isinstance(nope, int)
abbrev tests_what_is_outside_module : Module
tests_what_is_outside_module = written (
    set "x" (call (name "isinstance") (name "nope" ∷ name "int" ∷ [])) ∷ [])

tests_what_is_outside : answered tests_what_is_outside_module [] 1 (0 ∷ 0 ∷ 0 ∷ 0 ∷ 1 ∷ []) ([]) ≡ record {
  events = event.held 0 (truth false) ∷ [];
  heap = native (codes "isinstance") ∷ anything ∷ native (codes "int") ∷ [];
  ending = ended;
  choices = [];
  turns = 0;
}
unfolding answer turns_within
tests_what_is_outside = refl

--     x = min([1, 2])
--     y = max(3, 4)
abbrev finds_a_least_module : Module
finds_a_least_module = written (
    set "x" (call (name "min") (list (int 1 ∷ int 2 ∷ []) ∷ [])) ∷
    set "y" (call (name "max") (int 3 ∷ int 4 ∷ [])) ∷ [])

finds_a_least : answered finds_a_least_module [] 2 (0 ∷ 0 ∷ 1 ∷ 0 ∷ 0 ∷ 0 ∷ []) ([]) ≡ record {
  events = event.held 0 (whole (pos 2)) ∷ event.held 2 (whole (pos 3)) ∷ [];
  heap = native (codes "min") ∷ object.list 4 ((whole (pos 1)) ∷ (whole (pos 2)) ∷ []) ∷ native (codes "max") ∷ [];
  ending = ended;
  choices = [];
  turns = 0;
}
unfolding answer turns_within
finds_a_least = refl

-- a ValueError that is no event
--     x = min([])
abbrev finds_no_least_module : Module
finds_no_least_module = written (
    set "x" (call (name "min") (list [] ∷ [])) ∷ [])

finds_no_least : answered finds_no_least_module [] 1 (0 ∷ 0 ∷ []) ([]) ≡ record {
  events = [];
  heap = native (codes "min") ∷ object.list 2 ([]) ∷ error (codes "ValueError") ∷ [];
  ending = raised_out (ref 2);
  choices = [];
  turns = 0;
}
unfolding answer turns_within
finds_no_least = refl

-- the element, and then a number; the pair is made anew where the view was
--     for n, x in enumerate(["a"]):
--         pass
abbrev enumerates_module : Module
enumerates_module = written (
    for (tuple (name "n" ∷ name "x" ∷ [])) (call (name "enumerate") (list (str "a" ∷ []) ∷ [])) (
    · pass ∷ []) ∷ [])

enumerates : answered enumerates_module [] 2 (0 ∷ 0 ∷ 0 ∷ 0 ∷ 9 ∷ 0 ∷ 0 ∷ 0 ∷ 1 ∷ []) ([]) ≡ record {
  events = event.held 0 (whole (pos 9)) ∷ event.held 1 (text false) ∷ [];
  heap = native (codes "enumerate") ∷ object.list 5 ((text false) ∷ []) ∷ object.view 6 10 None ((ref 1) ∷ [])
      ∷ object.tuple 6 object.places ((whole (pos 9)) ∷ (text false) ∷ []) ∷ [];
  ending = ended;
  choices = [];
  turns = 0;
}
unfolding answer turns_within
enumerates = refl

--     x = list(zip([1], "a"))
abbrev zips_module : Module
zips_module = written (
    set "x" (call (name "list") (call (name "zip") (list (int 1 ∷ []) ∷ str "a" ∷ []) ∷ [])) ∷ [])

zips : answered zips_module [] 2 (0 ∷ 0 ∷ 0 ∷ 0 ∷ 0 ∷ 0 ∷ 3 ∷ 1 ∷ []) ([]) ≡ record {
  events = event.held 0 (ref 5) ∷ [];
  heap = native (codes "list") ∷ native (codes "zip") ∷ object.list 4 ((whole (pos 1)) ∷ [])
      ∷ object.view 6 11 None ((ref 2) ∷ (text false) ∷ []) ∷ object.tuple 6 object.places ((whole (pos 1)) ∷ (text false) ∷ [])
      ∷ object.list 7 ((ref 4) ∷ []) ∷ [];
  ending = ended;
  choices = [];
  turns = 0;
}
unfolding answer turns_within
zips = refl

--     for v in {"a": 1}.values():
--         pass
abbrev views_values_module : Module
views_values_module = written (
    for (name "v") (call (attr (dict ((str "a", int 1) ∷ [])) "values") []) (
    · pass ∷ []) ∷ [])

views_values : answered views_values_module [] 2 (0 ∷ 0 ∷ 0 ∷ 0 ∷ 0 ∷ 1 ∷ []) ([]) ≡ record {
  events = event.held 0 (whole (pos 1)) ∷ [];
  heap = object.dict 3 (((text false), (whole (pos 1))) ∷ []) ∷ method kind.Dict (codes "values") (ref 0) ∷ object.view 5 75 (Some (ref 0)) ([]) ∷ [];
  ending = ended;
  choices = [];
  turns = 0;
}
unfolding answer turns_within
views_values = refl

-- a view goes over what the dict holds by then
--     d = {}
--     v = d.items()
--     d["a"] = 1
--     x = list(v)
abbrev views_pairs_module : Module
views_pairs_module = written (
    set "d" (dict []) ∷
    set "v" (call (attr (name "d") "items") []) ∷
    assign (item (name "d") (str "a") ∷ []) (int 1) ∷
    set "x" (call (name "list") (name "v" ∷ [])) ∷ [])

views_pairs : answered views_pairs_module [] 2 (0 ∷ 0 ∷ 0 ∷ 0 ∷ 0 ∷ 0 ∷ 0 ∷ 0 ∷ 0 ∷ 1 ∷ []) ([]) ≡ record {
  events = event.held 0 (ref 0) ∷ event.held 1 (ref 2) ∷ event.held 3 (ref 5) ∷ [];
  heap = object.dict 1 (((text false), (whole (pos 1))) ∷ []) ∷ method kind.Dict (codes "items") (ref 0)
      ∷ object.view 5 76 (Some (ref 0)) ([]) ∷ native (codes "list") ∷ object.tuple 5 object.places ((text false) ∷ (whole (pos 1)) ∷ [])
      ∷ object.list 13 ((ref 4) ∷ []) ∷ [];
  ending = ended;
  choices = [];
  turns = 0;
}
unfolding answer turns_within
views_pairs = refl

-- at any place by choice
--     xs = [1, 2]
--     xs.insert(0, 3)
abbrev inserts_module : Module
inserts_module = written (
    set "xs" (list (int 1 ∷ int 2 ∷ [])) ∷
    expression (call (attr (name "xs") "insert") (int 0 ∷ int 3 ∷ [])) ∷ [])

inserts : answered inserts_module [] 1 (0 ∷ 0 ∷ 0 ∷ 1 ∷ []) ([]) ≡ record {
  events = event.held 0 (ref 0) ∷ [];
  heap = object.list 3 ((whole (pos 1)) ∷ (whole (pos 3)) ∷ (whole (pos 2)) ∷ []) ∷ method kind.List (codes "insert") (ref 0) ∷ [];
  ending = ended;
  choices = [];
  turns = 0;
}
unfolding answer turns_within
inserts = refl

--     xs = [1]
--     xs.extend(xs)
abbrev extends_by_itself_module : Module
extends_by_itself_module = written (
    set "xs" (list (int 1 ∷ [])) ∷
    expression (call (attr (name "xs") "extend") (name "xs" ∷ [])) ∷ [])

extends_by_itself : answered extends_by_itself_module [] 1 (0 ∷ 0 ∷ 0 ∷ 0 ∷ []) ([]) ≡ record {
  events = event.held 0 (ref 0) ∷ [];
  heap = object.list 2 ((whole (pos 1)) ∷ (whole (pos 1)) ∷ []) ∷ method kind.List (codes "extend") (ref 0) ∷ [];
  ending = ended;
  choices = [];
  turns = 0;
}
unfolding answer turns_within
extends_by_itself = refl

--     xs = [1, 2]
--     y = xs.pop()
abbrev pops_module : Module
pops_module = written (
    set "xs" (list (int 1 ∷ int 2 ∷ [])) ∷
    set "y" (call (attr (name "xs") "pop") []) ∷ [])

pops : answered pops_module [] 1 (0 ∷ 0 ∷ 0 ∷ 0 ∷ []) ([]) ≡ record {
  events = event.held 0 (ref 0) ∷ event.held 1 (whole (pos 1)) ∷ [];
  heap = object.list 3 ((whole (pos 2)) ∷ []) ∷ method kind.List (codes "pop") (ref 0) ∷ [];
  ending = ended;
  choices = [];
  turns = 0;
}
unfolding answer turns_within
pops = refl

--     [].pop()
abbrev pops_from_nothing_module : Module
pops_from_nothing_module = written (
    expression (call (attr (list []) "pop") []) ∷ [])

pops_from_nothing : answered pops_from_nothing_module [] 1 (0 ∷ 0 ∷ []) ([]) ≡ record {
  events = [];
  heap = object.list 0 ([]) ∷ method kind.List (codes "pop") (ref 0) ∷ error (codes "IndexError") ∷ [];
  ending = raised_out (ref 2);
  choices = [];
  turns = 0;
}
unfolding answer turns_within
pops_from_nothing = refl

--     xs = [1, 2]
--     y = xs.remove(9)
abbrev removes_module : Module
removes_module = written (
    set "xs" (list (int 1 ∷ int 2 ∷ [])) ∷
    set "y" (call (attr (name "xs") "remove") (int 9 ∷ [])) ∷ [])

removes : answered removes_module [] 1 (0 ∷ 0 ∷ 0 ∷ 1 ∷ []) ([]) ≡ record {
  events = event.held 0 (ref 0) ∷ event.held 1 none ∷ [];
  heap = object.list 3 ((whole (pos 1)) ∷ []) ∷ method kind.List (codes "remove") (ref 0) ∷ [];
  ending = ended;
  choices = [];
  turns = 0;
}
unfolding answer turns_within
removes = refl

--     [].remove(9)
abbrev removes_from_nothing_module : Module
removes_from_nothing_module = written (
    expression (call (attr (list []) "remove") (int 9 ∷ [])) ∷ [])

removes_from_nothing : answered removes_from_nothing_module [] 1 (0 ∷ 0 ∷ []) ([]) ≡ record {
  events = [];
  heap = object.list 0 ([]) ∷ method kind.List (codes "remove") (ref 0) ∷ error (codes "ValueError") ∷ [];
  ending = raised_out (ref 2);
  choices = [];
  turns = 0;
}
unfolding answer turns_within
removes_from_nothing = refl

--     xs = [1]
--     xs.reverse()
--     ys = xs.copy()
--     xs.clear()
abbrev clears_and_reverses_module : Module
clears_and_reverses_module = written (
    set "xs" (list (int 1 ∷ [])) ∷
    expression (call (attr (name "xs") "reverse") []) ∷
    set "ys" (call (attr (name "xs") "copy") []) ∷
    expression (call (attr (name "xs") "clear") []) ∷ [])

clears_and_reverses : answered clears_and_reverses_module [] 3 (0 ∷ 0 ∷ 0 ∷ 0 ∷ 0 ∷ 0 ∷ 0 ∷ 0 ∷ 0 ∷ []) ([]) ≡ record {
  events = event.held 0 (ref 0) ∷ event.held 2 (ref 3) ∷ [];
  heap = object.list 2 ([]) ∷ method kind.List (codes "reverse") (ref 0) ∷ method kind.List (codes "copy") (ref 0)
      ∷ object.list 9 ((whole (pos 1)) ∷ []) ∷ method kind.List (codes "clear") (ref 0) ∷ [];
  ending = ended;
  choices = [];
  turns = 0;
}
unfolding answer turns_within
clears_and_reverses = refl

--     x = [1].index(2)
--     y = (1,).count(2)
abbrev counts_module : Module
counts_module = written (
    set "x" (call (attr (list (int 1 ∷ [])) "index") (int 2 ∷ [])) ∷
    set "y" (call (attr (tuple (int 1 ∷ [])) "count") (int 2 ∷ [])) ∷ [])

counts : answered counts_module [] 2 (0 ∷ 0 ∷ 4 ∷ 0 ∷ 0 ∷ 5 ∷ []) ([]) ≡ record {
  events = event.held 0 (whole (pos 4)) ∷ event.held 2 (whole (pos 5)) ∷ [];
  heap = object.list 2 ((whole (pos 1)) ∷ []) ∷ method kind.List (codes "index") (ref 0)
      ∷ object.tuple 8 object.places ((whole (pos 1)) ∷ []) ∷ method kind.Tuple (codes "count") (ref 2) ∷ [];
  ending = ended;
  choices = [];
  turns = 0;
}
unfolding answer turns_within
counts = refl

--     [].append()
abbrev appends_nothing_module : Module
appends_nothing_module = written (
    expression (call (attr (list []) "append") []) ∷ [])

appends_nothing : answered appends_nothing_module [] 1 (0 ∷ 0 ∷ []) ([]) ≡ record {
  events = event.fault 1 event.missing_parameter event.on_another None ∷ [];
  heap = object.list 0 ([]) ∷ method kind.List (codes "append") (ref 0) ∷ error (codes "TypeError") ∷ [];
  ending = raised_out (ref 2);
  choices = [];
  turns = 0;
}
unfolding answer turns_within
appends_nothing = refl

-- a value, or at the last number what is given in place of it
--     d = {"a": 1}
--     x = d.get("a")
--     y = d.get("a", 5)
--     z = {}.get(1)
abbrev gets_module : Module
gets_module = written (
    set "d" (dict ((str "a", int 1) ∷ [])) ∷
    set "x" (call (attr (name "d") "get") (str "a" ∷ [])) ∷
    set "y" (call (attr (name "d") "get") (str "a" ∷ int 5 ∷ [])) ∷
    set "z" (call (attr (dict []) "get") (int 1 ∷ [])) ∷ [])

gets : answered gets_module [] 3 (0 ∷ 0 ∷ 0 ∷ 0 ∷ 0 ∷ 0 ∷ 0 ∷ 1 ∷ 0 ∷ 0 ∷ []) ([]) ≡ record {
  events = event.held 0 (ref 0) ∷ event.held 1 (whole (pos 1)) ∷ event.held 3 (whole (pos 5)) ∷ event.held 4 none ∷ [];
  heap = object.dict 3 (((text false), (whole (pos 1))) ∷ []) ∷ method kind.Dict (codes "get") (ref 0)
      ∷ method kind.Dict (codes "get") (ref 0) ∷ object.dict 16 ([]) ∷ method kind.Dict (codes "get") (ref 3) ∷ [];
  ending = ended;
  choices = [];
  turns = 0;
}
unfolding answer turns_within
gets = refl

--     d = {}
--     x = d.setdefault("a", 1)
--     y = d.setdefault("b", 2)
abbrev sets_a_default_module : Module
sets_a_default_module = written (
    set "d" (dict []) ∷
    set "x" (call (attr (name "d") "setdefault") (str "a" ∷ int 1 ∷ [])) ∷
    set "y" (call (attr (name "d") "setdefault") (str "b" ∷ int 2 ∷ [])) ∷ [])

sets_a_default : answered sets_a_default_module [] 2 (0 ∷ 0 ∷ 0 ∷ 0 ∷ 0 ∷ 0 ∷ 0 ∷ []) ([]) ≡ record {
  events = event.held 0 (ref 0) ∷ event.held 1 (whole (pos 1)) ∷ event.held 3 (whole (pos 1)) ∷ [];
  heap = object.dict 1 (((text false), (whole (pos 1))) ∷ []) ∷ method kind.Dict (codes "setdefault") (ref 0)
      ∷ method kind.Dict (codes "setdefault") (ref 0) ∷ [];
  ending = ended;
  choices = [];
  turns = 0;
}
unfolding answer turns_within
sets_a_default = refl

--     d = {"a": 1}
--     x = d.pop("a")
abbrev pops_a_pair_module : Module
pops_a_pair_module = written (
    set "d" (dict ((str "a", int 1) ∷ [])) ∷
    set "x" (call (attr (name "d") "pop") (str "a" ∷ [])) ∷ [])

pops_a_pair : answered pops_a_pair_module [] 1 (0 ∷ 0 ∷ 0 ∷ 0 ∷ []) ([]) ≡ record {
  events = event.held 0 (ref 0) ∷ event.held 1 (whole (pos 1)) ∷ [];
  heap = object.dict 3 ([]) ∷ method kind.Dict (codes "pop") (ref 0) ∷ [];
  ending = ended;
  choices = [];
  turns = 0;
}
unfolding answer turns_within
pops_a_pair = refl

--     d = {"a": 1}
--     x = d.pop("a")
abbrev pops_no_pair_module : Module
pops_no_pair_module = written (
    set "d" (dict ((str "a", int 1) ∷ [])) ∷
    set "x" (call (attr (name "d") "pop") (str "a" ∷ [])) ∷ [])

pops_no_pair : answered pops_no_pair_module [] 1 (0 ∷ 0 ∷ 0 ∷ 1 ∷ []) ([]) ≡ record {
  events = [];
  heap = object.dict 3 (((text false), (whole (pos 1))) ∷ []) ∷ method kind.Dict (codes "pop") (ref 0) ∷ error (codes "KeyError") ∷ [];
  ending = raised_out (ref 2);
  choices = [];
  turns = 0;
}
unfolding answer turns_within
pops_no_pair = refl

--     d = {1: 2}
--     d.update(d)
--     e = d.copy()
abbrev updates_module : Module
updates_module = written (
    set "d" (dict ((int 1, int 2) ∷ [])) ∷
    expression (call (attr (name "d") "update") (name "d" ∷ [])) ∷
    set "e" (call (attr (name "d") "copy") []) ∷ [])

updates : answered updates_module [] 2 (0 ∷ 0 ∷ 0 ∷ 0 ∷ 0 ∷ 0 ∷ 0 ∷ []) ([]) ≡ record {
  events = event.held 0 (ref 0) ∷ event.held 2 (ref 3) ∷ [];
  heap = object.dict 3 (((whole (pos 1)), (whole (pos 2))) ∷ ((whole (pos 1)), (whole (pos 2))) ∷ [])
      ∷ method kind.Dict (codes "update") (ref 0) ∷ method kind.Dict (codes "copy") (ref 0)
      ∷ object.dict 11 (((whole (pos 1)), (whole (pos 2))) ∷ ((whole (pos 1)), (whole (pos 2))) ∷ []) ∷ [];
  ending = ended;
  choices = [];
  turns = 0;
}
unfolding answer turns_within
updates = refl

-- fresh texts until an odd choice
--     x = "a".split()
abbrev splits_module : Module
splits_module = written (
    set "x" (call (attr (str "a") "split") []) ∷ [])

splits : answered splits_module [] 1 (0 ∷ 0 ∷ 0 ∷ 3 ∷ 2 ∷ 4 ∷ 1 ∷ []) ([]) ≡ record {
  events = event.held 0 (ref 1) ∷ [];
  heap = method kind.Str (codes "split") (text false) ∷ object.list 3 ((text false) ∷ (text true) ∷ []) ∷ [];
  ending = ended;
  choices = [];
  turns = 0;
}
unfolding answer turns_within
splits = refl

--     x = "a".partition("b")
abbrev parts_module : Module
parts_module = written (
    set "x" (call (attr (str "a") "partition") (str "b" ∷ [])) ∷ [])

parts : answered parts_module [] 1 (0 ∷ 0 ∷ 1 ∷ 2 ∷ 3 ∷ []) ([]) ≡ record {
  events = event.held 0 (ref 1) ∷ [];
  heap = method kind.Str (codes "partition") (text false) ∷ object.tuple 4 object.parts ((text false) ∷ (text true) ∷ (text false) ∷ []) ∷ [];
  ending = ended;
  choices = [];
  turns = 0;
}
unfolding answer turns_within
parts = refl

--     x = "a".upper()
--     y = "a".find("b")
--     z = "a".isdigit()
abbrev asks_a_text_module : Module
asks_a_text_module = written (
    set "x" (call (attr (str "a") "upper") []) ∷
    set "y" (call (attr (str "a") "find") (str "b" ∷ [])) ∷
    set "z" (call (attr (str "a") "isdigit") []) ∷ [])

asks_a_text : answered asks_a_text_module [] 3 (0 ∷ 0 ∷ 1 ∷ 0 ∷ 0 ∷ 6 ∷ 0 ∷ 0 ∷ 0 ∷ []) ([]) ≡ record {
  events = event.held 0 (text false) ∷ event.held 2 (whole (pos 6)) ∷ event.held 4 (truth true) ∷ [];
  heap = method kind.Str (codes "upper") (text false) ∷ method kind.Str (codes "find") (text false) ∷ method kind.Str (codes "isdigit") (text false) ∷ [];
  ending = ended;
  choices = [];
  turns = 0;
}
unfolding answer turns_within
asks_a_text = refl

--     x = b"a".decode()
--     y = b"a".split()
abbrev asks_bytes_module : Module
asks_bytes_module = written (
    set "x" (call (attr (bytes "a") "decode") []) ∷
    set "y" (call (attr (bytes "a") "split") []) ∷ [])

asks_bytes : answered asks_bytes_module [] 2 (0 ∷ 0 ∷ 1 ∷ 0 ∷ 0 ∷ []) ([]) ≡ record {
  events = event.held 0 (text false) ∷ event.held 2 (ref 2) ∷ [];
  heap = method kind.Bytes (codes "decode") (octets false) ∷ method kind.Bytes (codes "split") (octets false) ∷ anything ∷ [];
  ending = ended;
  choices = [];
  turns = 0;
}
unfolding answer turns_within
asks_bytes = refl

--     x = True
--     y = x.bit_length()
abbrev asks_a_number_module : Module
asks_a_number_module = written (
    set "x" (literal lit.TrueValue) ∷
    set "y" (call (attr (name "x") "bit_length") []) ∷ [])

asks_a_number : answered asks_a_number_module [] 1 (0 ∷ 0 ∷ 0 ∷ 3 ∷ []) ([]) ≡ record {
  events = event.held 0 (truth true) ∷ event.held 1 (whole (pos 3)) ∷ [];
  heap = method kind.Int (codes "bit_length") (truth true) ∷ [];
  ending = ended;
  choices = [];
  turns = 0;
}
unfolding answer turns_within
asks_a_number = refl

--     x = ValueError("a").args
abbrev reads_arguments_of_an_exception_module : Module
reads_arguments_of_an_exception_module = written (
    set "x" (attr (call (name "ValueError") (str "a" ∷ [])) "args") ∷ [])

reads_arguments_of_an_exception : answered reads_arguments_of_an_exception_module [] 1 (0 ∷ 0 ∷ 0 ∷ []) ([]) ≡ record {
  events = event.held 0 (ref 2) ∷ [];
  heap = native (codes "ValueError") ∷ error (codes "ValueError") ∷ object.outside (term.tuple_of term.any) ∷ [];
  ending = ended;
  choices = [];
  turns = 0;
}
unfolding answer turns_within
reads_arguments_of_an_exception = refl

-- a class isn't followed, and a function has no attributes
--     x = int.foo
--     y = len.foo
abbrev reads_an_attribute_of_a_builtin_module : Module
reads_an_attribute_of_a_builtin_module = written (
    set "x" (attr (name "int") "foo") ∷
    set "y" (attr (name "len") "foo") ∷ [])

reads_an_attribute_of_a_builtin : answered reads_an_attribute_of_a_builtin_module [] 0 (0 ∷ 0 ∷ 0 ∷ 0 ∷ []) ([]) ≡ record {
  events = event.fault 2 event.attribute_error event.on_another (Some 2) ∷ [];
  heap = native (codes "int") ∷ anything ∷ native (codes "len") ∷ error (codes "AttributeError") ∷ [];
  ending = raised_out (ref 3);
  choices = [];
  turns = 0;
}
unfolding answer turns_within
reads_an_attribute_of_a_builtin = refl
