-- Runs over containers, computed.
use Rattle.std.specs.Prelude.{◌≡◌, pos, true, false, [], ◌∷◌, None, refl, codes, Some}
use Rattle.place_ids.specs.declared.operators.BinOp.TheVariants as bin
use Rattle.place_ids.specs.declared.operators.CompareOp.TheVariants as cmp
use Rattle.py_tree.specs.declared.literal.Literal.TheVariants as lit
use Rattle.type_terms.specs.Terms as term
use Rattle.py_tree.specs.Tree.{Module}
use Rattle.py_meaning.specs.Values.{none, whole, text, ref}
use Rattle.py_meaning.specs.Objects as object
use Rattle.py_meaning.specs.Events as event
use Rattle.py_meaning.specs.Runs.{turns_within, answer, ended, raised_out}
use Rattle.builtin_stubs.specs.declared.basic.Basic.TheVariants as kind
use Rattle.py_meaning.proofs.Written.{written, ·◌, ··◌, name, literal, int, str, bytes, compare, attr, item, slice, call}
use Rattle.py_meaning.proofs.Written.{tuple, list, dict, pass, break, assign, set, augment, expression, for, when, end_if}
use Rattle.py_meaning.proofs.Samples.{answered, native, method, error}

-- any element by choice: 3 mod 2 is 1
--     xs = [1, 2]
--     y = xs[0]
abbrev reads_an_item_module : Module
reads_an_item_module = written (
    set "xs" (list (int 1 ∷ int 2 ∷ [])) ∷
    set "y" (item (name "xs") (int 0)) ∷ [])

reads_an_item : answered reads_an_item_module [] 0 (0 ∷ 0 ∷ 3 ∷ []) ([]) ≡ record {
  events = event.held 0 (ref 0) ∷ event.held 1 (whole (pos 2)) ∷ [];
  heap = object.list 3 ((whole (pos 1)) ∷ (whole (pos 2)) ∷ []) ∷ [];
  ending = ended;
  choices = [];
  turns = 0;
}
unfolding answer turns_within
reads_an_item = refl

-- a choice among one is not taken
--     y = (7,)[5]
abbrev reads_the_only_item_module : Module
reads_the_only_item_module = written (
    set "y" (item (tuple (int 7 ∷ [])) (int 5)) ∷ [])

reads_the_only_item : answered reads_the_only_item_module [] 0 (0 ∷ []) ([]) ≡ record {
  events = event.held 0 (whole (pos 7)) ∷ [];
  heap = object.tuple 2 object.places ((whole (pos 7)) ∷ []) ∷ [];
  ending = ended;
  choices = [];
  turns = 0;
}
unfolding answer turns_within
reads_the_only_item = refl

--     y = [][0]
abbrev reads_an_item_of_none_module : Module
reads_an_item_of_none_module = written (
    set "y" (item (list []) (int 0)) ∷ [])

reads_an_item_of_none : answered reads_an_item_of_none_module [] 0 (0 ∷ []) ([]) ≡ record {
  events = [];
  heap = object.list 1 ([]) ∷ error (codes "IndexError") ∷ [];
  ending = raised_out (ref 1);
  choices = [];
  turns = 0;
}
unfolding answer turns_within
reads_an_item_of_none = refl

--     d = {"a": 1, "b": None}
--     y = d["c"]
abbrev reads_a_value_module : Module
reads_a_value_module = written (
    set "d" (dict ((str "a", int 1) ∷ (str "b", literal lit.NoneValue) ∷ [])) ∷
    set "y" (item (name "d") (str "c")) ∷ [])

reads_a_value : answered reads_a_value_module [] 0 (0 ∷ 0 ∷ 1 ∷ []) ([]) ≡ record {
  events = event.held 0 (ref 0) ∷ event.held 1 none ∷ [];
  heap = object.dict 5 (((text false), (whole (pos 1))) ∷ ((text false), none) ∷ []) ∷ [];
  ending = ended;
  choices = [];
  turns = 0;
}
unfolding answer turns_within
reads_a_value = refl

--     y = {}[1]
abbrev reads_a_value_of_none_module : Module
reads_a_value_of_none_module = written (
    set "y" (item (dict []) (int 1)) ∷ [])

reads_a_value_of_none : answered reads_a_value_of_none_module [] 0 (0 ∷ []) ([]) ≡ record {
  events = [];
  heap = object.dict 1 ([]) ∷ error (codes "KeyError") ∷ [];
  ending = raised_out (ref 1);
  choices = [];
  turns = 0;
}
unfolding answer turns_within
reads_a_value_of_none = refl

--     y = "ab"[0]
--     z = b"ab"[0]
abbrev reads_a_letter_module : Module
reads_a_letter_module = written (
    set "y" (item (str "ab") (int 0)) ∷
    set "z" (item (bytes "ab") (int 0)) ∷ [])

reads_a_letter : answered reads_a_letter_module [] 0 (0 ∷ 1 ∷ 0 ∷ 4 ∷ []) ([]) ≡ record {
  events = event.held 0 (text false) ∷ event.held 1 (whole (pos 4)) ∷ [];
  heap = [];
  ending = ended;
  choices = [];
  turns = 0;
}
unfolding answer turns_within
reads_a_letter = refl

--     y = 3[0]
abbrev reads_an_item_of_a_number_module : Module
reads_an_item_of_a_number_module = written (
    set "y" (item (int 3) (int 0)) ∷ [])

reads_an_item_of_a_number : answered reads_an_item_of_a_number_module [] 0 (0 ∷ []) ([]) ≡ record {
  events = event.fault 1 event.unsupported_operands event.on_another None ∷ [];
  heap = error (codes "TypeError") ∷ [];
  ending = raised_out (ref 0);
  choices = [];
  turns = 0;
}
unfolding answer turns_within
reads_an_item_of_a_number = refl

--     y = [1]["a"]
abbrev reads_by_a_text_module : Module
reads_by_a_text_module = written (
    set "y" (item (list (int 1 ∷ [])) (str "a")) ∷ [])

reads_by_a_text : answered reads_by_a_text_module [] 0 (0 ∷ []) ([]) ≡ record {
  events = event.fault 1 event.unsupported_operands event.on_another None ∷ [];
  heap = object.list 2 ((whole (pos 1)) ∷ []) ∷ error (codes "TypeError") ∷ [];
  ending = raised_out (ref 1);
  choices = [];
  turns = 0;
}
unfolding answer turns_within
reads_by_a_text = refl

-- a part stays where its choice is even
--     y = [1, 2, 3][0:2]
abbrev slices_a_list_module : Module
slices_a_list_module = written (
    set "y" (slice (list (int 1 ∷ int 2 ∷ int 3 ∷ [])) (Some (int 0)) (Some (int 2)) None) ∷ [])

slices_a_list : answered slices_a_list_module [] 0 (0 ∷ 2 ∷ 1 ∷ 4 ∷ []) ([]) ≡ record {
  events = event.held 0 (ref 1) ∷ [];
  heap = object.list 4 ((whole (pos 1)) ∷ (whole (pos 2)) ∷ (whole (pos 3)) ∷ []) ∷ object.list 7 ((whole (pos 1)) ∷ (whole (pos 3)) ∷ []) ∷ [];
  ending = ended;
  choices = [];
  turns = 0;
}
unfolding answer turns_within
slices_a_list = refl

--     y = (1, 2)[::]
abbrev slices_a_tuple_module : Module
slices_a_tuple_module = written (
    set "y" (slice (tuple (int 1 ∷ int 2 ∷ [])) None None None) ∷ [])

slices_a_tuple : answered slices_a_tuple_module [] 0 (0 ∷ 1 ∷ 0 ∷ []) ([]) ≡ record {
  events = event.held 0 (ref 1) ∷ [];
  heap = object.tuple 3 object.places ((whole (pos 1)) ∷ (whole (pos 2)) ∷ []) ∷ object.tuple 4 object.parts ((whole (pos 2)) ∷ []) ∷ [];
  ending = ended;
  choices = [];
  turns = 0;
}
unfolding answer turns_within
slices_a_tuple = refl

--     y = "abc"[1:]
abbrev slices_a_text_module : Module
slices_a_text_module = written (
    set "y" (slice (str "abc") (Some (int 1)) None None) ∷ [])

slices_a_text : answered slices_a_text_module [] 0 (0 ∷ 2 ∷ []) ([]) ≡ record {
  events = event.held 0 (text true) ∷ [];
  heap = [];
  ending = ended;
  choices = [];
  turns = 0;
}
unfolding answer turns_within
slices_a_text = refl

--     y = 3[:]
abbrev slices_a_number_module : Module
slices_a_number_module = written (
    set "y" (slice (int 3) None None None) ∷ [])

slices_a_number : answered slices_a_number_module [] 0 (0 ∷ []) ([]) ≡ record {
  events = event.fault 1 event.unsupported_operands event.on_another None ∷ [];
  heap = error (codes "TypeError") ∷ [];
  ending = raised_out (ref 0);
  choices = [];
  turns = 0;
}
unfolding answer turns_within
slices_a_number = refl

--     xs = [1, 2]
--     xs[0] = 5
abbrev stores_an_item_module : Module
stores_an_item_module = written (
    set "xs" (list (int 1 ∷ int 2 ∷ [])) ∷
    assign (item (name "xs") (int 0) ∷ []) (int 5) ∷ [])

stores_an_item : answered stores_an_item_module [] 0 (0 ∷ 0 ∷ 1 ∷ []) ([]) ≡ record {
  events = event.held 0 (ref 0) ∷ [];
  heap = object.list 3 ((whole (pos 1)) ∷ (whole (pos 5)) ∷ []) ∷ [];
  ending = ended;
  choices = [];
  turns = 0;
}
unfolding answer turns_within
stores_an_item = refl

--     xs = []
--     xs[0] = 5
abbrev stores_an_item_of_none_module : Module
stores_an_item_of_none_module = written (
    set "xs" (list []) ∷
    assign (item (name "xs") (int 0) ∷ []) (int 5) ∷ [])

stores_an_item_of_none : answered stores_an_item_of_none_module [] 0 (0 ∷ 0 ∷ []) ([]) ≡ record {
  events = [];
  heap = object.list 1 ([]) ∷ error (codes "IndexError") ∷ [];
  ending = raised_out (ref 1);
  choices = [];
  turns = 0;
}
unfolding answer turns_within
stores_an_item_of_none = refl

-- in place of a value, or at the last number as a new pair
--     d = {}
--     d[1] = 2
--     d[1] = 3
--     d[1] = 4
abbrev stores_pairs_module : Module
stores_pairs_module = written (
    set "d" (dict []) ∷
    assign (item (name "d") (int 1) ∷ []) (int 2) ∷
    assign (item (name "d") (int 1) ∷ []) (int 3) ∷
    assign (item (name "d") (int 1) ∷ []) (int 4) ∷ [])

stores_pairs : answered stores_pairs_module [] 0 (0 ∷ 0 ∷ 0 ∷ 0 ∷ 1 ∷ 0 ∷ 0 ∷ 0 ∷ []) ([]) ≡ record {
  events = event.held 0 (ref 0) ∷ [];
  heap = object.dict 1 (((whole (pos 1)), (whole (pos 4))) ∷ ((whole (pos 1)), (whole (pos 3))) ∷ []) ∷ [];
  ending = ended;
  choices = [];
  turns = 0;
}
unfolding answer turns_within
stores_pairs = refl

--     t = (1,)
--     t[0] = 2
abbrev stores_an_item_of_a_tuple_module : Module
stores_an_item_of_a_tuple_module = written (
    set "t" (tuple (int 1 ∷ [])) ∷
    assign (item (name "t") (int 0) ∷ []) (int 2) ∷ [])

stores_an_item_of_a_tuple : answered stores_an_item_of_a_tuple_module [] 0 (0 ∷ 0 ∷ []) ([]) ≡ record {
  events = event.fault 2 event.unsupported_operands event.on_another None ∷ [];
  heap = object.tuple 2 object.places ((whole (pos 1)) ∷ []) ∷ error (codes "TypeError") ∷ [];
  ending = raised_out (ref 1);
  choices = [];
  turns = 0;
}
unfolding answer turns_within
stores_an_item_of_a_tuple = refl

--     d = {"a": 1}
--     d["a"] += 2
abbrev adds_to_an_item_module : Module
adds_to_an_item_module = written (
    set "d" (dict ((str "a", int 1) ∷ [])) ∷
    augment (item (name "d") (str "a")) bin.Add (int 2) ∷ [])

adds_to_an_item : answered adds_to_an_item_module [] 0 (0 ∷ 0 ∷ 0 ∷ 9 ∷ 0 ∷ 0 ∷ []) ([]) ≡ record {
  events = event.held 0 (ref 0) ∷ [];
  heap = object.dict 3 (((text false), (whole (pos 9))) ∷ []) ∷ [];
  ending = ended;
  choices = [];
  turns = 0;
}
unfolding answer turns_within
adds_to_an_item = refl

--     a, b = 1, 2
abbrev unpacks_a_tuple_module : Module
unpacks_a_tuple_module = written (
    assign (tuple (name "a" ∷ name "b" ∷ []) ∷ []) (tuple (int 1 ∷ int 2 ∷ [])) ∷ [])

unpacks_a_tuple : answered unpacks_a_tuple_module [] 0 (0 ∷ 0 ∷ []) ([]) ≡ record {
  events = event.held 0 (whole (pos 1)) ∷ event.held 1 (whole (pos 2)) ∷ [];
  heap = object.tuple 5 object.places ((whole (pos 1)) ∷ (whole (pos 2)) ∷ []) ∷ [];
  ending = ended;
  choices = [];
  turns = 0;
}
unfolding answer turns_within
unpacks_a_tuple = refl

--     a, b = (1, 2, 3)
abbrev unpacks_another_count_module : Module
unpacks_another_count_module = written (
    assign (tuple (name "a" ∷ name "b" ∷ []) ∷ []) (tuple (int 1 ∷ int 2 ∷ int 3 ∷ [])) ∷ [])

unpacks_another_count : answered unpacks_another_count_module [] 0 (0 ∷ []) ([]) ≡ record {
  events = [];
  heap = object.tuple 6 object.places ((whole (pos 1)) ∷ (whole (pos 2)) ∷ (whole (pos 3)) ∷ []) ∷ error (codes "ValueError") ∷ [];
  ending = raised_out (ref 1);
  choices = [];
  turns = 0;
}
unfolding answer turns_within
unpacks_another_count = refl

-- from the last target to the first, each takes any element
--     a, b = [1, 2]
abbrev unpacks_a_list_module : Module
unpacks_a_list_module = written (
    assign (tuple (name "a" ∷ name "b" ∷ []) ∷ []) (list (int 1 ∷ int 2 ∷ [])) ∷ [])

unpacks_a_list : answered unpacks_a_list_module [] 0 (0 ∷ 0 ∷ 0 ∷ 1 ∷ []) ([]) ≡ record {
  events = event.held 0 (whole (pos 2)) ∷ event.held 1 (whole (pos 1)) ∷ [];
  heap = object.list 5 ((whole (pos 1)) ∷ (whole (pos 2)) ∷ []) ∷ [];
  ending = ended;
  choices = [];
  turns = 0;
}
unfolding answer turns_within
unpacks_a_list = refl

--     a, b = [1]
abbrev unpacks_too_little_module : Module
unpacks_too_little_module = written (
    assign (tuple (name "a" ∷ name "b" ∷ []) ∷ []) (list (int 1 ∷ [])) ∷ [])

unpacks_too_little : answered unpacks_too_little_module [] 0 (0 ∷ 0 ∷ 0 ∷ 1 ∷ []) ([]) ≡ record {
  events = [];
  heap = object.list 4 ((whole (pos 1)) ∷ []) ∷ error (codes "ValueError") ∷ [];
  ending = raised_out (ref 1);
  choices = [];
  turns = 0;
}
unfolding answer turns_within
unpacks_too_little = refl

--     a, b = 3
abbrev unpacks_a_number_module : Module
unpacks_a_number_module = written (
    assign (tuple (name "a" ∷ name "b" ∷ []) ∷ []) (int 3) ∷ [])

unpacks_a_number : answered unpacks_a_number_module [] 0 (0 ∷ []) ([]) ≡ record {
  events = event.fault 1 event.not_iterable event.on_another None ∷ [];
  heap = error (codes "TypeError") ∷ [];
  ending = raised_out (ref 0);
  choices = [];
  turns = 0;
}
unfolding answer turns_within
unpacks_a_number = refl

--     (a, b), [c] = (1, 2), "x"
abbrev unpacks_within_module : Module
unpacks_within_module = written (
    assign (tuple (tuple (name "a" ∷ name "b" ∷ []) ∷ list (name "c" ∷ []) ∷ []) ∷ []) (tuple (tuple (int 1 ∷ int 2 ∷ []) ∷ str "x" ∷ [])) ∷ [])

unpacks_within : answered unpacks_within_module [] 0 (0 ∷ 0 ∷ 0 ∷ 0 ∷ 0 ∷ 0 ∷ 1 ∷ []) ([]) ≡ record {
  events = event.held 0 (whole (pos 1)) ∷ event.held 1 (whole (pos 2)) ∷ event.held 2 (text false) ∷ [];
  heap = object.tuple 8 object.places ((whole (pos 1)) ∷ (whole (pos 2)) ∷ []) ∷ object.tuple 10 object.places ((ref 0) ∷ (text false) ∷ []) ∷ [];
  ending = ended;
  choices = [];
  turns = 0;
}
unfolding answer turns_within
unpacks_within = refl

-- the targets share the list
--     a = b = [1]
abbrev assigns_to_each_module : Module
assigns_to_each_module = written (
    assign (name "a" ∷ name "b" ∷ []) (list (int 1 ∷ [])) ∷ [])

assigns_to_each : answered assigns_to_each_module [] 0 ([]) ([]) ≡ record {
  events = event.held 0 (ref 0) ∷ event.held 1 (ref 0) ∷ [];
  heap = object.list 3 ((whole (pos 1)) ∷ []) ∷ [];
  ending = ended;
  choices = [];
  turns = 0;
}
unfolding answer turns_within
assigns_to_each = refl

-- a list is appended to while it is iterated
--     xs = [1]
--     for x in xs:
--         xs.append("t")
--         break
abbrev appends_while_iterating_module : Module
appends_while_iterating_module = written (
    set "xs" (list (int 1 ∷ [])) ∷
    for (name "x") (name "xs") (
    · expression (call (attr (name "xs") "append") (str "t" ∷ [])) ∷
    · break ∷ []) ∷ [])

appends_while_iterating : answered appends_while_iterating_module [] 2 (0 ∷ 0 ∷ 0 ∷ 0 ∷ 0 ∷ 0 ∷ []) ([]) ≡ record {
  events = event.held 1 (whole (pos 1)) ∷ event.held 0 (ref 0) ∷ [];
  heap = object.list 2 ((whole (pos 1)) ∷ (text false) ∷ []) ∷ method kind.List (codes "append") (ref 0) ∷ [];
  ending = ended;
  choices = [];
  turns = 0;
}
unfolding answer turns_within
appends_while_iterating = refl

-- the next element is the one that was appended
--     xs = [1]
--     for x in xs:
--         if x == 1:
--             xs.append("t")
abbrev goes_on_with_what_was_appended_module : Module
goes_on_with_what_was_appended_module = written (
    set "xs" (list (int 1 ∷ [])) ∷
    for (name "x") (name "xs") (
    · when (compare (name "x") cmp.Equal (int 1)) (
    ·· expression (call (attr (name "xs") "append") (str "t" ∷ [])) ∷ []) end_if ∷ []) ∷ [])

goes_on_with_what_was_appended : answered goes_on_with_what_was_appended_module [] 4 (0 ∷ 0 ∷ 0 ∷ 0 ∷ 0 ∷ 0 ∷ 0 ∷ 0 ∷ 0 ∷ 0 ∷ 1 ∷ 0 ∷ 0 ∷ 1 ∷ 0 ∷ 2 ∷ []) ([])
    ≡ record {
      events = event.held 1 (text false) ∷ event.held 0 (ref 0) ∷ [];
      heap = object.list 2 ((whole (pos 1)) ∷ (text false) ∷ []) ∷ method kind.List (codes "append") (ref 0) ∷ [];
      ending = ended;
      choices = [];
      turns = 1;
    }
unfolding answer turns_within
goes_on_with_what_was_appended = refl

--     for k in {"a": 1}:
--         pass
abbrev iterates_a_dict_module : Module
iterates_a_dict_module = written (
    for (name "k") (dict ((str "a", int 1) ∷ [])) (
    · pass ∷ []) ∷ [])

iterates_a_dict : answered iterates_a_dict_module [] 1 (0 ∷ 0 ∷ 0 ∷ 1 ∷ []) ([]) ≡ record {
  events = event.held 0 (text false) ∷ [];
  heap = object.dict 3 (((text false), (whole (pos 1))) ∷ []) ∷ [];
  ending = ended;
  choices = [];
  turns = 0;
}
unfolding answer turns_within
iterates_a_dict = refl

--     for c in "ab":
--         pass
abbrev iterates_a_text_module : Module
iterates_a_text_module = written (
    for (name "c") (str "ab") (
    · pass ∷ []) ∷ [])

iterates_a_text : answered iterates_a_text_module [] 1 (0 ∷ 2 ∷ 3 ∷ 0 ∷ 1 ∷ []) ([]) ≡ record {
  events = event.held 0 (text false) ∷ [];
  heap = [];
  ending = ended;
  choices = [];
  turns = 0;
}
unfolding answer turns_within
iterates_a_text = refl

--     for c in []:
--         pass
abbrev iterates_nothing_module : Module
iterates_nothing_module = written (
    for (name "c") (list []) (
    · pass ∷ []) ∷ [])

iterates_nothing : answered iterates_nothing_module [] 0 (0 ∷ []) ([]) ≡ record {
  events = [];
  heap = object.list 1 ([]) ∷ [];
  ending = ended;
  choices = [];
  turns = 0;
}
unfolding answer turns_within
iterates_nothing = refl

--     for x in 3:
--         pass
abbrev iterates_a_number_module : Module
iterates_a_number_module = written (
    for (name "x") (int 3) (
    · pass ∷ []) ∷ [])

iterates_a_number : answered iterates_a_number_module [] 0 (0 ∷ []) ([]) ≡ record {
  events = event.fault 1 event.not_iterable event.on_another None ∷ [];
  heap = error (codes "TypeError") ∷ [];
  ending = raised_out (ref 0);
  choices = [];
  turns = 0;
}
unfolding answer turns_within
iterates_a_number = refl

--     for n in range(3):
--         pass
abbrev iterates_a_range_module : Module
iterates_a_range_module = written (
    for (name "n") (call (name "range") (int 3 ∷ [])) (
    · pass ∷ []) ∷ [])

iterates_a_range : answered iterates_a_range_module [] 2 (0 ∷ 0 ∷ 0 ∷ 0 ∷ 7 ∷ 0 ∷ 1 ∷ []) ([]) ≡ record {
  events = event.held 0 (whole (pos 7)) ∷ [];
  heap = native (codes "range") ∷ object.outside (term.class (codes "range")) ∷ [];
  ending = ended;
  choices = [];
  turns = 0;
}
unfolding answer turns_within
iterates_a_range = refl

-- the key that was there stays
--     d = {1: 2}
--     d[5] = 3
abbrev keeps_the_old_key_module : Module
keeps_the_old_key_module = written (
    set "d" (dict ((int 1, int 2) ∷ [])) ∷
    assign (item (name "d") (int 5) ∷ []) (int 3) ∷ [])

keeps_the_old_key : answered keeps_the_old_key_module [] 0 (0 ∷ 0 ∷ 0 ∷ []) ([]) ≡ record {
  events = event.held 0 (ref 0) ∷ [];
  heap = object.dict 3 ((whole (pos 1), whole (pos 3)) ∷ []) ∷ [];
  ending = ended;
  choices = [];
  turns = 0;
}
unfolding answer turns_within
keeps_the_old_key = refl
