-- Runs of statements, computed.
use Rattle.std.specs.Prelude.{◌≡◌, pos, false, [], ◌∷◌, Some, None, refl, codes}
use Rattle.place_ids.specs.declared.operators.CompareOp.TheVariants as cmp
use Rattle.py_tree.specs.declared.literal.Literal.TheVariants as lit
use Rattle.py_tree.specs.Tree.{Module}
use Rattle.py_meaning.specs.Values.{truth, whole, text, ref}
use Rattle.py_meaning.specs.Objects as object
use Rattle.py_meaning.specs.Events as event
use Rattle.py_meaning.specs.Runs.{turns_within, answer, ended, raised_out, ran_out_of_turns}
use Rattle.py_meaning.proofs.Written.{written, ·◌, ··◌, name, literal, int, str, compare, attr, call, tuple, list, pass, break, continue, ellipsis, raise}
use Rattle.py_meaning.proofs.Written.{assert, global, set, annotated, expression, while, for, elif, when, end_if, otherwise, try, except, end_try, try_else, def}
use Rattle.py_meaning.proofs.Samples.{answered, native, error, anything}

--     if 0:
--         x = 1
--     elif "a":
--         x = 2
--     else:
--         x = 3
abbrev takes_an_arm_module : Module
takes_an_arm_module = written (
    when (int 0) (
    · set "x" (int 1) ∷ []) (
    elif (str "a") (
    · set "x" (int 2) ∷ []) (
    otherwise (
    · set "x" (int 3) ∷ []))) ∷ [])

takes_an_arm : answered takes_an_arm_module [] 0 ([]) ([]) ≡ record {
  events = event.held 0 (whole (pos 2)) ∷ [];
  heap = [];
  ending = ended;
  choices = [];
  turns = 0;
}
unfolding answer turns_within
takes_an_arm = refl

--     if 0:
--         x = 1
--     else:
--         x = 3
abbrev takes_no_arm_module : Module
takes_no_arm_module = written (
    when (int 0) (
    · set "x" (int 1) ∷ []) (
    otherwise (
    · set "x" (int 3) ∷ [])) ∷ [])

takes_no_arm : answered takes_no_arm_module [] 0 ([]) ([]) ≡ record {
  events = event.held 0 (whole (pos 3)) ∷ [];
  heap = [];
  ending = ended;
  choices = [];
  turns = 0;
}
unfolding answer turns_within
takes_no_arm = refl

-- a turn for each time through the body
--     n = True
--     while n:
--         n = n == 1
abbrev loops_twice_module : Module
loops_twice_module = written (
    set "n" (literal lit.TrueValue) ∷
    while (name "n") (
    · set "n" (compare (name "n") cmp.Equal (int 1)) ∷ []) ∷ [])

loops_twice : answered loops_twice_module [] 2 (0 ∷ 0 ∷ 0 ∷ 0 ∷ 0 ∷ 0 ∷ 0 ∷ 1 ∷ 0 ∷ []) ([]) ≡ record {
  events = event.held 0 (truth false) ∷ [];
  heap = [];
  ending = ended;
  choices = [];
  turns = 0;
}
unfolding answer turns_within
loops_twice = refl

--     while True:
--         pass
abbrev loops_too_long_module : Module
loops_too_long_module = written (
    while (literal lit.TrueValue) (
    · pass ∷ []) ∷ [])

loops_too_long : answered loops_too_long_module [] 3 ([]) ([]) ≡ record {
  events = [];
  heap = [];
  ending = ran_out_of_turns;
  choices = [];
  turns = 0;
}
unfolding answer turns_within
loops_too_long = refl

--     while True:
--         x = 1
--         break
--         x = 2
abbrev breaks_out_module : Module
breaks_out_module = written (
    while (literal lit.TrueValue) (
    · set "x" (int 1) ∷
    · break ∷
    · set "x" (int 2) ∷ []) ∷ [])

breaks_out : answered breaks_out_module [] 1 ([]) ([]) ≡ record {
  events = event.held 0 (whole (pos 1)) ∷ [];
  heap = [];
  ending = ended;
  choices = [];
  turns = 0;
}
unfolding answer turns_within
breaks_out = refl

--     for n in (1,):
--         continue
--         x = 2
abbrev continues_with_the_next_module : Module
continues_with_the_next_module = written (
    for (name "n") (tuple (int 1 ∷ [])) (
    · continue ∷
    · set "x" (int 2) ∷ []) ∷ [])

continues_with_the_next : answered continues_with_the_next_module [] 1 (0 ∷ 0 ∷ 0 ∷ 1 ∷ []) ([]) ≡ record {
  events = event.held 0 (whole (pos 1)) ∷ [];
  heap = object.tuple 2 object.places ((whole (pos 1)) ∷ []) ∷ [];
  ending = ended;
  choices = [];
  turns = 0;
}
unfolding answer turns_within
continues_with_the_next = refl

--     pass
--     ...
--     x: int
--     y: int = 4
--     1
abbrev passes_module : Module
passes_module = written (
    pass ∷
    ellipsis ∷
    annotated (name "x") "int" None ∷
    annotated (name "y") "int" (Some (int 4)) ∷
    expression (int 1) ∷ [])

passes : answered passes_module [] 0 ([]) ([]) ≡ record {
  events = event.held 2 (whole (pos 4)) ∷ [];
  heap = [];
  ending = ended;
  choices = [];
  turns = 0;
}
unfolding answer turns_within
passes = refl

-- the statement itself does nothing
--     global x
--     x = 1
abbrev declares_a_global_module : Module
declares_a_global_module = written (
    global ("x" ∷ []) ∷
    set "x" (int 1) ∷ [])

declares_a_global : answered declares_a_global_module [] 0 ([]) ([]) ≡ record {
  events = event.held 0 (whole (pos 1)) ∷ [];
  heap = [];
  ending = ended;
  choices = [];
  turns = 0;
}
unfolding answer turns_within
declares_a_global = refl

-- the object is evaluated, and no more
--     x = 1
--     x.a: int
abbrev annotates_an_attribute_module : Module
annotates_an_attribute_module = written (
    set "x" (int 1) ∷
    annotated (attr (name "x") "a") "int" None ∷ [])

annotates_an_attribute : answered annotates_an_attribute_module [] 0 (0 ∷ []) ([]) ≡ record {
  events = event.held 0 (whole (pos 1)) ∷ [];
  heap = [];
  ending = ended;
  choices = [];
  turns = 0;
}
unfolding answer turns_within
annotates_an_attribute = refl

-- the message isn't evaluated
--     assert 1, nope
abbrev asserts_what_is_true_module : Module
asserts_what_is_true_module = written (
    assert (int 1) (Some (name "nope")) ∷ [])

asserts_what_is_true : answered asserts_what_is_true_module [] 0 ([]) ([]) ≡ record {
  events = [];
  heap = [];
  ending = ended;
  choices = [];
  turns = 0;
}
unfolding answer turns_within
asserts_what_is_true = refl

-- the class is read, called and raised: three steps that may raise
--     assert 0, "m"
abbrev asserts_what_is_false_module : Module
asserts_what_is_false_module = written (
    assert (int 0) (Some (str "m")) ∷ [])

asserts_what_is_false : answered asserts_what_is_false_module [] 1 (0 ∷ 0 ∷ 0 ∷ []) ([]) ≡ record {
  events = [];
  heap = native (codes "AssertionError") ∷ error (codes "AssertionError") ∷ [];
  ending = raised_out (ref 1);
  choices = [];
  turns = 0;
}
unfolding answer turns_within
asserts_what_is_false = refl

--     raise ValueError
abbrev raises_a_class_module : Module
raises_a_class_module = written (
    raise (Some (name "ValueError")) None ∷ [])

raises_a_class : answered raises_a_class_module [] 1 (0 ∷ 0 ∷ 0 ∷ []) ([]) ≡ record {
  events = [];
  heap = native (codes "ValueError") ∷ error (codes "ValueError") ∷ [];
  ending = raised_out (ref 1);
  choices = [];
  turns = 0;
}
unfolding answer turns_within
raises_a_class = refl

-- the class call of a `raise` is a turn
--     raise ValueError
abbrev raises_a_class_without_turns_module : Module
raises_a_class_without_turns_module = written (
    raise (Some (name "ValueError")) None ∷ [])

raises_a_class_without_turns : answered raises_a_class_without_turns_module [] 0 (0 ∷ 0 ∷ 0 ∷ []) ([]) ≡ record {
  events = [];
  heap = native (codes "ValueError") ∷ [];
  ending = ran_out_of_turns;
  choices = 0 ∷ 0 ∷ [];
  turns = 0;
}
unfolding answer turns_within
raises_a_class_without_turns = refl

-- a TypeError that is no event
--     raise 3
abbrev raises_what_is_no_exception_module : Module
raises_what_is_no_exception_module = written (
    raise (Some (int 3)) None ∷ [])

raises_what_is_no_exception : answered raises_what_is_no_exception_module [] 0 (0 ∷ 0 ∷ []) ([]) ≡ record {
  events = [];
  heap = error (codes "TypeError") ∷ [];
  ending = raised_out (ref 0);
  choices = [];
  turns = 0;
}
unfolding answer turns_within
raises_what_is_no_exception = refl

--     raise ValueError() from nope
abbrev raises_with_a_cause_module : Module
raises_with_a_cause_module = written (
    raise (Some (call (name "ValueError") [])) (Some (name "nope")) ∷ [])

raises_with_a_cause : answered raises_with_a_cause_module [] 1 (0 ∷ 0 ∷ 0 ∷ 0 ∷ 0 ∷ []) ([]) ≡ record {
  events = [];
  heap = native (codes "ValueError") ∷ error (codes "ValueError") ∷ anything ∷ [];
  ending = raised_out (ref 1);
  choices = [];
  turns = 0;
}
unfolding answer turns_within
raises_with_a_cause = refl

--     raise
abbrev raises_nothing_module : Module
raises_nothing_module = written (
    raise None None ∷ [])

raises_nothing : answered raises_nothing_module [] 0 (0 ∷ []) ([]) ≡ record {
  events = [];
  heap = error (codes "RuntimeError") ∷ [];
  ending = raised_out (ref 0);
  choices = [];
  turns = 0;
}
unfolding answer turns_within
raises_nothing = refl

--     try:
--         raise ValueError()
--     except ValueError as e:
--         x = e
--     y = e
abbrev unbinds_a_name_after_its_clause_module : Module
unbinds_a_name_after_its_clause_module = written (
    try (
    · raise (Some (call (name "ValueError") [])) None ∷ []) (
    except (Some (name "ValueError")) (Some "e") (
    · set "x" (name "e") ∷ []) end_try) ∷
    set "y" (name "e") ∷ [])

unbinds_a_name_after_its_clause : answered unbinds_a_name_after_its_clause_module [] 1 (0 ∷ 0 ∷ 0 ∷ 0 ∷ 0 ∷ 0 ∷ 0 ∷ 0 ∷ []) ([]) ≡ record {
  events = [];
  heap = native (codes "ValueError") ∷ error (codes "ValueError") ∷ native (codes "ValueError") ∷ error (codes "NameError") ∷ [];
  ending = raised_out (ref 3);
  choices = [];
  turns = 0;
}
unfolding answer turns_within
unbinds_a_name_after_its_clause = refl

--     try:
--         raise KeyError
--     except IndexError:
--         x = 1
--     except LookupError:
--         x = 2
--     else:
--         x = 3
abbrev passes_over_a_clause_module : Module
passes_over_a_clause_module = written (
    try (
    · raise (Some (name "KeyError")) None ∷ []) (
    except (Some (name "IndexError")) None (
    · set "x" (int 1) ∷ []) (
    except (Some (name "LookupError")) None (
    · set "x" (int 2) ∷ []) (
    try_else (
    · set "x" (int 3) ∷ [])))) ∷ [])

passes_over_a_clause : answered passes_over_a_clause_module [] 1 (0 ∷ 0 ∷ 0 ∷ 0 ∷ 0 ∷ 0 ∷ 0 ∷ []) ([]) ≡ record {
  events = event.held 2 (whole (pos 2)) ∷ [];
  heap = native (codes "KeyError") ∷ error (codes "KeyError") ∷ native (codes "IndexError") ∷ native (codes "LookupError") ∷ [];
  ending = ended;
  choices = [];
  turns = 0;
}
unfolding answer turns_within
passes_over_a_clause = refl

--     try:
--         x = 1
--     except:
--         x = 2
--     else:
--         x = 3
abbrev goes_on_in_the_else_module : Module
goes_on_in_the_else_module = written (
    try (
    · set "x" (int 1) ∷ []) (
    except None None (
    · set "x" (int 2) ∷ []) (
    try_else (
    · set "x" (int 3) ∷ []))) ∷ [])

goes_on_in_the_else : answered goes_on_in_the_else_module [] 0 ([]) ([]) ≡ record {
  events = event.held 0 (whole (pos 3)) ∷ [];
  heap = [];
  ending = ended;
  choices = [];
  turns = 0;
}
unfolding answer turns_within
goes_on_in_the_else = refl

--     try:
--         raise KeyError
--     except ValueError:
--         pass
abbrev raises_again_where_none_matches_module : Module
raises_again_where_none_matches_module = written (
    try (
    · raise (Some (name "KeyError")) None ∷ []) (
    except (Some (name "ValueError")) None (
    · pass ∷ []) end_try) ∷ [])

raises_again_where_none_matches : answered raises_again_where_none_matches_module [] 1 (0 ∷ 0 ∷ 0 ∷ 0 ∷ 0 ∷ 0 ∷ []) ([]) ≡ record {
  events = [];
  heap = native (codes "KeyError") ∷ error (codes "KeyError") ∷ native (codes "ValueError") ∷ [];
  ending = raised_out (ref 1);
  choices = [];
  turns = 0;
}
unfolding answer turns_within
raises_again_where_none_matches = refl

-- the step at the end of a `try` may raise as well
--     try:
--         raise KeyError
--     except ValueError:
--         pass
abbrev raises_another_where_none_matches_module : Module
raises_another_where_none_matches_module = written (
    try (
    · raise (Some (name "KeyError")) None ∷ []) (
    except (Some (name "ValueError")) None (
    · pass ∷ []) end_try) ∷ [])

raises_another_where_none_matches : answered raises_another_where_none_matches_module [] 1 (0 ∷ 0 ∷ 0 ∷ 0 ∷ 0 ∷ 63 ∷ []) ([]) ≡ record {
  events = [];
  heap = native (codes "KeyError") ∷ error (codes "KeyError") ∷ native (codes "ValueError") ∷ error (codes "BaseException") ∷ [];
  ending = raised_out (ref 3);
  choices = [];
  turns = 0;
}
unfolding answer turns_within
raises_another_where_none_matches = refl

-- a bare clause takes no choice; the exception is under way in what it calls
--     def f():
--         raise
--     try:
--         raise KeyError
--     except:
--         f()
abbrev raises_the_exception_under_way_module : Module
raises_the_exception_under_way_module = written (
    def "f" [] (
    · raise None None ∷ []) ∷
    try (
    · raise (Some (name "KeyError")) None ∷ []) (
    except None None (
    · expression (call (name "f") []) ∷ []) end_try) ∷ [])

raises_the_exception_under_way : answered raises_the_exception_under_way_module [] 2 (0 ∷ 0 ∷ 0 ∷ 0 ∷ 0 ∷ 0 ∷ []) ([]) ≡ record {
  events = [];
  heap = object.function 0 ∷ native (codes "KeyError") ∷ error (codes "KeyError") ∷ [];
  ending = raised_out (ref 2);
  choices = [];
  turns = 0;
}
unfolding answer turns_within
raises_the_exception_under_way = refl

--     try:
--         raise KeyError
--     except:
--         pass
--     raise
abbrev forgets_the_exception_after_its_clause_module : Module
forgets_the_exception_after_its_clause_module = written (
    try (
    · raise (Some (name "KeyError")) None ∷ []) (
    except None None (
    · pass ∷ []) end_try) ∷
    raise None None ∷ [])

forgets_the_exception_after_its_clause : answered forgets_the_exception_after_its_clause_module [] 1 (0 ∷ 0 ∷ 0 ∷ 0 ∷ []) ([]) ≡ record {
  events = [];
  heap = native (codes "KeyError") ∷ error (codes "KeyError") ∷ error (codes "RuntimeError") ∷ [];
  ending = raised_out (ref 2);
  choices = [];
  turns = 0;
}
unfolding answer turns_within
forgets_the_exception_after_its_clause = refl

--     for x in [1, 2]:
--         try:
--             break
--         except ValueError:
--             pass
--         x = 3
--     y = x
abbrev leaves_a_try_by_break_module : Module
leaves_a_try_by_break_module = written (
    for (name "x") (list (int 1 ∷ int 2 ∷ [])) (
    · try (
    ·· break ∷ []) (
    · except (Some (name "ValueError")) None (
    ·· pass ∷ []) end_try) ∷
    · set "x" (int 3) ∷ []) ∷
    set "y" (name "x") ∷ [])

leaves_a_try_by_break : answered leaves_a_try_by_break_module [] 1 (0 ∷ 0 ∷ 0 ∷ []) ([]) ≡ record {
  events = event.held 0 (whole (pos 1)) ∷ event.held 2 (whole (pos 1)) ∷ [];
  heap = object.list 3 ((whole (pos 1)) ∷ (whole (pos 2)) ∷ []) ∷ [];
  ending = ended;
  choices = [];
  turns = 0;
}
unfolding answer turns_within
leaves_a_try_by_break = refl

-- `e` has no value at the end
--     while True:
--         try:
--             raise KeyError
--         except KeyError as e:
--             break
--     x = 1
abbrev unbinds_a_name_where_its_clause_breaks_module : Module
unbinds_a_name_where_its_clause_breaks_module = written (
    while (literal lit.TrueValue) (
    · try (
    ·· raise (Some (name "KeyError")) None ∷ []) (
    · except (Some (name "KeyError")) (Some "e") (
    ·· break ∷ []) end_try) ∷ []) ∷
    set "x" (int 1) ∷ [])

unbinds_a_name_where_its_clause_breaks : answered unbinds_a_name_where_its_clause_breaks_module [] 2 (0 ∷ 0 ∷ 0 ∷ 0 ∷ 0 ∷ []) ([]) ≡ record {
  events = event.held 2 (whole (pos 1)) ∷ [];
  heap = native (codes "KeyError") ∷ error (codes "KeyError") ∷ native (codes "KeyError") ∷ [];
  ending = ended;
  choices = [];
  turns = 0;
}
unfolding answer turns_within
unbinds_a_name_where_its_clause_breaks = refl

-- where some part may match, the tuple matches by choice
--     try:
--         raise KeyError
--     except (ValueError, KeyError):
--         x = 1
abbrev matches_a_tuple_module : Module
matches_a_tuple_module = written (
    try (
    · raise (Some (name "KeyError")) None ∷ []) (
    except (Some (tuple (name "ValueError" ∷ name "KeyError" ∷ []))) None (
    · set "x" (int 1) ∷ []) end_try) ∷ [])

matches_a_tuple : answered matches_a_tuple_module [] 1 (0 ∷ 0 ∷ 0 ∷ 0 ∷ 0 ∷ 0 ∷ 2 ∷ []) ([]) ≡ record {
  events = event.held 2 (whole (pos 1)) ∷ [];
  heap = native (codes "KeyError") ∷ error (codes "KeyError") ∷ native (codes "ValueError") ∷ native (codes "KeyError")
      ∷ object.tuple 3 object.places ((ref 2) ∷ (ref 3) ∷ []) ∷ [];
  ending = ended;
  choices = [];
  turns = 0;
}
unfolding answer turns_within
matches_a_tuple = refl

--     try:
--         raise KeyError
--     except (ValueError, KeyError):
--         x = 1
abbrev passes_over_a_tuple_module : Module
passes_over_a_tuple_module = written (
    try (
    · raise (Some (name "KeyError")) None ∷ []) (
    except (Some (tuple (name "ValueError" ∷ name "KeyError" ∷ []))) None (
    · set "x" (int 1) ∷ []) end_try) ∷ [])

passes_over_a_tuple : answered passes_over_a_tuple_module [] 1 (0 ∷ 0 ∷ 0 ∷ 0 ∷ 0 ∷ 0 ∷ 1 ∷ 0 ∷ []) ([]) ≡ record {
  events = [];
  heap = native (codes "KeyError") ∷ error (codes "KeyError") ∷ native (codes "ValueError") ∷ native (codes "KeyError")
      ∷ object.tuple 3 object.places ((ref 2) ∷ (ref 3) ∷ []) ∷ [];
  ending = raised_out (ref 1);
  choices = [];
  turns = 0;
}
unfolding answer turns_within
passes_over_a_tuple = refl

--     try:
--         raise KeyError
--     except object:
--         x = 1
abbrev never_matches_object_module : Module
never_matches_object_module = written (
    try (
    · raise (Some (name "KeyError")) None ∷ []) (
    except (Some (name "object")) None (
    · set "x" (int 1) ∷ []) end_try) ∷ [])

never_matches_object : answered never_matches_object_module [] 1 (0 ∷ 0 ∷ 0 ∷ 0 ∷ 0 ∷ 0 ∷ []) ([]) ≡ record {
  events = [];
  heap = native (codes "KeyError") ∷ error (codes "KeyError") ∷ native (codes "object") ∷ [];
  ending = raised_out (ref 1);
  choices = [];
  turns = 0;
}
unfolding answer turns_within
never_matches_object = refl

--     if 0:
--         x = 1
--     y = x
abbrev reads_a_global_without_value_module : Module
reads_a_global_without_value_module = written (
    when (int 0) (
    · set "x" (int 1) ∷ []) end_if ∷
    set "y" (name "x") ∷ [])

reads_a_global_without_value : answered reads_a_global_without_value_module [] 0 (0 ∷ []) ([]) ≡ record {
  events = [];
  heap = error (codes "NameError") ∷ [];
  ending = raised_out (ref 0);
  choices = [];
  turns = 0;
}
unfolding answer turns_within
reads_a_global_without_value = refl

--     x = __name__
abbrev reads_a_builtin_text_module : Module
reads_a_builtin_text_module = written (
    set "x" (name "__name__") ∷ [])

reads_a_builtin_text : answered reads_a_builtin_text_module [] 0 (0 ∷ 1 ∷ []) ([]) ≡ record {
  events = event.held 0 (text false) ∷ [];
  heap = [];
  ending = ended;
  choices = [];
  turns = 0;
}
unfolding answer turns_within
reads_a_builtin_text = refl
