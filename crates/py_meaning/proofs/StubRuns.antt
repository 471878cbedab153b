-- Runs with stubs, and with calls from outside, computed.
use Rattle.std.specs.Prelude.{◌≡◌, pos, true, false, [], ◌∷◌, Some, None, refl, codes}
use Rattle.place_ids.specs.declared.operators.BinOp.TheVariants as bin
use Rattle.place_ids.specs.declared.operators.CompareOp.TheVariants as cmp
use Rattle.py_tree.specs.declared.literal.Literal.TheVariants as lit
use Rattle.type_terms.specs.Terms as term
use Rattle.type_terms.specs.Stubs.{Stub}
use Rattle.py_tree.specs.Tree.{Module}
use Rattle.py_meaning.specs.Values.{none, truth, whole, float, text, ref}
use Rattle.py_meaning.specs.Objects as object
use Rattle.py_meaning.specs.Events as event
use Rattle.py_meaning.specs.Actions.{calls_function, calls_class}
use Rattle.py_meaning.specs.Runs.{turns_within, answer, ended, raised_out, ran_out_of_turns}
use Rattle.py_meaning.proofs.Written.{written, ·◌, ··◌, name, int, str, binary, compare, attr, item, call, call_by, tuple, list, pass, return}
use Rattle.py_meaning.proofs.Written.{raise, import, taken, from, assign, set, expression, for, try, except, end_try, parameter, def, method_def, class}
use Rattle.py_meaning.proofs.Samples.{answered}
use Rattle.builtin_stubs.specs.declared.basic.Basic.TheVariants as kind
use Rattle.py_meaning.proofs.Samples.{native, method, error, anything}

-- class Price: has units: int, a method twice that gives int or str, and __init__ with units and code
-- class Wrong(KeyError)
-- rate: int, prices: List[Price], pair: Tuple[int, str], get: Callable[..., float], kind: Type[Price]
-- def total(prices: List[Price]) -> Price
abbrev money : Stub
money = record {
  names = record { name = codes "rate"; term = term.int } ∷ record { name = codes "prices"; term = term.list (term.class (codes "Price")) }
      ∷ record { name = codes "pair"; term = term.tuple (term.term term.int (term.term term.str term.no_terms)) }
      ∷ record { name = codes "get"; term = term.callable term.float } ∷ record { name = codes "kind"; term = term.class_of (codes "Price") } ∷ [];
  funs = record { name = codes "total"; params = record { name = codes "prices"; term = term.list (term.class (codes "Price")); has_default = false } ∷ []; answer = term.class (codes "Price") } ∷ [];
  classes = record {
    name = codes "Price";
    base = None;
    names = record { name = codes "units"; term = term.int } ∷ [];
    funs = record {
      name = codes "__init__";
      params = record { name = codes "self"; term = term.any; has_default = false }
          ∷ record { name = codes "units"; term = term.int; has_default = false }
          ∷ record { name = codes "code"; term = term.str; has_default = false } ∷ [];
      answer = term.none;
    }
        ∷ record { name = codes "twice"; params = record { name = codes "self"; term = term.any; has_default = false } ∷ []; answer = term.union (term.term term.int (term.term term.str term.no_terms)) } ∷ [];
  }
      ∷ record { name = codes "Wrong"; base = Some (codes "KeyError"); names = []; funs = [] } ∷ [];
}

--     import money
--     x = money.rate
abbrev reads_a_name_of_a_stub_module : Module
reads_a_name_of_a_stub_module = written (
    import ("money" ∷ []) None ∷
    set "x" (attr (name "money") "rate") ∷ [])

reads_a_name_of_a_stub : answered reads_a_name_of_a_stub_module ((codes "money", money) ∷ []) 0 (0 ∷ 0 ∷ 0 ∷ 4 ∷ []) ([]) ≡ record {
  events = event.held 1 (whole (pos 4)) ∷ [];
  heap = object.imported (codes "money") ∷ [];
  ending = ended;
  choices = [];
  turns = 0;
}
unfolding answer turns_within
reads_a_name_of_a_stub = refl

--     import money
--     x = money.nope
abbrev reads_what_a_stub_lacks_module : Module
reads_what_a_stub_lacks_module = written (
    import ("money" ∷ []) None ∷
    set "x" (attr (name "money") "nope") ∷ [])

reads_what_a_stub_lacks : answered reads_what_a_stub_lacks_module ((codes "money", money) ∷ []) 0 (0 ∷ 0 ∷ 0 ∷ []) ([]) ≡ record {
  events = event.fault 2 event.attribute_error event.on_another (Some 2) ∷ [];
  heap = object.imported (codes "money") ∷ error (codes "AttributeError") ∷ [];
  ending = raised_out (ref 1);
  choices = [];
  turns = 0;
}
unfolding answer turns_within
reads_what_a_stub_lacks = refl

--     import os
--     x = os.getcwd()
abbrev imports_what_has_no_stub_module : Module
imports_what_has_no_stub_module = written (
    import ("os" ∷ []) None ∷
    set "x" (call (attr (name "os") "getcwd") []) ∷ [])

imports_what_has_no_stub : answered imports_what_has_no_stub_module ((codes "money", money) ∷ []) 1 (0 ∷ 0 ∷ 0 ∷ 0 ∷ []) ([]) ≡ record {
  events = event.held 1 (ref 2) ∷ [];
  heap = anything ∷ anything ∷ anything ∷ [];
  ending = ended;
  choices = [];
  turns = 0;
}
unfolding answer turns_within
imports_what_has_no_stub = refl

--     import a.b as c
--     import money as m
--     x = m.rate
abbrev imports_under_another_name_module : Module
imports_under_another_name_module = written (
    import ("a" ∷ "b" ∷ []) (Some "c") ∷
    import ("money" ∷ []) (Some "m") ∷
    set "x" (attr (name "m") "rate") ∷ [])

imports_under_another_name : answered imports_under_another_name_module ((codes "money", money) ∷ (codes "a.b", money) ∷ []) 0 (0 ∷ 0 ∷ 0 ∷ 0 ∷ 9 ∷ []) ([])
    ≡ record {
      events = event.held 5 (whole (pos 9)) ∷ [];
      heap = object.imported (codes "a.b") ∷ object.imported (codes "money") ∷ [];
      ending = ended;
      choices = [];
      turns = 0;
    }
unfolding answer turns_within
imports_under_another_name = refl

--     from money import Price, total, nope
abbrev takes_from_a_stub_module : Module
takes_from_a_stub_module = written (
    from ("money" ∷ []) (taken "Price" None ∷ taken "total" None ∷ taken "nope" None ∷ []) ∷ [])

takes_from_a_stub : answered takes_from_a_stub_module ((codes "money", money) ∷ []) 0 (0 ∷ 0 ∷ 0 ∷ []) ([]) ≡ record {
  events = [];
  heap = object.foreign (object.stub_class (codes "money") (codes "Price")) ∷ object.foreign (object.stub_fun (codes "money") (codes "total")) ∷ anything ∷ [];
  ending = ended;
  choices = [];
  turns = 0;
}
unfolding answer turns_within
takes_from_a_stub = refl

--     from money import Price
--     p = Price(1, code="EUR")
--     u = p.units
abbrev makes_a_stub_instance_module : Module
makes_a_stub_instance_module = written (
    from ("money" ∷ []) (taken "Price" None ∷ []) ∷
    set "p" (call_by (name "Price") (int 1 ∷ []) (("code", str "EUR") ∷ [])) ∷
    set "u" (attr (name "p") "units") ∷ [])

makes_a_stub_instance : answered makes_a_stub_instance_module ((codes "money", money) ∷ []) 1 (0 ∷ 0 ∷ 0 ∷ 0 ∷ 0 ∷ 7 ∷ []) ([]) ≡ record {
  events = event.held 2 (ref 1) ∷ event.held 4 (whole (pos 7)) ∷ [];
  heap = object.foreign (object.stub_class (codes "money") (codes "Price")) ∷ object.outside (term.class (codes "money.Price")) ∷ [];
  ending = ended;
  choices = [];
  turns = 0;
}
unfolding answer turns_within
makes_a_stub_instance = refl

--     from money import Price
--     p = Price(1)
abbrev makes_a_stub_instance_of_too_little_module : Module
makes_a_stub_instance_of_too_little_module = written (
    from ("money" ∷ []) (taken "Price" None ∷ []) ∷
    set "p" (call (name "Price") (int 1 ∷ [])) ∷ [])

makes_a_stub_instance_of_too_little : answered makes_a_stub_instance_of_too_little_module ((codes "money", money) ∷ []) 1 (0 ∷ 0 ∷ 0 ∷ []) ([]) ≡ record {
  events = event.fault 2 event.missing_parameter event.on_another None ∷ [];
  heap = object.foreign (object.stub_class (codes "money") (codes "Price")) ∷ error (codes "TypeError") ∷ [];
  ending = raised_out (ref 1);
  choices = [];
  turns = 0;
}
unfolding answer turns_within
makes_a_stub_instance_of_too_little = refl

-- the result is a union, whose member a choice picks: of int and str the second
--     from money import Price
--     def f(p):
--         return p.twice()
--     x = f(Price(1, "E"))
abbrev calls_a_stub_method_module : Module
calls_a_stub_method_module = written (
    from ("money" ∷ []) (taken "Price" None ∷ []) ∷
    def "f" (parameter "p" None ∷ []) (
    · return (Some (call (attr (name "p") "twice") [])) ∷ []) ∷
    set "x" (call (name "f") (call (name "Price") (int 1 ∷ str "E" ∷ []) ∷ [])) ∷ [])

calls_a_stub_method : answered calls_a_stub_method_module ((codes "money", money) ∷ []) 3 (0 ∷ 0 ∷ 0 ∷ 0 ∷ 0 ∷ 0 ∷ 0 ∷ 0 ∷ 1 ∷ 5 ∷ []) ([]) ≡ record {
  events = event.returned 0 (text false) ∷ event.held 5 (text false) ∷ [];
  heap = object.foreign (object.stub_class (codes "money") (codes "Price")) ∷ object.function 0
      ∷ object.outside (term.class (codes "money.Price"))
      ∷ object.bound_foreign (ref 2) (object.stub_method (codes "money") (codes "Price") (codes "twice")) ∷ [];
  ending = ended;
  choices = [];
  turns = 0;
}
unfolding answer turns_within
calls_a_stub_method = refl

-- the stub's own class stands under its whole name
--     from money import total
--     x = total([])
abbrev calls_a_stub_function_module : Module
calls_a_stub_function_module = written (
    from ("money" ∷ []) (taken "total" None ∷ []) ∷
    set "x" (call (name "total") (list [] ∷ [])) ∷ [])

calls_a_stub_function : answered calls_a_stub_function_module ((codes "money", money) ∷ []) 1 (0 ∷ 0 ∷ 0 ∷ []) ([]) ≡ record {
  events = event.held 2 (ref 2) ∷ [];
  heap = object.foreign (object.stub_fun (codes "money") (codes "total")) ∷ object.list 2 ([]) ∷ object.outside (term.class (codes "money.Price")) ∷ [];
  ending = ended;
  choices = [];
  turns = 0;
}
unfolding answer turns_within
calls_a_stub_function = refl

--     from money import total
--     x = total([]).z
abbrev lacks_an_attribute_of_a_stub_instance_module : Module
lacks_an_attribute_of_a_stub_instance_module = written (
    from ("money" ∷ []) (taken "total" None ∷ []) ∷
    set "x" (attr (call (name "total") (list [] ∷ [])) "z") ∷ [])

lacks_an_attribute_of_a_stub_instance : answered lacks_an_attribute_of_a_stub_instance_module ((codes "money", money) ∷ []) 1 (0 ∷ 0 ∷ 0 ∷ 0 ∷ []) ([])
    ≡ record {
      events = event.fault 2 event.attribute_error event.on_another (Some 3) ∷ [];
      heap = object.foreign (object.stub_fun (codes "money") (codes "total")) ∷ object.list 2 ([])
          ∷ object.outside (term.class (codes "money.Price")) ∷ error (codes "AttributeError") ∷ [];
      ending = raised_out (ref 3);
      choices = [];
      turns = 0;
    }
unfolding answer turns_within
lacks_an_attribute_of_a_stub_instance = refl

-- each element is fresh
--     import money
--     for p in money.prices:
--         pass
abbrev iterates_a_list_from_outside_module : Module
iterates_a_list_from_outside_module = written (
    import ("money" ∷ []) None ∷
    for (name "p") (attr (name "money") "prices") (
    · pass ∷ []) ∷ [])

iterates_a_list_from_outside : answered iterates_a_list_from_outside_module ((codes "money", money) ∷ []) 1 (0 ∷ 0 ∷ 0 ∷ 0 ∷ 0 ∷ 0 ∷ 1 ∷ []) ([]) ≡ record {
  events = event.held 1 (ref 2) ∷ [];
  heap = object.imported (codes "money") ∷ object.outside (term.list (term.class (codes "money.Price")))
      ∷ object.outside (term.class (codes "money.Price")) ∷ [];
  ending = ended;
  choices = [];
  turns = 0;
}
unfolding answer turns_within
iterates_a_list_from_outside = refl

-- the effect is forgotten
--     import money
--     ps = money.prices
--     ps.append(1)
--     q = ps[0]
abbrev appends_to_a_list_from_outside_module : Module
appends_to_a_list_from_outside_module = written (
    import ("money" ∷ []) None ∷
    set "ps" (attr (name "money") "prices") ∷
    expression (call (attr (name "ps") "append") (int 1 ∷ [])) ∷
    set "q" (item (name "ps") (int 0)) ∷ [])

appends_to_a_list_from_outside : answered appends_to_a_list_from_outside_module ((codes "money", money) ∷ []) 1 (0 ∷ 0 ∷ 0 ∷ 0 ∷ 0 ∷ 0 ∷ 0 ∷ 0 ∷ []) ([])
    ≡ record {
      events = event.held 1 (ref 1) ∷ event.held 4 (ref 3) ∷ [];
      heap = object.imported (codes "money") ∷ object.outside (term.list (term.class (codes "money.Price")))
          ∷ method kind.List (codes "append") (ref 1) ∷ object.outside (term.class (codes "money.Price")) ∷ [];
      ending = ended;
      choices = [];
      turns = 0;
    }
unfolding answer turns_within
appends_to_a_list_from_outside = refl

-- each target takes one of the declared places
--     import money
--     a, b = money.pair
abbrev unpacks_a_tuple_from_outside_module : Module
unpacks_a_tuple_from_outside_module = written (
    import ("money" ∷ []) None ∷
    assign (tuple (name "a" ∷ name "b" ∷ []) ∷ []) (attr (name "money") "pair") ∷ [])

unpacks_a_tuple_from_outside : answered unpacks_a_tuple_from_outside_module ((codes "money", money) ∷ []) 0 (0 ∷ 0 ∷ 0 ∷ 0 ∷ 0 ∷ 1 ∷ 2 ∷ 0 ∷ 0 ∷ 0 ∷ 8 ∷ []) ([])
    ≡ record {
      events = event.held 1 (whole (pos 8)) ∷ event.held 2 (text true) ∷ [];
      heap = object.imported (codes "money") ∷ object.outside (term.tuple (term.term term.int (term.term term.str term.no_terms))) ∷ [];
      ending = ended;
      choices = [];
      turns = 0;
    }
unfolding answer turns_within
unpacks_a_tuple_from_outside = refl

--     import money
--     x = money.get()
abbrev calls_what_a_stub_declares_callable_module : Module
calls_what_a_stub_declares_callable_module = written (
    import ("money" ∷ []) None ∷
    set "x" (call (attr (name "money") "get") []) ∷ [])

calls_what_a_stub_declares_callable : answered calls_what_a_stub_declares_callable_module ((codes "money", money) ∷ []) 1 (0 ∷ 0 ∷ 0 ∷ 0 ∷ []) ([]) ≡ record {
  events = event.held 1 float ∷ [];
  heap = object.imported (codes "money") ∷ object.outside (term.callable term.float) ∷ [];
  ending = ended;
  choices = [];
  turns = 0;
}
unfolding answer turns_within
calls_what_a_stub_declares_callable = refl

--     import money
--     k = money.kind
--     x = k(1, "E")
abbrev reads_a_class_of_a_stub_module : Module
reads_a_class_of_a_stub_module = written (
    import ("money" ∷ []) None ∷
    set "k" (attr (name "money") "kind") ∷
    set "x" (call (name "k") (int 1 ∷ str "E" ∷ [])) ∷ [])

reads_a_class_of_a_stub : answered reads_a_class_of_a_stub_module ((codes "money", money) ∷ []) 1 (0 ∷ 0 ∷ 0 ∷ 0 ∷ 0 ∷ []) ([]) ≡ record {
  events = event.held 1 (ref 1) ∷ event.held 3 (ref 2) ∷ [];
  heap = object.imported (codes "money") ∷ object.foreign (object.stub_class (codes "money") (codes "Price"))
      ∷ object.outside (term.class (codes "money.Price")) ∷ [];
  ending = ended;
  choices = [];
  turns = 0;
}
unfolding answer turns_within
reads_a_class_of_a_stub = refl

--     from money import Wrong
--     try:
--         raise Wrong
--     except LookupError as e:
--         x = e.args
abbrev catches_an_exception_of_a_stub_module : Module
catches_an_exception_of_a_stub_module = written (
    from ("money" ∷ []) (taken "Wrong" None ∷ []) ∷
    try (
    · raise (Some (name "Wrong")) None ∷ []) (
    except (Some (name "LookupError")) (Some "e") (
    · set "x" (attr (name "e") "args") ∷ []) end_try) ∷ [])

catches_an_exception_of_a_stub : answered catches_an_exception_of_a_stub_module ((codes "money", money) ∷ []) 1 (0 ∷ 0 ∷ 0 ∷ 0 ∷ 0 ∷ 0 ∷ 0 ∷ 0 ∷ []) ([])
    ≡ record {
      events = event.held 4 (ref 3) ∷ [];
      heap = object.foreign (object.stub_class (codes "money") (codes "Wrong")) ∷ object.outside (term.class (codes "money.Wrong"))
          ∷ native (codes "LookupError") ∷ object.outside (term.tuple_of term.any) ∷ [];
      ending = ended;
      choices = [];
      turns = 0;
    }
unfolding answer turns_within
catches_an_exception_of_a_stub = refl

--     from money import total
--     x = total([]) + 1
--     y = total([]) == 1
abbrev adds_a_stub_instance_module : Module
adds_a_stub_instance_module = written (
    from ("money" ∷ []) (taken "total" None ∷ []) ∷
    set "x" (binary (call (name "total") (list [] ∷ [])) bin.Add (int 1)) ∷
    set "y" (compare (call (name "total") (list [] ∷ [])) cmp.Equal (int 1)) ∷ [])

adds_a_stub_instance : answered adds_a_stub_instance_module ((codes "money", money) ∷ []) 2 (0 ∷ 0 ∷ 0 ∷ 0 ∷ 0 ∷ 0 ∷ 0 ∷ 1 ∷ []) ([]) ≡ record {
  events = event.held 2 (ref 3) ∷ event.held 3 (truth false) ∷ [];
  heap = object.foreign (object.stub_fun (codes "money") (codes "total")) ∷ object.list 2 ([])
      ∷ object.outside (term.class (codes "money.Price")) ∷ anything ∷ object.list 8 ([])
      ∷ object.outside (term.class (codes "money.Price")) ∷ [];
  ending = ended;
  choices = [];
  turns = 0;
}
unfolding answer turns_within
adds_a_stub_instance = refl

-- a call from outside that raises ends that call alone; a parameter with a default may be left out
--     def f(a):
--         raise ValueError
--     def g(a, b=2):
--         return b
abbrev returns_to_the_outside_module : Module
returns_to_the_outside_module = written (
    def "f" (parameter "a" None ∷ []) (
    · raise (Some (name "ValueError")) None ∷ []) ∷
    def "g" (parameter "a" None ∷ parameter "b" (Some (lit.Int false 2)) ∷ []) (
    · return (Some (name "b")) ∷ []) ∷ [])

returns_to_the_outside : answered returns_to_the_outside_module [] 4 (0 ∷ 0 ∷ 0 ∷ 0 ∷ 0 ∷ 0 ∷ []) (calls_function 0 [] ∷ calls_function 1 (4 ∷ []) ∷ calls_function 1 [] ∷ [])
    ≡ record {
      events = event.returned 1 (whole (pos 2)) ∷ event.returned 1 (ref 7) ∷ [];
      heap = object.function 0 ∷ object.function 1 ∷ anything ∷ native (codes "ValueError") ∷ error (codes "ValueError") ∷ anything ∷ anything ∷ anything ∷ [];
      ending = ended;
      choices = 0 ∷ [];
      turns = 0;
    }
unfolding answer turns_within
returns_to_the_outside = refl

-- without an instance the call is passed over
--     class C:
--         def __init__(self, v):
--             self.v = v
--         def get(self):
--             return self.v
abbrev calls_a_method_from_outside_module : Module
calls_a_method_from_outside_module = written (
    class "C" None (
    · method_def "__init__" (parameter "self" None ∷ parameter "v" None ∷ []) (
    ·· assign (attr (name "self") "v" ∷ []) (name "v") ∷ []) ∷
    · method_def "get" (parameter "self" None ∷ []) (
    ·· return (Some (attr (name "self") "v")) ∷ []) ∷ []) ∷ [])

calls_a_method_from_outside : answered calls_a_method_from_outside_module [] 2 (0 ∷ 0 ∷ 0 ∷ 0 ∷ 0 ∷ []) (calls_function 1 [] ∷ calls_class 0 [] ∷ calls_function 1 [] ∷ [])
    ≡ record {
      events = event.returned 0 none ∷ event.returned 1 (ref 4) ∷ [];
      heap = object.class 0 ((1, (ref 1)) ∷ (4, (ref 2)) ∷ []) ∷ object.function 0 ∷ object.function 1 ∷ object.instance 0 ((3, (ref 4)) ∷ []) ∷ anything ∷ [];
      ending = ended;
      choices = [];
      turns = 0;
    }
unfolding answer turns_within
calls_a_method_from_outside = refl

-- any instance by choice
--     class C:
--         def get(self):
--             return self
--     a = C()
--     b = C()
abbrev picks_an_instance_module : Module
picks_an_instance_module = written (
    class "C" None (
    · method_def "get" (parameter "self" None ∷ []) (
    ·· return (Some (name "self")) ∷ []) ∷ []) ∷
    set "a" (call (name "C") []) ∷
    set "b" (call (name "C") []) ∷ [])

picks_an_instance : answered picks_an_instance_module [] 3 (0 ∷ 0 ∷ 0 ∷ 0 ∷ 1 ∷ 0 ∷ []) (calls_function 0 [] ∷ []) ≡ record {
  events = event.held 3 (ref 2) ∷ event.held 4 (ref 3) ∷ event.returned 0 (ref 3) ∷ [];
  heap = object.class 0 ((1, (ref 1)) ∷ []) ∷ object.function 0 ∷ object.instance 0 ([]) ∷ object.instance 0 ([]) ∷ [];
  ending = ended;
  choices = [];
  turns = 0;
}
unfolding answer turns_within
picks_an_instance = refl

--     def f():
--         return 1
--     raise f
abbrev makes_no_calls_after_an_exception_module : Module
makes_no_calls_after_an_exception_module = written (
    def "f" [] (
    · return (Some (int 1)) ∷ []) ∷
    raise (Some (name "f")) None ∷ [])

makes_no_calls_after_an_exception : answered makes_no_calls_after_an_exception_module [] 3 (0 ∷ 0 ∷ 0 ∷ 0 ∷ 0 ∷ 0 ∷ 0 ∷ 0 ∷ 0 ∷ []) (calls_function 0 [] ∷ [])
    ≡ record {
      events = [];
      heap = object.function 0 ∷ error (codes "TypeError") ∷ [];
      ending = raised_out (ref 1);
      choices = 0 ∷ 0 ∷ 0 ∷ 0 ∷ 0 ∷ 0 ∷ [];
      turns = 3;
    }
unfolding answer turns_within
makes_no_calls_after_an_exception = refl

--     def f():
--         return 1
abbrev runs_out_of_turns_in_a_call_from_outside_module : Module
runs_out_of_turns_in_a_call_from_outside_module = written (
    def "f" [] (
    · return (Some (int 1)) ∷ []) ∷ [])

runs_out_of_turns_in_a_call_from_outside : answered runs_out_of_turns_in_a_call_from_outside_module [] 1 ([]) (calls_function 0 [] ∷ calls_function 0 [] ∷ [])
    ≡ record {
      events = event.returned 0 (whole (pos 1)) ∷ [];
      heap = object.function 0 ∷ [];
      ending = ran_out_of_turns;
      choices = [];
      turns = 0;
    }
unfolding answer turns_within
runs_out_of_turns_in_a_call_from_outside = refl

-- def dup(a: int, a: int) -> int
-- def dd(a: int, a: int = ...) -> int
abbrev twice_named : Stub
twice_named = record {
  names = [];
  funs = record {
    name = codes "dup";
    params = record { name = codes "a"; term = term.int; has_default = false } ∷ record { name = codes "a"; term = term.int; has_default = false } ∷ [];
    answer = term.int;
  }
      ∷ record {
        name = codes "dd";
        params = record { name = codes "a"; term = term.int; has_default = false } ∷ record { name = codes "a"; term = term.int; has_default = true } ∷ [];
        answer = term.int;
      } ∷ [];
  classes = [];
}

-- a keyword reaches the first parameter of its name, so the second is missing
--     from m import dup
--     x = dup(a=1)
abbrev a_keyword_reaches_one_parameter_module : Module
a_keyword_reaches_one_parameter_module = written (
    from ("m" ∷ []) (taken "dup" None ∷ []) ∷
    set "x" (call_by (name "dup") [] (("a", int 1) ∷ [])) ∷ [])

a_keyword_reaches_one_parameter : answered a_keyword_reaches_one_parameter_module ((codes "m", twice_named) ∷ []) 1 (0 ∷ 0 ∷ 0 ∷ []) ([]) ≡ record {
  events = event.fault 2 event.missing_parameter event.on_another None ∷ [];
  heap = object.foreign (object.stub_fun (codes "m") (codes "dup")) ∷ error (codes "TypeError") ∷ [];
  ending = raised_out (ref 1);
  choices = [];
  turns = 0;
}
unfolding answer turns_within
a_keyword_reaches_one_parameter = refl

-- the second takes its default
--     from m import dd
--     x = dd(a=1)
abbrev a_second_parameter_takes_its_default_module : Module
a_second_parameter_takes_its_default_module = written (
    from ("m" ∷ []) (taken "dd" None ∷ []) ∷
    set "x" (call_by (name "dd") [] (("a", int 1) ∷ [])) ∷ [])

a_second_parameter_takes_its_default : answered a_second_parameter_takes_its_default_module ((codes "m", twice_named) ∷ []) 1 (0 ∷ 0 ∷ 0 ∷ 5 ∷ []) ([])
    ≡ record {
      events = event.held 2 (whole (pos 5)) ∷ [];
      heap = object.foreign (object.stub_fun (codes "m") (codes "dd")) ∷ [];
      ending = ended;
      choices = [];
      turns = 0;
    }
unfolding answer turns_within
a_second_parameter_takes_its_default = refl

-- the first of them is given already
--     from m import dup
--     x = dup(1, a=2)
abbrev a_keyword_comes_after_a_position_module : Module
a_keyword_comes_after_a_position_module = written (
    from ("m" ∷ []) (taken "dup" None ∷ []) ∷
    set "x" (call_by (name "dup") (int 1 ∷ []) (("a", int 2) ∷ [])) ∷ [])

a_keyword_comes_after_a_position : answered a_keyword_comes_after_a_position_module ((codes "m", twice_named) ∷ []) 1 (0 ∷ 0 ∷ 0 ∷ []) ([]) ≡ record {
  events = event.fault 2 event.duplicate_keyword event.on_another None ∷ [];
  heap = object.foreign (object.stub_fun (codes "m") (codes "dup")) ∷ error (codes "TypeError") ∷ [];
  ending = raised_out (ref 1);
  choices = [];
  turns = 0;
}
unfolding answer turns_within
a_keyword_comes_after_a_position = refl
