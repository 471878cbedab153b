-- Which values belong to which types, on small heaps.
use Rattle.std.proofs.Common.{pos, true, false, List, [], ◌∷◌, Some, refl, inl, inr}
use Rattle.std.specs.Prelude.{codes}
use Rattle.py_tree.specs.Tree as tree
use Rattle.py_tree.specs.Tree.{Module, statement, no_stmts, stmt, class_def, no_members, member}
use Rattle.type_terms.specs.Terms as term
use Rattle.type_terms.specs.Terms.{Term, terms_of}
use Rattle.py_meaning.specs.Values.{Value, none, truth, whole, float, text, ref}
use Rattle.py_meaning.specs.Objects as object
use Rattle.py_meaning.specs.Objects.{Object}
use Rattle.py_meaning.specs.Programs.{Program, program}
use Rattle.py_meaning.specs.Belongs.{Belongs}
use Rattle.py_meaning.proofs.Samples.{native, error}

--     class B(ValueError):
--         pass
--     class C(B):
--         pass
abbrev classes : Module
classes = record {
  body = stmt (statement (tree.class (class_def 0 0 (Some 1) (member tree.pass_member no_members) 1)) 1) (stmt (statement (tree.class (class_def 1 2 (Some 0) (member tree.pass_member no_members) 3)) 3) no_stmts);
  names = codes "B" ∷ codes "ValueError" ∷ codes "C" ∷ [];
}

abbrev p : Program
p = program classes []

abbrev Has : List Object → Term → Value → Type 0
Has heap t v = Belongs p heap t v

-- ---- simple types

int_has_whole : Has [] term.int (whole (pos 1))
int_has_whole = tt

int_has_truth : Has [] term.int (truth true)
int_has_truth = tt

bool_has_no_whole : Has [] term.bool (whole (pos 1)) → ⊥
bool_has_no_whole h = h

str_has_text : Has [] term.str (text true)
str_has_text = tt

none_has_no_float : Has [] term.none float → ⊥
none_has_no_float h = h

-- ---- containers

abbrev mixed : List Object
mixed = object.list 0 (whole (pos 1) ∷ text false ∷ []) ∷ object.tuple 1 object.places (none ∷ ref 0 ∷ []) ∷ []

list_has_each : Has mixed (term.list (term.union (terms_of (term.int ∷ term.str ∷ [])))) (ref 0)
list_has_each = (inl tt, (inr (inl tt), tt))

list_of_ints_has_no_text : Has mixed (term.list term.int) (ref 0) → ⊥
list_of_ints_has_no_text h = h.1.0

tuple_has_each_place : Has mixed (term.tuple (terms_of (term.none ∷ term.list term.any ∷ []))) (ref 1)
tuple_has_each_place = (tt, ((tt, (tt, tt)), tt))

tuple_has_no_third_place : Has mixed (term.tuple (terms_of (term.none ∷ []))) (ref 1) → ⊥
tuple_has_no_third_place h = h.1

tuple_of_any_length : Has mixed (term.tuple_of term.any) (ref 1)
tuple_of_any_length = (tt, (tt, tt))

dict_has_pairs : Has (object.dict 0 ((text false, truth true) ∷ []) ∷ []) (term.dict term.str term.int) (ref 0)
dict_has_pairs = ((tt, tt), tt)

-- ---- classes

class_has_subclass : Has (object.instance 1 [] ∷ []) (term.class (codes "B")) (ref 0)
class_has_subclass = refl

class_lacks_superclass : Has (object.instance 0 [] ∷ []) (term.class (codes "C")) (ref 0) → ⊥
class_lacks_superclass h = cc

exception_has_class_of_module : Has (object.instance 1 [] ∷ []) (term.class (codes "Exception")) (ref 0)
exception_has_class_of_module = refl

class_of_has_subclass : Has (object.class 1 [] ∷ []) (term.class_of (codes "B")) (ref 0)
class_of_has_subclass = refl

class_of_int_has_bool : Has (native (codes "bool") ∷ []) (term.class_of (codes "int")) (ref 0)
class_of_int_has_bool = refl

callable_has_function : Has (object.function 0 ∷ []) (term.callable term.any) (ref 0)
callable_has_function = refl

callable_has_no_class : Has (object.class 0 [] ∷ []) (term.callable term.any) (ref 0) → ⊥
callable_has_no_class h = h

callable_has_no_stub_class : Has (object.foreign (object.stub_class (codes "m") (codes "K")) ∷ []) (term.callable term.any) (ref 0) → ⊥
callable_has_no_stub_class h = cc

callable_has_stub_function : Has (object.foreign (object.stub_fun (codes "m") (codes "f")) ∷ []) (term.callable term.any) (ref 0)
callable_has_stub_function = refl

-- ---- what is from outside

outside_has_its_type : Has (object.outside (term.list term.bool) ∷ []) (term.list term.bool) (ref 0)
outside_has_its_type = refl

outside_has_a_wider_type : Has (object.outside (term.list (term.class (codes "KeyError"))) ∷ []) (term.list (term.union (terms_of (term.int ∷ term.class (codes "LookupError") ∷ [])))) (ref 0)
outside_has_a_wider_type = refl

anything_is_no_int : Has (object.outside term.any ∷ []) term.int (ref 0) → ⊥
anything_is_no_int h = h

object_has_its_own : Has (error (codes "object") ∷ []) (term.class (codes "object")) (ref 0)
object_has_its_own = refl

object_lacks_instances : Has (object.instance 0 [] ∷ []) (term.class (codes "object")) (ref 0) → ⊥
object_lacks_instances h = cc

outside_bools_are_ints : Has (object.outside (term.list term.bool) ∷ []) (term.list term.int) (ref 0)
outside_bools_are_ints = refl

outside_ints_are_no_bools : Has (object.outside (term.list term.int) ∷ []) (term.list term.bool) (ref 0) → ⊥
outside_ints_are_no_bools h = cc

abbrev int_and_str : Term
int_and_str = term.tuple (terms_of (term.int ∷ term.str ∷ []))

outside_tuple_has_its_places : Has (object.outside int_and_str ∷ []) int_and_str (ref 0)
outside_tuple_has_its_places = refl

outside_tuple_has_no_other_places : Has (object.outside int_and_str ∷ []) (term.tuple (terms_of (term.str ∷ term.int ∷ []))) (ref 0) → ⊥
outside_tuple_has_no_other_places h = cc

outside_places_are_of_any_length : Has (object.outside (term.tuple (terms_of (term.int ∷ term.int ∷ []))) ∷ []) (term.tuple_of term.int) (ref 0)
outside_places_are_of_any_length = refl

any_length_is_not_two : Has (object.outside (term.tuple_of term.int) ∷ []) (term.tuple (terms_of (term.int ∷ term.int ∷ []))) (ref 0) → ⊥
any_length_is_not_two h = cc

abbrev names_and_numbers : List Object
names_and_numbers = object.outside (term.dict term.str term.int) ∷ []

outside_dict_has_its_keys_and_values : Has names_and_numbers (term.dict term.str term.int) (ref 0)
outside_dict_has_its_keys_and_values = refl

outside_dict_lacks_other_keys : Has names_and_numbers (term.dict term.int term.int) (ref 0) → ⊥
outside_dict_lacks_other_keys h = cc

outside_dict_lacks_other_values : Has names_and_numbers (term.dict term.str term.str) (ref 0) → ⊥
outside_dict_lacks_other_values h = cc

outside_classes_are_of_classes_above : Has (object.outside (term.list (term.class_of (codes "bool"))) ∷ []) (term.list (term.class_of (codes "int"))) (ref 0)
outside_classes_are_of_classes_above = refl

outside_classes_are_of_no_others : Has (object.outside (term.list (term.class_of (codes "int"))) ∷ []) (term.list (term.class_of (codes "bool"))) (ref 0) → ⊥
outside_classes_are_of_no_others h = cc

outside_callables_give_no_others : Has (object.outside (term.list (term.callable term.int)) ∷ []) (term.list (term.callable term.str)) (ref 0) → ⊥
outside_callables_give_no_others h = cc
