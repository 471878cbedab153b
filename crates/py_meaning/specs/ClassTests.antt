-- Whether a value is an instance of a class: `isinstance`, and the clauses of `try` (library reference, "isinstance"; language
-- reference, "Exceptions", "The try statement").
use Rattle.std.specs.Prelude.{ℕ, zero, suc, Bool, true, false, ◌||◌, nat_eq, List, [], ◌∷◌, length, Option, Some, None, slice_get, if◌then◌else◌, codes}
use Rattle.std.specs.List.{list_any}
use Rattle.std.specs.Str.{bytes_eq}
use Rattle.builtin_stubs.specs.declared.basic.Basic.TheVariants as kind
use Rattle.builtin_stubs.specs.declared.native.NativeSort.TheVariants as sort
use Rattle.builtin_stubs.specs.Kinds.{classes_of}
use Rattle.builtin_stubs.specs.Meanings.{Native}
use Rattle.builtin_stubs.specs.Natives.{natives}
use Rattle.type_terms.specs.BuiltinNames.{has_name}
use Rattle.type_terms.specs.Exceptions.{is_exception, exception_chain}
use Rattle.type_terms.specs.Terms as term
use Rattle.type_terms.specs.Terms.{Term}
use Rattle.py_meaning.specs.Values.{Value, ref}
use Rattle.py_meaning.specs.Objects as object
use Rattle.py_meaning.specs.Objects.{Object, Foreign, builtin, stub_fun, stub_class, stub_method, object_at, kind_of, is_anything}
use Rattle.py_meaning.specs.Programs.{Program, chain, exception_base}
use Rattle.py_meaning.specs.StubItems.{stub_class_at, dotted, chain_of_stub_class}
use Rattle.py_meaning.specs.Contents.{contents, read_all}
use Rattle.py_meaning.specs.Actions.{Action, gives, takes, looks, bind, at_place, is_even}

-- ---- classes

-- a class, as values name it: of the module, of Python's own, or of a stub by its whole name
pub data Class : Type 0 where
  of_module : ℕ → Class
  of_python : List ℕ → Class
  of_stub : List ℕ → Class

abbrev pub class_of_native : Option Native → Option Class
class_of_native None = None
class_of_native (Some n) = elim n.sort [ sort.Class ↦ Some (of_python n.name) | _ ↦ None ]

abbrev pub class_of_object : Object → Option Class
class_of_object (object.class c es) = Some (of_module c)
class_of_object (object.foreign (builtin n)) = class_of_native (slice_get natives n)
class_of_object (object.foreign (stub_class home name)) = Some (of_stub (dotted home name))
class_of_object _ = None

-- ---- the classes that an exception or an instance has

abbrev pub exceptions_of : Option (List ℕ) → List (List ℕ)
exceptions_of None = []
exceptions_of (Some base) = exception_chain base

-- whether a class is in the chain of a class of the module
abbrev pub in_module_chain : Program → (class : ℕ) → Class → Bool
in_module_chain p c (of_module d) = list_any (nat_eq d) (chain p c)
in_module_chain p c (of_python name) = has_name (exceptions_of (exception_base p c)) name
in_module_chain p c (of_stub name) = false

-- whether it is among classes by their names
abbrev pub in_named_chain : List (List ℕ) → Class → Bool
in_named_chain names (of_module d) = false
in_named_chain names (of_python name) = has_name names name
in_named_chain names (of_stub name) = has_name names name

-- the classes above an instance whose declared type is a class of this name
abbrev pub chain_named : Program → List ℕ → List (List ℕ)
chain_named p name = elim (stub_class_at p name) [ None ↦ exception_chain name | Some k ↦ chain_of_stub_class k ]

-- ---- `except` clauses

-- whether an exception has a class in its chain; of one from outside that may be anything it isn't known
abbrev pub object_has_class : Program → Object → Class → Bool
object_has_class p (object.instance c es) k = in_module_chain p c k
object_has_class p (object.outside (term.class name)) k = in_named_chain (chain_named p name) k
object_has_class p _ k = false

-- what a clause's test gives: yes, no, or either by choice
pub data Test : Type 0 where
  yes_it_has : Test
  no_it_lacks : Test
  perhaps : Test

abbrev pub test_of : Bool → Test
test_of true = yes_it_has
test_of false = no_it_lacks

abbrev pub may_pass : Test → Bool
may_pass no_it_lacks = false
may_pass _ = true

abbrev pub decided : Test → Action Bool
decided yes_it_has = gives true
decided no_it_lacks = gives false
decided perhaps = takes (λ c. gives (is_even c))

-- a class that isn't a tuple
abbrev pub test_class : Program → Object → Option Class → Test
test_class p raised None = perhaps
test_class p raised (Some k) = if is_anything raised then perhaps else test_of (object_has_class p raised k)

-- the parts of a tuple: those of one from outside are made for it
abbrev pub tuple_parts : Program → Object → Option (Action (List Value))
tuple_parts p (object.tuple site layout vs) = Some (gives vs)
tuple_parts p (object.outside (term.tuple ts)) = Some (read_all p (contents (object.outside (term.tuple ts))))
tuple_parts p (object.outside (term.tuple_of t)) = Some (read_all p (contents (object.outside (term.tuple_of t))))
tuple_parts p _ = None

-- whether some part may match, one after the other; `inner` looks at a part
abbrev pub some_part : (Value → Action Bool) → List Value → Action Bool
some_part inner [] = gives false
some_part inner (v ∷ vs) = bind (inner v) (λ one. bind (some_part inner vs) (λ others. gives (one || others)))

abbrev pub part_test : Program → (Value → Action Bool) → Object → Object → Action Bool
part_test p inner raised o =
    elim (tuple_parts p o) [ None ↦ gives (may_pass (test_class p raised (class_of_object o))) | Some parts ↦ bind parts (some_part inner) ]

abbrev pub may_match_with : Program → (Value → Action Bool) → Object → Value → Action Bool
may_match_with p inner raised (ref place) = at_place place (part_test p inner raised)
may_match_with p inner raised v = gives true

-- A tuple's parts were there before it, so no more tuples than objects stand one in the other.
abbrev pub may_match : Program → ℕ → Object → Value → Action Bool
may_match p zero raised v = may_match_with p (λ w. gives false) raised v
may_match p (suc n) raised v = may_match_with p (λ w. may_match p n raised w) raised v

-- A tuple matches by choice where some part may match.
abbrev pub tuple_test : Program → ℕ → Object → List Value → Action Bool
tuple_test p n raised vs = bind (some_part (may_match p n raised) vs) (λ some. decided (if some then perhaps else no_it_lacks))

abbrev pub object_test : Program → ℕ → Object → Object → Action Bool
object_test p n raised o =
    if is_anything raised then decided perhaps
    else elim (tuple_parts p o) [ None ↦ decided (test_class p raised (class_of_object o)) | Some parts ↦ bind parts (tuple_test p n raised) ]

-- whether the class of an `except` clause matches an exception
abbrev pub matches_object : Program → Object → Value → Action Bool
matches_object p raised (ref place) = looks (λ m. object_test p (length m.heap) raised (object_at m.heap place))
matches_object p raised v = decided perhaps

abbrev pub matches : Program → (exception class : Value) → Action Bool
matches p (ref place) k = at_place place (λ raised. matches_object p raised k)
matches p v k = decided perhaps

-- ---- `isinstance`

-- whether a class is one of these, where it isn't known of a class of a stub that isn't
abbrev pub test_named : List (List ℕ) → Class → Test
test_named names (of_module d) = no_it_lacks
test_named names (of_python name) = test_of (bytes_eq name (codes "object") || has_name names name)
test_named names (of_stub name) = if has_name names name then yes_it_has else perhaps

abbrev pub test_instance : Program → (class : ℕ) → Class → Test
test_instance p c (of_python name) = test_of (bytes_eq name (codes "object") || in_module_chain p c (of_python name))
test_instance p c (of_stub name) = perhaps
test_instance p c k = test_of (in_module_chain p c k)

abbrev pub has_exception : List (List ℕ) → Bool
has_exception names = list_any is_exception names

-- an exception of a stub's class is known by its chain, and of any other instance of such a class nothing is known
abbrev pub test_chain : List (List ℕ) → Class → Test
test_chain names k = if has_exception names then test_named names k else perhaps

abbrev pub test_term : Program → Term → Class → Test
test_term p (term.list t) k = test_named (classes_of kind.List) k
test_term p (term.dict t u) k = test_named (classes_of kind.Dict) k
test_term p (term.tuple ts) k = test_named (classes_of kind.Tuple) k
test_term p (term.tuple_of t) k = test_named (classes_of kind.Tuple) k
test_term p (term.class name) k = if bytes_eq name (codes "range") then test_named (classes_of kind.Range) k else test_chain (chain_named p name) k
test_term p _ k = perhaps

abbrev pub test_object : Program → Object → Class → Test
test_object p (object.instance c es) k = test_instance p c k
test_object p (object.list site vs) k = test_named (classes_of kind.List) k
test_object p (object.tuple site layout vs) k = test_named (classes_of kind.Tuple) k
test_object p (object.dict site ps) k = test_named (classes_of kind.Dict) k
test_object p (object.view site native receiver vs) k = test_named [] k
test_object p (object.outside t) k = test_term p t k
test_object p _ k = perhaps

abbrev pub test_value : Program → List Object → Value → Class → Test
test_value p heap (ref place) k = test_object p (object_at heap place) k
test_value p heap v k = test_named (classes_of (kind_of heap v)) k

abbrev pub class_at : List Object → Value → Option Class
class_at heap (ref place) = class_of_object (object_at heap place)
class_at heap v = None

abbrev pub instance_test : Program → List Object → Value → Option Class → Test
instance_test p heap v None = perhaps
instance_test p heap v (Some k) = test_value p heap v k
