-- What attribute references read, where attributes are stored, and `super()` (language reference, "Attribute references", "Custom
-- classes", "Class instances"; library reference, "super").
use Rattle.std.specs.Prelude.{ℕ, Bool, not, ◌||◌, ◌==◌, List, [], ◌∷◌, Option, Some, None, slice_get, if◌then◌else◌, codes}
use Rattle.std.specs.Option.{option_and_then}
use Rattle.std.specs.Str.{bytes_eq}
use Rattle.builtin_stubs.specs.declared.basic.Basic.{Basic}
use Rattle.builtin_stubs.specs.declared.basic.Basic.TheVariants as kind
use Rattle.builtin_stubs.specs.declared.native.NativeSort.TheVariants as sort
use Rattle.builtin_stubs.specs.Kinds.{kind_of_instance, kind_of_term}
use Rattle.builtin_stubs.specs.Meanings.{Native}
use Rattle.builtin_stubs.specs.Natives.{natives, method_number, function_number}
use Rattle.type_terms.specs.BuiltinNames.{is_instance_name}
use Rattle.type_terms.specs.Exceptions.{is_exception}
use Rattle.type_terms.specs.Terms as term
use Rattle.py_meaning.specs.Values.{Value, ref, Entries, entry, with_entry}
use Rattle.py_meaning.specs.Objects as object
use Rattle.py_meaning.specs.Objects.{Object, Foreign, builtin, stub_fun, stub_class, stub_method, object_at, kind_of, is_unfollowed}
use Rattle.py_meaning.specs.Events.{Holder, on_instance, on_class, on_another, fault, attribute_error}
use Rattle.py_meaning.specs.Programs.{Program, text_at, chain, exception_base, binds, or_else}
use Rattle.py_meaning.specs.StubItems.{StubClass, stub_class_at, stub_at, Item, of_type, a_function, a_class, a_method, item_in, member_of, bases, exceptions_above}
use Rattle.py_meaning.specs.Fresh.{fresh, value_of_row}
use Rattle.py_meaning.specs.Actions.{Action, gives, looks, tells, allocate, refill, anything, at_place, raise_builtin, done}

abbrev pub lacks : {A : Type 0} → (line : ℕ) → Holder → (name : ℕ) → Action A
lacks line holder name = tells (fault line attribute_error holder (Some name)) (raise_builtin (codes "AttributeError"))

abbrev pub is_init : Program → ℕ → Bool
is_init p name = bytes_eq (text_at p name) (codes "__init__")

-- ---- classes of the module

abbrev pub members_if : (class : ℕ) → Object → Option Entries → Option Entries
members_if c (object.class d es) others = if c == d then Some es else others
members_if c _ others = others

-- the members of a class, whose object is in the heap from its `class` statement on
abbrev pub members_of : List Object → (class : ℕ) → Entries
members_of [] c = []
members_of (o ∷ os) c = elim (members_if c o None) [ Some es ↦ es | None ↦ members_of os c ]

-- the value under a name in the first class that has one
abbrev pub look_up : List Object → List ℕ → (name : ℕ) → Option Value
look_up heap [] name = None
look_up heap (c ∷ cs) name = or_else (entry (members_of heap c) name) (look_up heap cs name)

-- a function that is found in a class is bound to the instance
abbrev pub bound_object : (receiver : Value) → Value → Object → Action Value
bound_object receiver v (object.function f) = allocate (object.bound receiver f)
bound_object receiver v _ = gives v

abbrev pub bound_to : (receiver : Value) → Value → Action Value
bound_to receiver (ref place) = at_place place (bound_object receiver (ref place))
bound_to receiver v = gives v

-- ---- natives as attributes

abbrev pub base_init : Action Value
base_init = elim (function_number (codes "base_init")) [ Some n ↦ allocate (object.foreign (builtin n)) | None ↦ anything ]

-- `args` is no method: it is read, and never called
abbrev pub native_attribute : (receiver : Value) → ℕ → Option Native → Action Value
native_attribute receiver number None = anything
native_attribute receiver number (Some n) =
    elim n.sort [ sort.Value ↦ value_of_row n | _ ↦ allocate (object.bound_foreign receiver (builtin number)) ]

abbrev pub kind_attribute : Program → (line : ℕ) → (receiver : Value) → Basic → Holder → (name : ℕ) → Action Value
kind_attribute p line receiver k holder name =
    elim (method_number k (text_at p name)) [ Some n ↦ native_attribute receiver n (slice_get natives n) | None ↦ lacks line holder name ]

-- ---- instances and classes

-- where neither the instance nor its classes have the name
abbrev pub otherwise_of_instance : Program → (line : ℕ) → (receiver : Value) → (class name : ℕ) → Option (List ℕ) → Action Value
otherwise_of_instance p line receiver c name (Some base) =
    elim (method_number kind.Exception (text_at p name)) [
      | Some n ↦ native_attribute receiver n (slice_get natives n)
      | None ↦ if is_init p name then base_init else lacks line (on_instance c) name
    ]
otherwise_of_instance p line receiver c name None = if is_init p name then base_init else lacks line (on_instance c) name

-- in the instance, then in its class, then along the bases
abbrev pub instance_attribute : Program → (line : ℕ) → (receiver : Value) → (class : ℕ) → Entries → (name : ℕ) → Action Value
instance_attribute p line receiver c es name =
    elim (entry es name) [
      | Some v ↦ gives v
      | None ↦ looks (λ m.
          elim (look_up m.heap (chain p c) name) [ Some v ↦ bound_to receiver v | None ↦ otherwise_of_instance p line receiver c name (exception_base p c) ])
    ]

abbrev pub class_attribute : Program → (line : ℕ) → (class name : ℕ) → Action Value
class_attribute p line c name =
    looks (λ m.
    elim (look_up m.heap (chain p c) name) [
      | Some v ↦ gives v
      | None ↦ if is_init p name then base_init else lacks line (on_class c) name
    ])

-- ---- stubs

abbrev pub item_value : Program → (home name : List ℕ) → Item → Action Value
item_value p home name (of_type t) = fresh p t
item_value p home name a_function = allocate (object.foreign (stub_fun home name))
item_value p home name a_class = allocate (object.foreign (stub_class home name))
item_value p home name (a_method c) = anything

abbrev pub module_attribute : Program → (line : ℕ) → (home : List ℕ) → (name : ℕ) → Action Value
module_attribute p line home name =
    elim (option_and_then (λ s. item_in s home (text_at p name)) (stub_at p home)) [
      | Some i ↦ item_value p home (text_at p name) i
      | None ↦ lacks line on_another name
    ]

abbrev pub member_value : Program → (receiver : Value) → (home name : List ℕ) → Item → Action Value
member_value p receiver home name (of_type t) = fresh p t
member_value p receiver home name (a_method c) = allocate (object.bound_foreign receiver (stub_method home c name))
member_value p receiver home name _ = anything

-- the exceptions' own attributes, where the bases end in a builtin exception class
abbrev pub after_bases : Program → (line : ℕ) → (receiver : Value) → List (List ℕ) → (name : ℕ) → Action Value
after_bases p line receiver [] name = lacks line on_another name
after_bases p line receiver (base ∷ more) name = kind_attribute p line receiver kind.Exception on_another name

abbrev pub stub_attribute : Program → (line : ℕ) → (receiver : Value) → StubClass → (name : ℕ) → Action Value
stub_attribute p line receiver k name =
    elim (member_of k (text_at p name)) [
      | Some i ↦ member_value p receiver k.home (text_at p name) i
      | None ↦ after_bases p line receiver (exceptions_above (bases k)) name
    ]

-- a class of Python's own and of a stub isn't followed, and a function has no attributes
abbrev pub foreign_attribute : (line : ℕ) → Foreign → (name : ℕ) → Action Value
foreign_attribute line (builtin n) name =
    elim (slice_get natives n) [ None ↦ anything | Some row ↦ elim row.sort [ sort.Class ↦ anything | _ ↦ lacks line on_another name ] ]
foreign_attribute line (stub_class home own) name = anything
foreign_attribute line _ name = lacks line on_another name

abbrev pub outside_attribute : Program → (line : ℕ) → (receiver : Value) → term.Term → (name : ℕ) → Action Value
outside_attribute p line receiver term.any name = anything
outside_attribute p line receiver (term.class own) name =
    if is_instance_name own then kind_attribute p line receiver (kind_of_instance own) on_another name
    else elim (stub_class_at p own) [ Some k ↦ stub_attribute p line receiver k name | None ↦ anything ]
outside_attribute p line receiver t name = kind_attribute p line receiver (kind_of_term t) on_another name

-- ---- any value

abbrev pub object_attribute : Program → (line : ℕ) → Value → (name : ℕ) → Object → Action Value
object_attribute p line v name (object.instance c es) = instance_attribute p line v c es name
object_attribute p line v name (object.class c es) = class_attribute p line c name
object_attribute p line v name (object.imported home) = module_attribute p line home name
object_attribute p line v name (object.foreign f) = foreign_attribute line f name
object_attribute p line v name (object.outside t) = outside_attribute p line v t name
object_attribute p line v name o = kind_attribute p line v (object.kind_of_object o) on_another name

abbrev pub read_attribute : Program → (line : ℕ) → Value → (name : ℕ) → Action Value
read_attribute p line (ref place) name = at_place place (object_attribute p line (ref place) name)
read_attribute p line v name = looks (λ m. kind_attribute p line v (kind_of m.heap v) on_another name)

-- ---- storing: an instance and a class of the module keep it, and a store into what is outside is forgotten

abbrev pub takes_attributes : Object → Bool
takes_attributes (object.outside (term.class name)) = not (is_instance_name name) || is_exception name
takes_attributes o = is_unfollowed o

abbrev pub store_in_object : (place line name : ℕ) → Value → Object → Action (Unit {0})
store_in_object place line name v (object.instance c es) = refill place (object.of_entries (with_entry es name v))
store_in_object place line name v (object.class c es) = refill place (object.of_entries (with_entry es name v))
store_in_object place line name v o = if takes_attributes o then done else lacks line on_another name

abbrev pub store_attribute : (line : ℕ) → (object : Value) → (name : ℕ) → Value → Action (Unit {0})
store_attribute line (ref place) name v = at_place place (store_in_object place line name v)
store_attribute line _ name v = lacks line on_another name

-- ---- `super().name` in a method of a class

-- the classes after one in a chain
abbrev pub after_class : List ℕ → Option ℕ → List ℕ
after_class [] own = []
after_class cs None = []
after_class (c ∷ cs) (Some own) = if c == own then cs else after_class cs (Some own)

abbrev pub first_binding : Program → List ℕ → (name : ℕ) → Option ℕ
first_binding p [] name = None
first_binding p (c ∷ cs) name = if binds p c name then Some c else first_binding p cs name

-- what the first class whose body binds the name holds now
abbrev pub super_member : Program → (line : ℕ) → (receiver : Value) → (class name : ℕ) → Option ℕ → Action Value
super_member p line receiver c name None = if is_init p name then base_init else lacks line (on_instance c) name
super_member p line receiver c name (Some owner) =
    looks (λ m. elim (entry (members_of m.heap owner) name) [ Some v ↦ bound_to receiver v | None ↦ lacks line (on_instance c) name ])

abbrev pub super_of_object : Program → (line : ℕ) → (own : Option ℕ) → Value → (name : ℕ) → Object → Action Value
super_of_object p line own v name (object.instance c es) = super_member p line v c name (first_binding p (after_class (chain p c) own) name)
super_of_object p line own v name _ = anything

-- the first argument of the method is the receiver; of one that is no instance of a class of the module nothing is known
abbrev pub super_attribute : Program → (line : ℕ) → (own : Option ℕ) → Value → (name : ℕ) → Action Value
super_attribute p line own (ref place) name = at_place place (super_of_object p line own (ref place) name)
super_attribute p line own v name = anything
