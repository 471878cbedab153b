-- The objects in the heap of a run (language reference, "The standard type hierarchy", "Callable types").
use Rattle.std.specs.Prelude.{ℕ, Bool, true, false, not, ◌||◌, List, Option, slice_get, unwrap_or}
use Rattle.builtin_stubs.specs.declared.basic.Basic.{Basic}
use Rattle.builtin_stubs.specs.declared.basic.Basic.TheVariants as kind
use Rattle.builtin_stubs.specs.Kinds.{kind_of_term}
use Rattle.type_terms.specs.BuiltinNames.{is_instance_name}
use Rattle.type_terms.specs.Terms as term
use Rattle.type_terms.specs.Terms.{Term}
use Rattle.py_meaning.specs.Values.{Value, none, truth, whole, float, text, octets, ref, Entries}

-- A function or a class that the module doesn't define: of Python's own tables by its number there, of a stub by the
-- texts of the module's name and of its own.
pub data Foreign : Type 0 where
  builtin : (number : ℕ) → Foreign
  stub_fun : (home name : List ℕ) → Foreign
  stub_class : (home name : List ℕ) → Foreign
  stub_method : (home class name : List ℕ) → Foreign

-- A tuple that is written down has places of its own, and so has a pair that a view gives; any other tuple has parts alone.
pub data Layout : Type 0 where
  places : Layout
  parts : Layout

-- A list, a tuple, a dict and a view have the number of the expression that made them.
pub data Object : Type 0 where
  list : (site : ℕ) → List Value → Object
  tuple : (site : ℕ) → Layout → List Value → Object
  -- keys and values
  dict : (site : ℕ) → List (Value × Value) → Object
  -- the native that gives a view, the receiver if it is a method, and the arguments
  view : (site native : ℕ) → (receiver : Option Value) → List Value → Object
  -- an instance of a class of the module, with its attributes, and that class with its members
  instance : (class : ℕ) → Entries → Object
  class : (class : ℕ) → Entries → Object
  function : ℕ → Object
  -- a method of the module and its receiver
  bound : (receiver : Value) → (function : ℕ) → Object
  foreign : Foreign → Object
  bound_foreign : (receiver : Value) → Foreign → Object
  -- an imported module, by the text of its name
  imported : List ℕ → Object
  -- what the module didn't make, with its declared type, which is no union
  outside : Term → Object

-- what an object may have in place of its parts
pub data Filling : Type 0 where
  of_values : List Value → Filling
  of_pairs : List (Value × Value) → Filling
  of_entries : Entries → Filling

-- An object with other parts is what it was; a tuple, a view and what isn't the module's own keep theirs.
abbrev pub refilled : Object → Filling → Object
refilled (list site xs) (of_values ys) = list site ys
refilled (dict site ps) (of_pairs qs) = dict site qs
refilled (instance c es) (of_entries ds) = instance c ds
refilled (class c es) (of_entries ds) = class c ds
refilled o _ = o

-- Every reference of a run points into its heap; of any other the definitions say something all the same.
abbrev pub object_at : List Object → ℕ → Object
object_at heap place = unwrap_or (slice_get heap place) (outside term.any)

-- ---- kinds

abbrev pub kind_of_object : Object → Basic
kind_of_object (list site xs) = kind.List
kind_of_object (tuple site layout xs) = kind.Tuple
kind_of_object (dict site ps) = kind.Dict
kind_of_object (view site native receiver xs) = kind.View
kind_of_object (outside t) = kind_of_term t
kind_of_object _ = kind.Other

-- the kind by which operators and methods take a value
abbrev pub kind_of : List Object → Value → Basic
kind_of heap none = kind.NoneKind
kind_of heap (truth b) = kind.Bool
kind_of heap (whole n) = kind.Int
kind_of heap float = kind.Float
kind_of heap (text empty) = kind.Str
kind_of heap (octets empty) = kind.Bytes
kind_of heap (ref place) = kind_of_object (object_at heap place)

-- an instance of a class of a stub
abbrev pub is_stub_instance : Object → Bool
is_stub_instance (outside (term.class name)) = not (is_instance_name name)
is_stub_instance _ = false

-- a value from outside that may be anything
abbrev pub is_anything : Object → Bool
is_anything (outside term.any) = true
is_anything _ = false

abbrev pub is_anything_at : List Object → Value → Bool
is_anything_at heap (ref place) = is_anything (object_at heap place)
is_anything_at heap _ = false

-- Operators don't follow an operand that may be anything, nor an instance of a stub's class.
abbrev pub is_unfollowed : Object → Bool
is_unfollowed o = is_anything o || is_stub_instance o

abbrev pub is_unfollowed_at : List Object → Value → Bool
is_unfollowed_at heap (ref place) = is_unfollowed (object_at heap place)
is_unfollowed_at heap _ = false
