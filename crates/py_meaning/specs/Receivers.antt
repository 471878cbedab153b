-- What natives are bound to, and what views go through.
use Rattle.std.specs.Prelude.{◌≡◌, ℕ, ◌⊎◌, Bool, true, false, List, Option, Some, None, is_some, slice_get}
use Rattle.type_terms.specs.Stubs.{Stub}
use Rattle.type_terms.specs.Terms as term
use Rattle.builtin_stubs.specs.declared.basic.Basic.{Basic}
use Rattle.builtin_stubs.specs.declared.basic.Basic.TheVariants as kind
use Rattle.builtin_stubs.specs.declared.parts.Outcome.{Outcome}
use Rattle.builtin_stubs.specs.declared.parts.Outcome.TheVariants as outcome
use Rattle.builtin_stubs.specs.declared.parts.Part.TheVariants as part
use Rattle.builtin_stubs.specs.declared.parts.Parts.{Parts}
use Rattle.builtin_stubs.specs.declared.parts.Parts.TheVariants as parts
use Rattle.builtin_stubs.specs.Meanings.{Native, outcome_of}
use Rattle.builtin_stubs.specs.Natives.{natives, function_number, method_number}
use Rattle.py_tree.specs.Tree.{Module}
use Rattle.py_meaning.specs.Values.{Value, ref}
use Rattle.py_meaning.specs.Objects as object
use Rattle.py_meaning.specs.Objects.{Object, Foreign, builtin, object_at, kind_of}
use Rattle.py_meaning.specs.Programs.{Program, program, exception_base}
use Rattle.py_meaning.specs.StubItems.{stub_class_at, bases, exceptions_above}
use Rattle.py_meaning.specs.Truth.{has_parts}
use Rattle.py_meaning.specs.Actions.{OutsideCall}
use Rattle.py_meaning.specs.Runs.{run}

-- an instance of a class of the module or of a stub whose bases end in a builtin exception class
abbrev pub is_raised : Program → Object → Bool
is_raised p (object.instance c es) = is_some (exception_base p c)
is_raised p (object.outside (term.class name)) = elim (stub_class_at p name) [ None ↦ false | Some k ↦ has_parts (exceptions_above (bases k)) ]
is_raised p _ = false

abbrev pub is_raised_at : Program → List Object → Value → Bool
is_raised_at p heap (ref place) = is_raised p (object_at heap place)
is_raised_at p heap _ = false

-- a kind among whose methods those of a value are: its own, and that of exceptions for an instance of a class that is one
abbrev pub IsTakenAs : Program → List Object → Value → Basic → Type 0
IsTakenAs p heap v k = (kind_of heap v ≡ k) ⊎ ((k ≡ kind.Exception) × (is_raised_at p heap v ≡ true))

-- the native with a number is a method of a kind of the receiver
abbrev pub IsMethodOf : Program → List Object → Value → (number : ℕ) → Type 0
IsMethodOf p heap v number = (k : Basic) × (name : List ℕ) × IsTakenAs p heap v k × (method_number k name ≡ Some number)

abbrev pub IsFunction : (number : ℕ) → Type 0
IsFunction number = (name : List ℕ) × (function_number name ≡ Some number)

-- whether a view goes through a dict's own parts
abbrev pub is_own : Parts → Bool
is_own (parts.One part.OwnKeys) = true
is_own (parts.One part.OwnValues) = true
is_own _ = false

abbrev pub goes_through_own : Outcome → Bool
goes_through_own (outcome.View ps) = is_own ps
goes_through_own (outcome.PairView ps qs) = is_own ps
goes_through_own _ = false

abbrev pub IsDict : List Object → Option Value → Type 0
IsDict heap None = ⊥
IsDict heap (Some v) = kind_of heap v ≡ kind.Dict

-- A view of a dict's own parts has a dict.
abbrev pub HasItsDict : List Object → (number : ℕ) → Option Value → Type 0
HasItsDict heap number receiver = (row : Native) → slice_get natives number ≡ Some row → goes_through_own (outcome_of row.deed) ≡ true → IsDict heap receiver

abbrev pub HasItsRow : Program → List Object → Value → Foreign → Type 0
HasItsRow p heap v (builtin number) = IsMethodOf p heap v number
HasItsRow p heap v _ = Unit {0}

abbrev pub IsUnbound : Foreign → Type 0
IsUnbound (builtin number) = IsFunction number
IsUnbound _ = Unit {0}

-- A bound native is a method of a kind of its receiver, and an unbound one is a function or a class.
abbrev pub FitsReceiver : Program → List Object → Object → Type 0
FitsReceiver p heap (object.bound_foreign receiver f) = HasItsRow p heap receiver f
FitsReceiver p heap (object.foreign f) = IsUnbound f
FitsReceiver p heap (object.view site number receiver vs) = HasItsDict heap number receiver
FitsReceiver p heap _ = Unit {0}

-- So it is of each object in the last heap of a run.
abbrev pub ReceiversFit : Type 0
ReceiversFit =
    (m : Module) (stubs : List (List ℕ × Stub)) (n : ℕ) (choices : List ℕ) (calls : List OutsideCall) (place : ℕ) →
    let heap = (run m stubs n choices calls).heap in FitsReceiver (program m stubs) heap (object_at heap place)
