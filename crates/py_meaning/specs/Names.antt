-- What names stand for, and how they are bound and unbound (language reference, "Naming and binding", "Resolution of names").
use Rattle.std.specs.Prelude.{ℕ, List, Option, Some, None, slice_get, if◌then◌else◌, codes}
use Rattle.std.specs.Str.{bytes_eq}
use Rattle.builtin_stubs.specs.declared.native.NativeSort.TheVariants as sort
use Rattle.builtin_stubs.specs.Meanings.{Native}
use Rattle.builtin_stubs.specs.Natives.{natives, function_number}
use Rattle.py_meaning.specs.Values.{Value, Entries, entry, with_entry, without_entry}
use Rattle.py_meaning.specs.Objects as object
use Rattle.py_meaning.specs.Objects.{builtin}
use Rattle.py_meaning.specs.Programs.{Program, text_at, is_local, is_bound}
use Rattle.py_meaning.specs.Fresh.{value_of_row}
use Rattle.py_meaning.specs.Actions.{Frame, Scope, Action, gives, looks, bind, changes, allocate, anything, raise_builtin, may_raise, done}

-- ---- reading

abbrev pub found_or : (error : List ℕ) → Option Value → Action Value
found_or error None = raise_builtin error
found_or error (Some v) = gives v

abbrev pub native_value : (number : ℕ) → Option Native → Action Value
native_value number None = anything
native_value number (Some n) = elim n.sort [ sort.Value ↦ value_of_row n | _ ↦ allocate (object.foreign (builtin number)) ]

-- the builtin under a name; of a name that isn't known, and of one that isn't followed, nothing is known
abbrev pub builtin_value : List ℕ → Action Value
builtin_value name =
    elim (function_number name) [
      | None ↦ anything
      | Some n ↦ if bytes_eq name (codes "base_init") then anything else native_value n (slice_get natives n)
    ]

-- a global of the module, then a builtin
abbrev pub global_value : Program → Scope → (name : ℕ) → Action Value
global_value p c name = if is_bound p name then found_or (codes "NameError") (entry c.globals name) else builtin_value (text_at p name)

abbrev pub value_in_frame : Program → Scope → (name : ℕ) → Option Frame → Action Value
value_in_frame p c name None = global_value p c name
value_in_frame p c name (Some f) = if is_local p f.function name then found_or (codes "UnboundLocalError") (entry f.locals name) else global_value p c name

abbrev pub load : Program → (name : ℕ) → Action Value
load p name = bind may_raise (λ x. looks (λ m. value_in_frame p m.scope name m.scope.frame))

-- ---- binding and unbinding

abbrev pub with_globals : (Entries → Entries) → Scope → Scope
with_globals f c = record c { globals = f c.globals }

abbrev pub with_locals : (Entries → Entries) → Frame → Scope → Scope
with_locals f frame c = record c { frame = Some (record frame { locals = f frame.locals }) }

-- a change of the entries in which a name stands: the locals of the function that is under way, or the globals
abbrev pub changed_in_frame : Program → (name : ℕ) → (Entries → Entries) → Option Frame → Scope → Scope
changed_in_frame p name f None c = with_globals f c
changed_in_frame p name f (Some frame) c = if is_local p frame.function name then with_locals f frame c else with_globals f c

abbrev pub bound : Program → (name : ℕ) → Value → Scope → Scope
bound p name v c = changed_in_frame p name (λ es. with_entry es name v) c.frame c

abbrev pub unbound : Program → (name : ℕ) → Scope → Scope
unbound p name c = changed_in_frame p name (λ es. without_entry es name) c.frame c

abbrev pub store : Program → (name : ℕ) → Value → Action (Unit {0})
store p name v = changes (bound p name v) done
