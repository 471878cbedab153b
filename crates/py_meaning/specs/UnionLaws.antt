-- Which values a union has.
use Rattle.std.specs.Prelude.{◌≡◌, ◌≢◌, ◌↔◌, ℕ, false, List, [], map}
use Rattle.std.specs.List.{list_any}
use Rattle.type_terms.specs.Exceptions.{is_exception}
use Rattle.type_terms.specs.Normal.{IsAmong, IsUnionOf}
use Rattle.type_terms.specs.Terms.{Term}
use Rattle.py_meaning.specs.Values.{Value}
use Rattle.py_meaning.specs.Objects.{Object}
use Rattle.py_meaning.specs.Programs.{Program, chain, class_text}
use Rattle.py_meaning.specs.Belongs.{Belongs}

-- a value of one of some types
abbrev pub BelongsToSome : Program → List Object → List Term → Value → Type 0
BelongsToSome p heap ts v = (t : Term) × IsAmong t ts × Belongs p heap t v

-- No class of the module has the name of a builtin exception class.
abbrev pub LeavesExceptions : Program → Type 0
LeavesExceptions p = (class : ℕ) → list_any is_exception (map (class_text p) (chain p class)) ≡ false

-- A value belongs to the normal form of a union of some types exactly where it belongs to one of them.
abbrev pub UnionsHaveTheirMembers : Type 0
UnionsHaveTheirMembers =
    (p : Program) (heap : List Object) (ts : List Term) (n : Term) (v : Value) →
    LeavesExceptions p → ts ≢ [] → IsUnionOf ts n → (Belongs p heap n v ↔ BelongsToSome p heap ts v)
