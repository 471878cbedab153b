-- What iterating, subscripts, `is` and `isinstance` do by kinds, and the kind of a declared type.
use Rattle.std.specs.Prelude.{ℕ, Bool, List, [], map, Option, is_some, unwrap_or, if◌then◌else◌, codes}
use Rattle.std.specs.Str.{bytes_eq}
use Rattle.type_terms.specs.Exceptions.{is_exception}
use Rattle.type_terms.specs.Terms as term
use Rattle.type_terms.specs.Terms.{Term}
use Rattle.builtin_stubs.specs.declared.basic.Basic.{Basic}
use Rattle.builtin_stubs.specs.declared.basic.Basic.TheVariants as kind
use Rattle.builtin_stubs.specs.declared.kinds.Sameness.{Sameness}
use Rattle.builtin_stubs.specs.declared.kinds.Sameness.TheVariants.{Unknown}
use Rattle.builtin_stubs.specs.declared.kinds.TheConstants.{ITEMS, INDEX, IDENTITY, CLASSES}
use Rattle.builtin_stubs.specs.declared.parts.Part.{Part}
use Rattle.builtin_stubs.specs.Operands.{first_of, first_of_two}

-- what iterating a value gives; none where it can't be iterated
abbrev pub items_of : Basic → Option Part
items_of k = first_of ITEMS.now k

-- what a container gives at an index of a kind; none where it takes no such index
abbrev pub part_by : (container index : Basic) → Option Part
part_by container index = first_of_two INDEX.now container index

abbrev pub takes_index : (container index : Basic) → Bool
takes_index container index = is_some (part_by container index)

-- what a container gives at whatever index; none where it takes no index
abbrev pub part_of : (container : Basic) → Option Part
part_of container = first_of (map (λ r. (r.0, r.2)) INDEX.now) container

abbrev pub has_index : (container : Basic) → Bool
has_index container = is_some (part_of container)

abbrev pub identity : Basic → Basic → Sameness
identity left right = unwrap_or (first_of_two IDENTITY.now left right) Unknown

-- the builtin classes that a kind's values are instances of, but for `object`
abbrev pub classes_of : Basic → List (List ℕ)
classes_of k = unwrap_or (first_of (map (λ r. (r.0, map (λ name. name.now) r.1.now)) CLASSES.now) k) []

-- ---- the kind of a declared type

abbrev pub kind_of_instance : List ℕ → Basic
kind_of_instance name =
    if bytes_eq name (codes "range") then kind.Range else if is_exception name then kind.Exception else kind.Other

abbrev pub kind_of_term : Term → Basic
kind_of_term term.none = kind.NoneKind
kind_of_term term.bool = kind.Bool
kind_of_term term.int = kind.Int
kind_of_term term.float = kind.Float
kind_of_term term.str = kind.Str
kind_of_term term.bytes = kind.Bytes
kind_of_term (term.list t) = kind.List
kind_of_term (term.dict t u) = kind.Dict
kind_of_term (term.tuple ts) = kind.Tuple
kind_of_term (term.tuple_of t) = kind.Tuple
kind_of_term (term.class name) = kind_of_instance name
kind_of_term _ = kind.Other
