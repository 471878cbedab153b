-- The names that the rules treat apart.
use Rattle.std.specs.Prelude.{ℕ, Bool, List, ◌++◌, codes, Option, Some, None, if◌then◌else◌}
use Rattle.std.specs.Str.{bytes_eq}
use Rattle.type_terms.specs.BuiltinNames.{has_name, builtin_functions, builtin_classes, builtin_texts, typing_names}
use Rattle.type_terms.specs.Exceptions.{exception_names, is_exception}

-- the names that Python's builtin module has here
abbrev pub builtin_names : List (List ℕ)
builtin_names = builtin_functions ++ builtin_classes ++ builtin_texts ++ exception_names

abbrev pub is_builtin : List ℕ → Bool
is_builtin text = has_name builtin_names text

-- one that a stub takes from the module `typing` (PEP 484)
abbrev pub is_typing : List ℕ → Bool
is_typing text = has_name typing_names text

abbrev pub is_object : List ℕ → Bool
is_object text = bytes_eq text (codes "object")

abbrev pub is_init : List ℕ → Bool
is_init text = bytes_eq text (codes "__init__")

-- the builtin exception class of a name, if it is one
abbrev pub exception_of : List ℕ → Option (List ℕ)
exception_of text = if is_exception text then Some text else None
