-- The names that Python's builtin module and the module `typing` have here (library reference, "Built-in Functions"; PEP 484).
use Rattle.std.specs.Prelude.{ℕ, Bool, List, [], ◌∷◌, ◌++◌, ◌||◌, codes, map}
use Rattle.std.specs.List.{list_any}
use Rattle.std.specs.Str.{bytes_eq}
use Rattle.type_terms.specs.declared.names.TheConstants.{BUILTIN_FUNCTIONS, BUILTIN_CLASSES, BUILTIN_TEXTS, TYPING_NAMES}
use Rattle.type_terms.specs.Exceptions.{exception_names, is_exception}

abbrev pub has_name : List (List ℕ) → List ℕ → Bool
has_name names name = list_any (bytes_eq name) names

abbrev pub builtin_functions : List (List ℕ)
builtin_functions = map (λ name. name.now) BUILTIN_FUNCTIONS

-- the classes without the exceptions
abbrev pub builtin_classes : List (List ℕ)
builtin_classes = map (λ name. name.now) BUILTIN_CLASSES

abbrev pub builtin_texts : List (List ℕ)
builtin_texts = map (λ name. name.now) BUILTIN_TEXTS

abbrev pub typing_names : List (List ℕ)
typing_names = map (λ name. name.now) TYPING_NAMES

-- the names that no class of a module has
abbrev pub taken_names : List (List ℕ)
taken_names = builtin_functions ++ builtin_classes ++ exception_names ++ builtin_texts ++ typing_names

-- the builtin classes whose instances a term names by their class
abbrev pub is_instance_name : List ℕ → Bool
is_instance_name name = has_name (codes "object" ∷ codes "range" ∷ []) name || is_exception name

abbrev pub is_class_name : List ℕ → Bool
is_class_name name = has_name builtin_classes name || is_exception name
