-- The builtin exception classes (library reference, "Exception hierarchy"), without the groups, the warnings and those of the system.
use Rattle.std.specs.Prelude.{ℕ, Bool, false, List, [], ◌∷◌, codes, Option, Some, None, option_map, unwrap_or, if◌then◌else◌}
use Rattle.std.specs.List.{list_any, flat_map}
use Rattle.std.specs.Str.{bytes_eq}

-- classes, each with the classes directly below it
abbrev pub exception_rows : List (List ℕ × List (List ℕ))
exception_rows =
    (codes "BaseException", codes "SystemExit" ∷ codes "KeyboardInterrupt" ∷ codes "GeneratorExit" ∷ codes "Exception" ∷ [])
    ∷ (codes "Exception", codes "ArithmeticError" ∷ codes "AssertionError" ∷ codes "AttributeError" ∷ codes "EOFError" ∷ codes "ImportError" ∷ codes "LookupError" ∷ codes "MemoryError" ∷ codes "NameError" ∷ codes "OSError" ∷ codes "RuntimeError" ∷ codes "StopIteration" ∷ codes "TypeError" ∷ codes "ValueError" ∷ [])
    ∷ (codes "ArithmeticError", codes "OverflowError" ∷ codes "ZeroDivisionError" ∷ [])
    ∷ (codes "ImportError", codes "ModuleNotFoundError" ∷ [])
    ∷ (codes "LookupError", codes "IndexError" ∷ codes "KeyError" ∷ [])
    ∷ (codes "NameError", codes "UnboundLocalError" ∷ [])
    ∷ (codes "OSError", codes "FileExistsError" ∷ codes "FileNotFoundError" ∷ codes "PermissionError" ∷ codes "TimeoutError" ∷ codes "ConnectionError" ∷ [])
    ∷ (codes "RuntimeError", codes "NotImplementedError" ∷ codes "RecursionError" ∷ [])
    ∷ (codes "ValueError", codes "UnicodeError" ∷ [])
    ∷ (codes "UnicodeError", codes "UnicodeDecodeError" ∷ codes "UnicodeEncodeError" ∷ [])
    ∷ []

-- all of them, in the order in which the rows mention them
abbrev pub exception_names : List (List ℕ)
exception_names = codes "BaseException" ∷ flat_map (λ row. row.1) exception_rows

abbrev pub is_exception : List ℕ → Bool
is_exception name = list_any (bytes_eq name) exception_names

-- the class that a class is directly below
abbrev pub class_above : List (List ℕ × List (List ℕ)) → List ℕ → Option (List ℕ)
class_above [] name = None
class_above (row ∷ rows) name = if list_any (bytes_eq name) row.1 then Some row.0 else class_above rows name

-- a class and those above it, of which there are no more than the rows
abbrev pub climb : List (List ℕ × List (List ℕ)) → List ℕ → List (List ℕ)
climb [] name = name ∷ []
climb (row ∷ rows) name = name ∷ unwrap_or (option_map (λ above. climb rows above) (class_above exception_rows name)) []

-- a builtin exception class and those above it, and nothing for any other name
abbrev pub exception_chain : List ℕ → List (List ℕ)
exception_chain name = if is_exception name then climb exception_rows name else []

-- the class that a chain is of
abbrev pub class_of : List (List ℕ) → List ℕ
class_of [] = []
class_of (first ∷ above) = first

-- whether a chain is that of a class
abbrev pub heads : List ℕ → List (List ℕ) → Bool
heads name [] = false
heads name (first ∷ above) = bytes_eq name first

-- the chain of a class among chains
abbrev pub first_chain : List ℕ → List (List (List ℕ)) → List (List ℕ)
first_chain name [] = []
first_chain name (chain ∷ chains) = if heads name chain then chain else first_chain name chains
