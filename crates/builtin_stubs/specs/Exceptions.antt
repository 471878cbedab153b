-- The class of a chain of exception classes.
use Rattle.std.specs.Prelude.{ℕ, List, [], ◌∷◌}

-- the first of a chain is the class that it is of
abbrev pub class_of : List (List ℕ) → List ℕ
class_of [] = []
class_of (class ∷ above) = class
