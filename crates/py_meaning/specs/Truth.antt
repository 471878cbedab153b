-- Which values count as true (language reference, "Boolean operations").
use Rattle.std.specs.Prelude.{zero, ℤ, pos, Bool, true, false, not, List, [], ◌∷◌}
use Rattle.py_meaning.specs.Values.{Value, none, truth, whole, float, text, octets, ref}
use Rattle.py_meaning.specs.Objects as object
use Rattle.py_meaning.specs.Objects.{Object}
use Rattle.py_meaning.specs.Actions.{Action, gives, takes, is_even, at_place}

-- an odd choice is true
abbrev pub by_choice : Action Bool
by_choice = takes (λ c. gives (not (is_even c)))

abbrev pub has_parts : {A : Type 0} → List A → Bool
has_parts [] = false
has_parts (x ∷ xs) = true

-- An instance of a class of the module is true, since no class here defines `__bool__` or `__len__`; of an instance from outside,
-- a builtin exception included, a choice says it.
abbrev pub truth_of_object : Object → Action Bool
truth_of_object (object.list site xs) = gives (has_parts xs)
truth_of_object (object.tuple site layout xs) = gives (has_parts xs)
truth_of_object (object.dict site ps) = gives (has_parts ps)
truth_of_object (object.view site native receiver xs) = by_choice
truth_of_object (object.outside t) = by_choice
truth_of_object _ = gives true

abbrev pub is_zero : ℤ → Bool
is_zero (pos zero) = true
is_zero _ = false

-- None, zero, the empty text and empty containers are false.
abbrev pub truth_of : Value → Action Bool
truth_of none = gives false
truth_of (truth b) = gives b
truth_of (whole n) = gives (not (is_zero n))
truth_of float = by_choice
truth_of (text empty) = gives (not empty)
truth_of (octets empty) = gives (not empty)
truth_of (ref place) = at_place place truth_of_object
