-- A type's shape in numbers, mark by mark from the outside in. It tells types apart whose texts are the same, as a class
-- that is named `int` and the builtin one.
use Rattle.std.specs.Prelude.{ℕ, List, [], ◌∷◌, ◌++◌}
use Rattle.type_terms.specs.Terms.{Term, any, none, bool, int, float, str, bytes, list, dict, tuple, tuple_of, class, class_of, callable, union, Terms, no_terms, term}

-- each byte has a 1 before it, and the end is a 0
abbrev pub name_code : List ℕ → List ℕ
name_code [] = 0 ∷ []
name_code (b ∷ bs) = 1 ∷ b ∷ name_code bs

abbrev mutual
  pub code : Term → List ℕ
  code any = 0 ∷ []
  code none = 1 ∷ []
  code bool = 2 ∷ []
  code int = 3 ∷ []
  code float = 4 ∷ []
  code str = 5 ∷ []
  code bytes = 6 ∷ []
  code (list item) = 7 ∷ code item
  code (dict key val) = 8 ∷ (code key ++ code val)
  code (tuple places) = 9 ∷ codes_of places
  code (tuple_of item) = 10 ∷ code item
  code (class name) = 11 ∷ name_code name
  code (class_of name) = 12 ∷ name_code name
  code (callable answer) = 13 ∷ code answer
  code (union members) = 14 ∷ codes_of members

  -- each term has a 1 before it, and the end is a 0
  pub codes_of : Terms → List ℕ
  codes_of no_terms = 0 ∷ []
  codes_of (term t ts) = 1 ∷ (code t ++ codes_of ts)
