-- How a stub writes a type (PEP 484, and the module `typing`).
use Rattle.std.specs.Prelude.{ℕ, Bool, true, false, List, [], ◌∷◌, ◌++◌, codes}
use Rattle.type_terms.specs.Terms.{Term, any, none, bool, int, float, str, bytes, list, dict, tuple, tuple_of, class, class_of, callable, union, Terms, no_terms, term}

-- texts, each with a comma and a space before it
abbrev pub after : List (List ℕ) → List ℕ
after [] = []
after (x ∷ xs) = codes ", " ++ x ++ after xs

-- texts with a comma and a space between them
abbrev pub joined : List (List ℕ) → List ℕ
joined [] = []
joined (x ∷ xs) = x ++ after xs

abbrev pub dict_text : List ℕ → List ℕ → List ℕ
dict_text key val = codes "Dict[" ++ key ++ codes ", " ++ val ++ codes "]"

-- the tuple of no places is written by an empty pair of brackets
abbrev pub tuple_text : List (List ℕ) → List ℕ
tuple_text [] = codes "Tuple[()]"
tuple_text (x ∷ xs) = codes "Tuple[" ++ joined (x ∷ xs) ++ codes "]"

abbrev pub class_of_text : List ℕ → List ℕ
class_of_text name = codes "Type[" ++ name ++ codes "]"

abbrev pub is_none : Term → Bool
is_none none = true
is_none _ = false

-- whether members are one and None
abbrev pub is_optional : Terms → Bool
is_optional (term t (term u no_terms)) = is_none u
is_optional _ = false

-- one member with None is optional
abbrev pub union_text : Bool → List (List ℕ) → List ℕ
union_text true (x ∷ xs) = codes "Optional[" ++ x ++ codes "]"
union_text _ xs = codes "Union[" ++ joined xs ++ codes "]"

abbrev mutual
  pub text : Term → List ℕ
  text any = codes "Any"
  text none = codes "None"
  text bool = codes "bool"
  text int = codes "int"
  text float = codes "float"
  text str = codes "str"
  text bytes = codes "bytes"
  text (list item) = codes "List[" ++ text item ++ codes "]"
  text (dict key val) = dict_text (text key) (text val)
  text (tuple places) = tuple_text (texts places)
  text (tuple_of item) = codes "Tuple[" ++ text item ++ codes ", ...]"
  text (class name) = name
  text (class_of name) = class_of_text name
  text (callable answer) = codes "Callable[..., " ++ text answer ++ codes "]"
  text (union members) = union_text (is_optional members) (texts members)

  pub texts : Terms → List (List ℕ)
  texts no_terms = []
  texts (term t ts) = text t ∷ texts ts
