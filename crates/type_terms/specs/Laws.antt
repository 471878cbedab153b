-- What holds of the normal forms and the codes of all types.
use Rattle.std.specs.Prelude.{◌≡◌, ◌↔◌}
use Rattle.type_terms.specs.Codes.{code}
use Rattle.type_terms.specs.Terms.{Term, Terms, union, list_of}
use Rattle.type_terms.specs.Normal.{IsAmong, IsNormalOf, IsNormal}

-- a type has at most one normal form
abbrev pub OneNormalForm : Type 0
OneNormalForm = (t n m : Term) → IsNormalOf t n → IsNormalOf t m → n ≡ m

-- a normal form is its own normal form
abbrev pub NormalFormsAreNormal : Type 0
NormalFormsAreNormal = (t n : Term) → IsNormalOf t n → IsNormal n

-- two unions with the same members have one normal form
abbrev pub SameMembersSameForm : Type 0
SameMembersSameForm =
    (ts us : Terms) (n m : Term) → ((t : Term) → IsAmong t (list_of ts) ↔ IsAmong t (list_of us)) → IsNormalOf (union ts) n → IsNormalOf (union us) m → n ≡ m

-- two types of one code are one type
abbrev pub OneTypeACode : Type 0
OneTypeACode = (t u : Term) → code t ≡ code u → t ≡ u
