-- The normal form of a type (PEP 484, "Union types"; PEP 604): what the members of a union are, and that they stand in order.
use Rattle.std.specs.Prelude.{◌≡◌, ℕ, Bool, true, false, List, [], ◌∷◌, ◌++◌}
use Rattle.std.specs.List.{list_any}
use Rattle.std.specs.Str.{bytes_eq}
use Rattle.type_terms.specs.Exceptions.{exception_chain}
use Rattle.type_terms.specs.Order.{IsBefore}
use Rattle.type_terms.specs.Terms.{Term, any, none, bool, int, float, str, bytes, list, dict, tuple, tuple_of, class, class_of, callable, union, Terms, no_terms, term, terms_of, list_of}

-- a union has its members as parts, any other type itself
abbrev pub parts : Term → List Term
parts (union members) = list_of members
parts t = t ∷ []

abbrev pub parts_of : Terms → List Term
parts_of no_terms = []
parts_of (term t ts) = parts t ++ parts_of ts

abbrev pub is_any : Term → Bool
is_any any = true
is_any _ = false

abbrev pub has_any : List Term → Bool
has_any ts = list_any is_any ts

abbrev pub is_class : List ℕ → Term → Bool
is_class name (class other) = bytes_eq name other
is_class name _ = false

abbrev pub has_class : List Term → List ℕ → Bool
has_class ts name = list_any (is_class name) ts

-- the classes above the first of a chain
abbrev pub above : List (List ℕ) → List (List ℕ)
above [] = []
above (first ∷ rest) = rest

-- whether a type is a builtin exception class with a class above it beside it
abbrev pub is_absorbed : List Term → Term → Bool
is_absorbed ts (class name) = list_any (has_class ts) (above (exception_chain name))
is_absorbed ts _ = false

pub data IsAmong (t : Term) : List Term → Type 0 where
  here : {ts : List Term} → IsAmong t (t ∷ ts)
  there : {u : Term} {ts : List Term} → IsAmong t ts → IsAmong t (u ∷ ts)

-- a part that stays
pub record IsKept (ts : List Term) (t : Term) : Type 0 where
  pub among : IsAmong t ts
  pub stays : is_absorbed ts t ≡ false

abbrev pub IsBeforeAll : Term → List Term → Type 0
IsBeforeAll t [] = Unit {0}
IsBeforeAll t (u ∷ us) = IsBefore t u × IsBeforeAll t us

-- each term stands before all that follow, so none stands twice
abbrev pub Rises : List Term → Type 0
Rises [] = Unit {0}
Rises (t ∷ ts) = IsBeforeAll t ts × Rises ts

-- the members of a union of such parts: those that stay, in order
pub record AreMembersOf (ts members : List Term) : Type 0 where
  pub rises : Rises members
  pub stay : (t : Term) → IsAmong t members → IsKept ts t
  pub all : (t : Term) → IsKept ts t → IsAmong t members

-- the normal form of a union of such parts
pub data IsUnionOf (ts : List Term) : Term → Type 0 where
  -- `Any` takes all
  takes_all : has_any ts ≡ true → IsUnionOf ts any
  -- no member is `Any`
  nothing : has_any ts ≡ false → AreMembersOf ts [] → IsUnionOf ts any
  -- one member stands alone
  alone : {t : Term} → has_any ts ≡ false → AreMembersOf ts (t ∷ []) → IsUnionOf ts t
  several : {t u : Term} {us : List Term} → has_any ts ≡ false → AreMembersOf ts (t ∷ u ∷ us) → IsUnionOf ts (union (terms_of (t ∷ u ∷ us)))

-- a term and its normal form: the parts of a type are in normal form, and so is each union of them
abbrev mutual
  pub IsNormalOf : Term → Term → Type 0
  IsNormalOf any any = Unit {0}
  IsNormalOf none none = Unit {0}
  IsNormalOf bool bool = Unit {0}
  IsNormalOf int int = Unit {0}
  IsNormalOf float float = Unit {0}
  IsNormalOf str str = Unit {0}
  IsNormalOf bytes bytes = Unit {0}
  IsNormalOf (list t) (list n) = IsNormalOf t n
  IsNormalOf (dict t u) (dict n m) = IsNormalOf t n × IsNormalOf u m
  IsNormalOf (tuple ts) (tuple ns) = AreNormalOf ts ns
  IsNormalOf (tuple_of t) (tuple_of n) = IsNormalOf t n
  IsNormalOf (class name) (class other) = name ≡ other
  IsNormalOf (class_of name) (class_of other) = name ≡ other
  IsNormalOf (callable t) (callable n) = IsNormalOf t n
  IsNormalOf (union ts) n = (ns : Terms) × AreNormalOf ts ns × IsUnionOf (parts_of ns) n
  IsNormalOf _ _ = ⊥

  pub AreNormalOf : Terms → Terms → Type 0
  AreNormalOf no_terms no_terms = Unit {0}
  AreNormalOf (term t ts) (term n ns) = IsNormalOf t n × AreNormalOf ts ns
  AreNormalOf _ _ = ⊥

-- a term that is its own normal form
abbrev pub IsNormal : Term → Type 0
IsNormal t = IsNormalOf t t
