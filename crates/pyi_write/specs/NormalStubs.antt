-- The stubs that are read back as themselves when they are written.
use Rattle.std.specs.Prelude.{◌≡◌, ℕ, ◌+◌, ◌≤◌, true, max, List, [], ◌∷◌, ◌++◌, map, chars, Option, Some, None}
use Rattle.std.specs.List.{list_all, flat_map, AllByRecursion}
use Rattle.std.specs.Str.{IsUtf8}
use Rattle.unicode_ident.specs.Ident.{is_xid_continue}
use Rattle.py_tokens.specs.Keywords.{keyword_of}
use Rattle.py_tokens.specs.Words.{begins_word, is_normal}
use Rattle.type_terms.specs.ProperStubs.{IsProperStub, stub_terms}
use Rattle.type_terms.specs.Stubs.{Name, Fun, Class, Stub}
use Rattle.type_terms.specs.Terms.{Term, any, list, dict, tuple, tuple_of, class, class_of, callable, union, Terms, no_terms, term}
use Rattle.pyi_write.specs.Orders.{is_before}

-- a name that is no keyword (language reference, "Identifiers and keywords")
pub record IsIdentifier (name : List ℕ) : Type 0 where
  pub utf8 : IsUtf8 name
  pub begins : begins_word name ≡ true
  pub goes_on : list_all is_xid_continue (chars name) ≡ true
  pub normal : is_normal name ≡ true
  pub free : keyword_of name ≡ None

-- identifiers with dots between them
pub data IsPath : List ℕ → Type 0 where
  path_one : {name : List ℕ} → IsIdentifier name → IsPath name
  path_more : {name first rest : List ℕ} → name ≡ first ++ 46 ∷ rest → IsIdentifier first → IsPath rest → IsPath name

-- each class that a type names passes
abbrev mutual
  pub AllNames : (List ℕ → Type 0) → Term → Type 0
  AllNames P (list t) = AllNames P t
  AllNames P (dict t u) = AllNames P t × AllNames P u
  AllNames P (tuple ts) = EachAllNames P ts
  AllNames P (tuple_of t) = AllNames P t
  AllNames P (class name) = P name
  AllNames P (class_of name) = P name
  AllNames P (callable t) = AllNames P t
  AllNames P (union ts) = EachAllNames P ts
  AllNames P _ = Unit {0}

  pub EachAllNames : (List ℕ → Type 0) → Terms → Type 0
  EachAllNames P no_terms = Unit {0}
  EachAllNames P (term t ts) = AllNames P t × EachAllNames P ts

-- how many brackets a type's text has open at once
abbrev mutual
  pub depth : Term → ℕ
  depth (list t) = 1 + depth t
  depth (dict t u) = 1 + max (depth t) (depth u)
  depth (tuple no_terms) = 2
  depth (tuple (term t ts)) = 1 + max (depth t) (depth_of ts)
  depth (tuple_of t) = 1 + depth t
  depth (class_of name) = 1
  depth (callable t) = 1 + depth t
  depth (union ts) = 1 + depth_of ts
  depth _ = 0

  pub depth_of : Terms → ℕ
  depth_of no_terms = 0
  depth_of (term t ts) = max (depth t) (depth_of ts)

-- the names rise by their bytes
abbrev pub Follow : List ℕ → List Name → Type 0
Follow name [] = Unit {0}
Follow name (n ∷ ns) = (is_before name n.name ≡ true) × Follow n.name ns

abbrev pub Rise : List Name → Type 0
Rise [] = Unit {0}
Rise (n ∷ ns) = Follow n.name ns

-- the names that a body gives
abbrev pub fun_names : Fun → List (List ℕ)
fun_names f = f.name ∷ map (λ p. p.name) f.params

abbrev pub given_names : List Name → List Fun → List (List ℕ)
given_names names funs = map (λ n. n.name) names ++ flat_map fun_names funs

abbrev pub base_names : Option (List ℕ) → List (List ℕ)
base_names None = []
base_names (Some base) = base ∷ []

abbrev pub class_names : Class → List (List ℕ)
class_names c = c.name ∷ base_names c.base ++ given_names c.names c.funs

abbrev pub all_names : Stub → List (List ℕ)
all_names s = given_names s.names s.funs ++ flat_map class_names s.classes

abbrev pub IsPlain : Fun → Type 0
IsPlain f = AllByRecursion (λ p. p.term ≡ any) f.params

-- a class whose attributes rise, and whose methods' parameters have no types
pub record IsOrderly (c : Class) : Type 0 where
  pub rise : Rise c.names
  pub plain : AllByRecursion IsPlain c.funs

pub record IsNormalStub (s : Stub) : Type 0 where
  pub proper : IsProperStub s
  pub identifiers : AllByRecursion IsIdentifier (all_names s)
  pub paths : AllByRecursion (AllNames IsPath) (stub_terms s)
  pub brackets : AllByRecursion (λ t. depth t ≤ 64) (stub_terms s)
  pub rise : Rise s.names
  pub plain : AllByRecursion IsPlain s.funs
  pub orderly : AllByRecursion IsOrderly s.classes
