-- What holds of every stub that is given.
use Rattle.std.specs.Prelude.{◌≡◌, ℕ, Bool, true, false, List, [], ◌∷◌, ◌++◌, ◌||◌, ◌&&◌, ◌==◌, codes, map, Option, Some, None}
use Rattle.std.specs.List.{list_any, list_all, flat_map, IsDistinct}
use Rattle.std.specs.Str.{bytes_eq}
use Rattle.type_terms.specs.BuiltinNames.{has_name, taken_names, is_instance_name, is_class_name}
use Rattle.type_terms.specs.Exceptions.{is_exception}
use Rattle.type_terms.specs.Normal.{IsAmong, IsNormal}
use Rattle.type_terms.specs.Stubs.{Name, Fun, Class, Stub}
use Rattle.type_terms.specs.Terms.{Term, list, dict, tuple, tuple_of, class, class_of, callable, union, Terms, no_terms, term}

-- ---- the types that a stub names

abbrev pub fun_terms : Fun → List Term
fun_terms f = map (λ p. p.term) f.params ++ f.answer ∷ []

abbrev pub body_terms : List Name → List Fun → List Term
body_terms names funs = map (λ n. n.term) names ++ flat_map fun_terms funs

abbrev pub stub_terms : Stub → List Term
stub_terms s = body_terms s.names s.funs ++ flat_map (λ c. body_terms c.names c.funs) s.classes

-- whether each class that a term names passes: one test for instances, and one for the class itself
abbrev mutual
  pub names_pass : (List ℕ → Bool) → (List ℕ → Bool) → Term → Bool
  names_pass p q (list t) = names_pass p q t
  names_pass p q (dict t u) = names_pass p q t && names_pass p q u
  names_pass p q (tuple ts) = all_names_pass p q ts
  names_pass p q (tuple_of t) = names_pass p q t
  names_pass p q (class name) = p name
  names_pass p q (class_of name) = q name
  names_pass p q (callable t) = names_pass p q t
  names_pass p q (union ts) = all_names_pass p q ts
  names_pass p q _ = true

  pub all_names_pass : (List ℕ → Bool) → (List ℕ → Bool) → Terms → Bool
  all_names_pass p q no_terms = true
  all_names_pass p q (term t ts) = names_pass p q t && all_names_pass p q ts

-- a name with a dot is that of another module's class
abbrev pub is_qualified : List ℕ → Bool
is_qualified name = list_any (λ b. b == 46) name

abbrev pub has_class_named : List Class → List ℕ → Bool
has_class_named classes name = list_any (λ c. bytes_eq name c.name) classes

-- whether the stub, Python or another module has the classes that a term names
abbrev pub is_known : Stub → Term → Bool
is_known s t =
    names_pass
    (λ name. has_class_named s.classes name || (is_instance_name name || is_qualified name))
    (λ name. has_class_named s.classes name || (is_class_name name || is_qualified name)) t

-- ---- bodies and bases

abbrev pub body_names : List Name → List Fun → List (List ℕ)
body_names names funs = map (λ n. n.name) names ++ map (λ f. f.name) funs

-- a base is one of the classes before, `object` or a builtin exception class
abbrev pub is_base : List Class → Option (List ℕ) → Bool
is_base before None = true
is_base before (Some name) = has_class_named before name || (has_name (codes "object" ∷ []) name || is_exception name)

abbrev pub bases_stand : List Class → List Class → Bool
bases_stand before [] = true
bases_stand before (c ∷ cs) = is_base before c.base && bases_stand (before ++ c ∷ []) cs

-- each class declares a name once
abbrev pub EachOnce : List Class → Type 0
EachOnce [] = Unit {0}
EachOnce (c ∷ cs) = IsDistinct bytes_eq (body_names c.names c.funs) × EachOnce cs

pub record IsProperStub (s : Stub) : Type 0 where
  -- the types are in normal form
  pub normal : (t : Term) → IsAmong t (stub_terms s) → IsNormal t
  -- no class has the name of something builtin
  pub own : list_any (λ c. has_name taken_names c.name) s.classes ≡ false
  -- a name is declared once per body
  pub once : IsDistinct bytes_eq (body_names s.names s.funs ++ map (λ c. c.name) s.classes)
  pub once_inside : EachOnce s.classes
  pub bases : bases_stand [] s.classes ≡ true
  pub known : list_all (is_known s) (stub_terms s) ≡ true

-- a stub may be added under a name that has none yet
pub record MayBeAdded (given : List (List ℕ × Stub)) (name : List ℕ) (s : Stub) : Type 0 where
  pub new : list_any (λ g. bytes_eq name g.0) given ≡ false
  pub proper : IsProperStub s
