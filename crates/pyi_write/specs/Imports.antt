-- What a stub's types ask to be imported (PEP 484, "Stub files").
use Rattle.std.specs.Prelude.{ℕ, List, [], ◌∷◌, ◌++◌, ◌==◌, codes, map, Option, Some, None, if◌then◌else◌}
use Rattle.std.specs.List.{flat_map, filter_map}
use Rattle.type_terms.specs.Stubs.{Name, Fun, Class, Stub}
use Rattle.type_terms.specs.Terms.{Term, any, list, dict, tuple, tuple_of, class, class_of, callable, union, Terms, no_terms, term}
use Rattle.type_terms.specs.Texts.{is_optional}
use Rattle.pyi_write.specs.Orders.{in_order, shown}

-- a type and all that stand in it
abbrev mutual
  pub within : Term → List Term
  within (list t) = list t ∷ within t
  within (dict t u) = dict t u ∷ within t ++ within u
  within (tuple ts) = tuple ts ∷ all_within ts
  within (tuple_of t) = tuple_of t ∷ within t
  within (callable t) = callable t ∷ within t
  within (union ts) = union ts ∷ all_within ts
  within other = other ∷ []

  pub all_within : Terms → List Term
  all_within no_terms = []
  all_within (term t ts) = within t ++ all_within ts

-- a byte before what stands before the last dot of the bytes after it
abbrev pub longer : ℕ → Option (List ℕ) → Option (List ℕ)
longer b (Some front) = Some (b ∷ front)
longer b None = if b == 46 then Some [] else None

-- what stands before the last dot of a name
abbrev pub module_of : List ℕ → Option (List ℕ)
module_of [] = None
module_of (b ∷ bs) = longer b (module_of bs)

-- the module of the class that a type names by itself
abbrev pub module_named : Term → Option (List ℕ)
module_named (class name) = module_of name
module_named (class_of name) = module_of name
module_named _ = None

-- the name of the module `typing` that a type is written with
abbrev pub typing_named : Term → Option (List ℕ)
typing_named any = Some (codes "Any")
typing_named (list t) = Some (codes "List")
typing_named (dict t u) = Some (codes "Dict")
typing_named (tuple ts) = Some (codes "Tuple")
typing_named (tuple_of t) = Some (codes "Tuple")
typing_named (class_of name) = Some (codes "Type")
typing_named (callable t) = Some (codes "Callable")
typing_named (union ts) = Some (if is_optional ts then codes "Optional" else codes "Union")
typing_named _ = None

-- the types that a body writes
abbrev pub body_terms : List Name → List Fun → List Term
body_terms names funs = map (λ n. n.term) names ++ map (λ f. f.answer) funs

abbrev pub class_terms : Class → List Term
class_terms c = body_terms (shown c.funs c.names) c.funs

-- the types that a stub writes
abbrev pub written_terms : Stub → List Term
written_terms s = body_terms (shown [] s.names) s.funs ++ flat_map class_terms s.classes

abbrev pub all_terms : Stub → List Term
all_terms s = flat_map within (written_terms s)

-- the modules whose classes a stub writes
abbrev pub modules : Stub → List (List ℕ)
modules s = in_order (filter_map module_named (all_terms s))

-- the names of `typing` that a stub writes
abbrev pub typing_names : Stub → List (List ℕ)
typing_names s = in_order (filter_map typing_named (all_terms s))
