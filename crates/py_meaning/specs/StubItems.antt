-- What stands in the stubs that are given: their items, their classes with the bases, and their types as a run reads them (PEP 484).
use Rattle.std.specs.Prelude.{ℕ, zero, suc, List, [], ◌∷◌, ◌++◌, map, length, Option, Some, None, filter_map, if◌then◌else◌, codes}
use Rattle.std.specs.Option.{option_and_then}
use Rattle.std.specs.Str.{bytes_eq}
use Rattle.type_terms.specs.Exceptions.{exception_chain}
use Rattle.type_terms.specs.Normal.{has_any}
use Rattle.type_terms.specs.Ordered.{united, exception_of, in_order}
use Rattle.type_terms.specs.ProperStubs.{has_class_named}
use Rattle.type_terms.specs.Stubs as stubs
use Rattle.type_terms.specs.Stubs.{Stub}
use Rattle.type_terms.specs.StubSets.{stub_named}
use Rattle.type_terms.specs.Terms.{Term, any, list, dict, tuple, tuple_of, class, class_of, callable, union, Terms, no_terms, term, list_of}
use Rattle.py_meaning.specs.Programs.{Program, or_else}

-- ---- names

-- the whole name of a class of a module
abbrev pub dotted : (home name : List ℕ) → List ℕ
dotted home name = home ++ codes "." ++ name

-- texts with dots between them
abbrev pub joined_by_dots : List (List ℕ) → List ℕ
joined_by_dots [] = []
joined_by_dots (text ∷ []) = text
joined_by_dots (text ∷ texts) = dotted text (joined_by_dots texts)

abbrev pub name_in : List stubs.Name → List ℕ → Option stubs.Name
name_in [] name = None
name_in (n ∷ ns) name = if bytes_eq name n.name then Some n else name_in ns name

abbrev pub fun_in : List stubs.Fun → List ℕ → Option stubs.Fun
fun_in [] name = None
fun_in (f ∷ fs) name = if bytes_eq name f.name then Some f else fun_in fs name

abbrev pub class_in : List stubs.Class → List ℕ → Option stubs.Class
class_in [] name = None
class_in (c ∷ cs) name = if bytes_eq name c.name then Some c else class_in cs name

-- ---- types: a class of the stub's own stands for its whole name, and a union is put in order again

abbrev pub own_name : Stub → (home name : List ℕ) → List ℕ
own_name s home name = if has_class_named s.classes name then dotted home name else name

abbrev pub union_of : List Term → Term
union_of ts = if has_any ts then any else united (in_order (filter_map exception_of ts) ts)

abbrev mutual
  pub read_type : Stub → (home : List ℕ) → Term → Term
  read_type s home (list t) = list (read_type s home t)
  read_type s home (dict t u) = dict (read_type s home t) (read_type s home u)
  read_type s home (tuple ts) = tuple (read_types s home ts)
  read_type s home (tuple_of t) = tuple_of (read_type s home t)
  read_type s home (class name) = class (own_name s home name)
  read_type s home (class_of name) = class_of (own_name s home name)
  read_type s home (callable t) = callable (read_type s home t)
  read_type s home (union ts) = union_of (list_of (read_types s home ts))
  read_type s home t = t

  pub read_types : Stub → (home : List ℕ) → Terms → Terms
  read_types s home no_terms = no_terms
  read_types s home (term t ts) = term (read_type s home t) (read_types s home ts)

-- ---- classes

-- a class of a stub, with the module's name and the stub
pub record StubClass : Type 0 where
  pub home : List ℕ
  pub stub : Stub
  pub class : stubs.Class

abbrev pub found_among : (home : List ℕ) → Stub → List stubs.Class → List ℕ → Option StubClass
found_among home s [] name = None
found_among home s (c ∷ cs) name = if bytes_eq name (dotted home c.name) then Some (record { home = home; stub = s; class = c }) else found_among home s cs name

abbrev pub class_under : List (List ℕ × Stub) → List ℕ → Option StubClass
class_under [] name = None
class_under (g ∷ gs) name = or_else (found_among g.0 g.1 g.1.classes name) (class_under gs name)

-- the class under a whole name
abbrev pub stub_class_at : Program → List ℕ → Option StubClass
stub_class_at p name = class_under p.stubs name

-- a class and its bases in the same stub, of which there are no more than so many
abbrev pub bases_from : ℕ → List stubs.Class → Option stubs.Class → List stubs.Class
bases_from n classes None = []
bases_from zero classes (Some c) = c ∷ []
bases_from (suc n) classes (Some c) = c ∷ bases_from n classes (option_and_then (class_in classes) c.base)

abbrev pub bases : StubClass → List stubs.Class
bases k = bases_from (length k.stub.classes) k.stub.classes (Some k.class)

-- the builtin exception classes above the last of them
abbrev pub exceptions_above : List stubs.Class → List (List ℕ)
exceptions_above [] = []
exceptions_above (c ∷ []) = elim c.base [ None ↦ [] | Some base ↦ exception_chain base ]
exceptions_above (c ∷ cs) = exceptions_above cs

-- the whole names of a class and its bases, and then the builtin exception classes above them
abbrev pub chain_of_stub_class : StubClass → List (List ℕ)
chain_of_stub_class k = map (λ c. dotted k.home c.name) (bases k) ++ exceptions_above (bases k)

-- a method of a class, along its bases
abbrev pub method_among : List stubs.Class → List ℕ → Option (stubs.Class × stubs.Fun)
method_among [] name = None
method_among (c ∷ cs) name = elim (fun_in c.funs name) [ None ↦ method_among cs name | Some f ↦ Some (c, f) ]

-- ---- items

-- what a stub's module, and a class of a stub, has under a name
pub data Item : Type 0 where
  of_type : Term → Item
  a_function : Item
  a_class : Item
  a_method : (class : List ℕ) → Item

abbrev pub item_in : Stub → (home name : List ℕ) → Option Item
item_in s home name =
    elim (name_in s.names name) [
      | Some n ↦ Some (of_type (read_type s home n.term))
      | None ↦ elim (fun_in s.funs name) [ Some f ↦ Some a_function | None ↦ elim (class_in s.classes name) [ Some c ↦ Some a_class | None ↦ None ] ]
    ]

abbrev pub member_among : Stub → (home : List ℕ) → List stubs.Class → (name : List ℕ) → Option Item
member_among s home [] name = None
member_among s home (c ∷ cs) name =
    elim (name_in c.names name) [
      | Some n ↦ Some (of_type (read_type s home n.term))
      | None ↦ elim (fun_in c.funs name) [ Some f ↦ Some (a_method c.name) | None ↦ member_among s home cs name ]
    ]

-- an attribute or a method of a class, along its bases
abbrev pub member_of : StubClass → List ℕ → Option Item
member_of k name = member_among k.stub k.home (bases k) name

abbrev pub stub_at : Program → List ℕ → Option Stub
stub_at p home = stub_named p.stubs home
