-- What a run needs of a module before it begins: the texts of its names, its scopes, its functions by their numbers, and the stubs.
-- All that is static is cited here, and nowhere else (language reference, "Naming and binding").
use Rattle.std.specs.Prelude.{ℕ, Bool, List, [], ◌∷◌, ◌++◌, Option, Some, None, is_some, option_map, unwrap_or, slice_get, position, codes}
use Rattle.std.specs.Option.{option_and_then}
use Rattle.std.specs.Str.{bytes_eq}
use Rattle.py_tree.specs.Tree as tree
use Rattle.py_tree.specs.Tree.{statement, def, Stmts, no_stmts, stmt, FunDef, fun_def, ClassDef, class_def, Members, no_members, member, method, Param, Module}
use Rattle.type_terms.specs.Stubs.{Stub}
use Rattle.scope_rules.specs.NameLists.{has_name, text_of}
use Rattle.scope_rules.specs.Scoped as scopes
use Rattle.scope_rules.specs.Scoped.{Scoped, scoped}

-- a function, and the class that it is a method of
pub record FunRow : Type 0 where
  pub name : ℕ
  pub params : List Param
  pub body : Stmts
  pub class : Option ℕ

pub record Program : Type 0 where
  pub texts : List (List ℕ)
  pub body : Stmts
  pub scopes : Scoped
  pub funs : List FunRow
  -- each with the name of its module
  pub stubs : List (List ℕ × Stub)

abbrev pub fun_row : Option ℕ → FunDef → FunRow
fun_row class (fun_def id name params body line) = record { name = name; params = params; body = body; class = class }

abbrev pub method_rows : ℕ → Members → List FunRow
method_rows class no_members = []
method_rows class (member (method f) rest) = fun_row (Some class) f ∷ method_rows class rest
method_rows class (member _ rest) = method_rows class rest

abbrev pub class_rows : ClassDef → List FunRow
class_rows (class_def id name base members line) = method_rows id members

-- in the order in which functions are numbered
abbrev pub fun_rows : Stmts → List FunRow
fun_rows no_stmts = []
fun_rows (stmt (statement (def f) line) rest) = fun_row None f ∷ fun_rows rest
fun_rows (stmt (statement (tree.class c) line) rest) = class_rows c ++ fun_rows rest
fun_rows (stmt _ rest) = fun_rows rest

abbrev pub program : Module → List (List ℕ × Stub) → Program
program m stubs = record { texts = m.names; body = m.body; scopes = scoped m; funs = fun_rows m.body; stubs = stubs }

-- ---- names

abbrev pub text_at : Program → ℕ → List ℕ
text_at p name = text_of p.texts name

abbrev pub name_number : Program → List ℕ → Option ℕ
name_number p text = position (bytes_eq text) p.texts

-- A name that a function binds anywhere in its body is local to the whole body.
abbrev pub is_local : Program → (function name : ℕ) → Bool
is_local p function name = is_some (scopes.local p.scopes function name)

abbrev pub is_bound : Program → ℕ → Bool
is_bound p name = has_name p.scopes.bound name

-- the names of a module that a stub prints, in its order
abbrev pub printed : Program → List ℕ
printed p = p.scopes.printed

-- ---- functions and classes

abbrev pub fun_at : Program → ℕ → Option FunRow
fun_at p function = slice_get p.funs function

abbrev pub class_of_fun : Program → ℕ → Option ℕ
class_of_fun p function = option_and_then (λ row. row.class) (fun_at p function)

-- a class and its bases, from the nearest on
abbrev pub chain : Program → ℕ → List ℕ
chain p class = scopes.chain p.scopes class

-- the builtin exception class at the end of a class's bases
abbrev pub exception_base : Program → ℕ → Option (List ℕ)
exception_base p class = scopes.base_row p.scopes class

-- the text of a class's name
abbrev pub class_text : Program → ℕ → List ℕ
class_text p class = text_of p.texts (unwrap_or (option_map (λ row. row.name) (slice_get p.scopes.classes class)) 0)

-- whether a class's own body binds a name
abbrev pub binds : Program → (class name : ℕ) → Bool
binds p class name = scopes.binds p.scopes class name

abbrev pub method_of : Program → (class name : ℕ) → Option ℕ
method_of p class name = scopes.method p.scopes class name

abbrev pub or_else : {A : Type 0} → Option A → Option A → Option A
or_else None o = o
or_else (Some a) o = Some a

abbrev pub first_method : Program → List ℕ → ℕ → Option ℕ
first_method p [] name = None
first_method p (c ∷ cs) name = or_else (method_of p c name) (first_method p cs name)

-- the first `__init__` along a class and its bases
abbrev pub init_of : Program → ℕ → Option ℕ
init_of p class = option_and_then (first_method p (chain p class)) (name_number p (codes "__init__"))
