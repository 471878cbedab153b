-- Which stub a text means.
use Rattle.std.specs.Prelude.{◌≡◌, ℕ, Bool, true, false, List, [], ◌∷◌, ◌++◌, ◌||◌, map, Option, Some, None}
use Rattle.std.specs.List.{list_any, list_all, AllZip, IsDistinct}
use Rattle.std.specs.Str.{bytes_eq}
use Rattle.py_tokens.specs.declared.token.Token.{Token}
use Rattle.py_tokens.specs.Readings.{HasTokens}
use Rattle.type_terms.specs.BuiltinNames.{has_name, taken_names, is_instance_name, is_class_name}
use Rattle.type_terms.specs.Normal.{IsNormalOf}
use Rattle.type_terms.specs.ProperStubs.{stub_terms, names_pass, has_class_named, body_names, bases_stand, EachOnce}
use Rattle.type_terms.specs.Stubs.{Name, Param, Fun, Class, Stub}
use Rattle.type_terms.specs.Terms.{Term}
use Rattle.pyi_write.specs.Imports.{module_of}
use Rattle.pyi_write.specs.Lexemes.{Lexeme, lexemes, brackets_fit}
use Rattle.pyi_write.specs.StubGrammar.{Item, AreItems, names_in, funs_in, modules_of, members_of, classes_of}

-- the stub that items declare, with its types as they are spelled
abbrev pub declared : List Item → Stub
declared items = record { names = names_in (members_of items); funs = funs_in (members_of items); classes = classes_of items }

abbrev pub is_among : List (List ℕ) → Option (List ℕ) → Bool
is_among modules None = false
is_among modules (Some m) = list_any (bytes_eq m) modules

-- whether the stub, Python or an imported module has the classes that a type names
abbrev pub is_known : Stub → List (List ℕ) → Term → Bool
is_known s modules t =
    names_pass
    (λ name. has_class_named s.classes name || (is_instance_name name || is_among modules (module_of name)))
    (λ name. has_class_named s.classes name || (is_class_name name || is_among modules (module_of name))) t

-- the second is the first with each type in its normal form
pub record IsNameForm (n m : Name) : Type 0 where
  pub name : n.name ≡ m.name
  pub term : IsNormalOf n.term m.term

pub record IsParamForm (p q : Param) : Type 0 where
  pub name : p.name ≡ q.name
  pub term : IsNormalOf p.term q.term
  pub has_default : p.has_default ≡ q.has_default

pub record IsFunForm (f g : Fun) : Type 0 where
  pub name : f.name ≡ g.name
  pub params : AllZip IsParamForm f.params g.params
  pub answer : IsNormalOf f.answer g.answer

pub record IsClassForm (c d : Class) : Type 0 where
  pub name : c.name ≡ d.name
  pub base : c.base ≡ d.base
  pub names : AllZip IsNameForm c.names d.names
  pub funs : AllZip IsFunForm c.funs d.funs

pub record IsStubForm (s t : Stub) : Type 0 where
  pub names : AllZip IsNameForm s.names t.names
  pub funs : AllZip IsFunForm s.funs t.funs
  pub classes : AllZip IsClassForm s.classes t.classes

-- The lexemes are those of a stub, and this is what it means.
pub record IsStubOf (ls : List Lexeme) (s : Stub) : Type 0 where
  pub items : List Item
  pub spelled : AreItems ls items
  pub brackets : brackets_fit 0 ls ≡ true
  -- no class has the name of something builtin
  pub own : list_any (λ c. has_name taken_names c.name) (classes_of items) ≡ false
  -- a name is declared once per body
  pub once : IsDistinct bytes_eq (body_names (declared items).names (declared items).funs ++ map (λ c. c.name) (classes_of items))
  pub once_inside : EachOnce (classes_of items)
  pub bases : bases_stand [] (classes_of items) ≡ true
  pub known : list_all (is_known (declared items) (modules_of items)) (stub_terms (declared items)) ≡ true
  pub meaning : IsStubForm (declared items) s

-- A text means a stub.
abbrev pub Means : List ℕ → Stub → Type 0
Means text s = (tokens : List Token) × (names : List (List ℕ)) × HasTokens text tokens names × IsStubOf (lexemes names tokens) s
