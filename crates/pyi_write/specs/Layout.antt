-- How a stub is laid out (PEP 484, "Stub files").
use Rattle.std.specs.Prelude.{ℕ, Bool, true, false, List, [], ◌∷◌, ◌++◌, codes, map, Option, Some, None}
use Rattle.std.specs.List.{flat_map, filter, join_with_byte}
use Rattle.type_terms.specs.Stubs.{Name, Param, Fun, Class, Stub}
use Rattle.type_terms.specs.Texts.{text, joined}
use Rattle.pyi_write.specs.Imports.{modules, typing_names}
use Rattle.pyi_write.specs.Orders.{shown}

-- `NAME: TYPE`
abbrev pub name_line : List ℕ → Name → List ℕ
name_line margin n = margin ++ (n.name ++ (codes ": " ++ (text n.term ++ 10 ∷ [])))

abbrev pub default_text : Bool → List ℕ
default_text true = codes "=..."
default_text false = []

abbrev pub param_text : Param → List ℕ
param_text p = p.name ++ default_text p.has_default

-- `def NAME(PARAMS) -> TYPE: ...`
abbrev pub fun_line : List ℕ → Fun → List ℕ
fun_line margin f = margin ++ (codes "def " ++ (f.name ++ (codes "(" ++ (joined (map param_text f.params) ++ (codes ") -> " ++ (text f.answer ++ (codes ": ..." ++ 10 ∷ [])))))))

abbrev pub body_lines : List ℕ → List Name → List Fun → List ℕ
body_lines margin names funs = flat_map (name_line margin) names ++ flat_map (fun_line margin) funs

abbrev pub base_text : Option (List ℕ) → List ℕ
base_text (Some base) = codes "(" ++ (base ++ codes ")")
base_text None = []

-- a class without attributes and methods stands in one line
abbrev pub class_body : List Name → List Fun → List ℕ
class_body [] [] = codes " ..." ++ 10 ∷ []
class_body names funs = 10 ∷ body_lines (codes "    ") names funs

abbrev pub class_text : Class → List ℕ
class_text c = codes "class " ++ (c.name ++ (base_text c.base ++ (codes ":" ++ class_body (shown c.funs c.names) c.funs)))

-- `import MODULE`
abbrev pub import_line : List ℕ → List ℕ
import_line name = codes "import " ++ (name ++ 10 ∷ [])

abbrev pub typing_line : List (List ℕ) → List ℕ
typing_line [] = []
typing_line (name ∷ names) = codes "from typing import " ++ (joined (name ∷ names) ++ 10 ∷ [])

abbrev pub import_lines : Stub → List ℕ
import_lines s = flat_map import_line (modules s) ++ typing_line (typing_names s)

-- imports, names, functions, and each class
abbrev pub parts : Stub → List (List ℕ)
parts s = import_lines s ∷ flat_map (name_line []) (shown [] s.names) ∷ flat_map (fun_line []) s.funs ∷ map class_text s.classes

abbrev pub is_full : List ℕ → Bool
is_full [] = false
is_full (b ∷ part) = true

-- the text of a stub: the parts that aren't empty, with one blank line between two of them (each ends with a line end)
abbrev pub stub_text : Stub → List ℕ
stub_text s = join_with_byte 10 (filter is_full (parts s))
