-- The numbers of functions and classes.
use Rattle.std.specs.Prelude.{◌≡◌, ℕ, suc, ◌+◌, List, [], ◌∷◌, length}
use Rattle.py_tree.specs.Tree.{statement, def, class, Stmts, no_stmts, stmt, ClassDef, class_def}
use Rattle.tree_code.specs.Programs.{Defined, id_of, methods_of}

abbrev pub class_id_of : ClassDef → ℕ
class_id_of (class_def id n base inside line) = id

-- these functions have the numbers from this one on
abbrev pub AreFrom : ℕ → List Defined → Type 0
AreFrom number [] = Unit {0}
AreFrom number (d ∷ ds) = (id_of d.fun ≡ number) × AreFrom (suc number) ds

-- Functions and classes have the next numbers in the order of the text, from these on; a class's methods come before the functions behind it
abbrev pub AreNumbered : (fun class : ℕ) → Stmts → Type 0
AreNumbered fun class_number no_stmts = Unit {0}
AreNumbered fun class_number (stmt (statement (def f) line) rest) = (id_of f ≡ fun) × AreNumbered (suc fun) class_number rest
AreNumbered fun class_number (stmt (statement (class c) line) rest) =
    (class_id_of c ≡ class_number) × AreFrom fun (methods_of c) × AreNumbered (fun + length (methods_of c)) (suc class_number) rest
AreNumbered fun class_number (stmt _ rest) = AreNumbered fun class_number rest
