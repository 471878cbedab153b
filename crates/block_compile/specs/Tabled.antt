-- The tables of a program, as they grow.
use Rattle.std.specs.Prelude.{◌≡◌, ℕ, List, [], ◌∷◌, ◌++◌, map, drop}
use Rattle.py_tree.specs.Tree.{Stmts, ClassDef}
use Rattle.stack_code.specs.declared.code.Code.{Code}
use Rattle.tree_code.specs.declared.rows.FunRow.{FunRow}
use Rattle.tree_code.specs.declared.rows.ClassRow.{ClassRow}
use Rattle.tree_code.specs.Programs.{Defined, fun_code, fun_row, class_row, methods_of, functions, classes}

pub record Tabled : Type 0 where
  pub codes : List Code
  pub funs : List FunRow
  pub classes : List ClassRow
  pub class_names : List ℕ

abbrev pub no_tables : Tabled
no_tables = record { codes = []; funs = []; classes = []; class_names = [] }

abbrev pub with_fun : ℕ → Defined → Tabled → Tabled
with_fun error d t = record t { codes = t.codes ++ fun_code error d.fun ∷ []; funs = t.funs ++ fun_row d ∷ [] }

abbrev pub with_funs : ℕ → List Defined → Tabled → Tabled
with_funs error ds t = record t { codes = t.codes ++ map (λ d. fun_code error d.fun) ds; funs = t.funs ++ map fun_row ds }

abbrev pub with_class : ℕ → ClassDef → Tabled → Tabled
with_class error c t = record (with_funs error (methods_of c) t) { classes = t.classes ++ class_row c ∷ []; class_names = t.class_names ++ (class_row c).name ∷ [] }

-- the functions and the classes of statements
abbrev pub with_stmts : ℕ → Stmts → Tabled → Tabled
with_stmts error body t =
    record (with_funs error (functions body) t) {
      classes = t.classes ++ map class_row (classes body);
      class_names = t.class_names ++ map (λ c. (class_row c).name) (classes body);
    }

-- the next functions are those with these locals
abbrev pub NextAre : List (List ℕ) → ℕ → List (List ℕ) → Type 0
NextAre locals number these = (others : List (List ℕ)) × (drop number locals ≡ these ++ others)
