-- What a run, the code and the scopes say of a function under its number.
use Rattle.std.specs.Prelude.{◌≡◌, ℕ, Some, List, slice_get}
use Rattle.place_ids.specs.Names.{number_in}
use Rattle.py_tree.specs.Tree.{Module}
use Rattle.type_terms.specs.Stubs.{Stub}
use Rattle.scope_rules.specs.NameLists.{place_of}
use Rattle.scope_rules.specs.Scoped.{scoped, local}
use Rattle.scope_rules.specs.Tables.{locals_of}
use Rattle.tree_code.specs.Programs.{Defined, error_name, fun_code, fun_row as code_row, program_of}
use Rattle.py_meaning.specs.Programs.{FunRow, fun_row, fun_at, program}

-- what a run knows of a function
abbrev pub row_of : Defined → FunRow
row_of d = fun_row d.class d.fun

-- a run has its row, the program its code and its row, and the scopes the numbers of its locals
pub record IsRead (m : Module) (stubs : List (List ℕ × Stub)) (number : ℕ) (d : Defined) : Type 0 where
  pub run : fun_at (program m stubs) number ≡ Some (row_of d)
  pub code : slice_get (program_of m).codes number ≡ Some (fun_code (number_in m.names error_name) d.fun)
  pub row : slice_get (program_of m).funs number ≡ Some (code_row d)
  pub locals : (name : ℕ) → local (scoped m) number name ≡ place_of (locals_of d.fun) name
