-- The code of functions and of a module, and the tables of a program.
use Rattle.std.specs.Prelude.{ℕ, suc, false, List, [], ◌∷◌, ◌++◌, map, length, Option, Some, None, codes}
use Rattle.place_ids.specs.Names.{with_name, number_in}
use Rattle.py_tree.specs.Tree.{Param, statement, def, class, Stmts, no_stmts, stmt, FunDef, fun_def, ClassDef, class_def, method, Members, no_members, member, Module}
use Rattle.stack_code.specs.declared.code.Code.{Code}
use Rattle.stack_code.specs.declared.op.Op.TheVariants as op
use Rattle.stack_code.specs.declared.op.ConstKind.TheVariants as kind
use Rattle.scope_rules.specs.Tables.{locals_of}
use Rattle.tree_code.specs.declared.rows.FunRow.{FunRow}
use Rattle.tree_code.specs.declared.rows.ClassRow.{ClassRow}
use Rattle.tree_code.specs.Pieces.{Piece, nothing, one, ◌⨾◌, Labels}
use Rattle.tree_code.specs.Statements.{Place, body_code}

-- a piece that stands by itself, from place 0 on. Outside loops no jump leads to a loop's labels
abbrev pub no_loop : Labels
no_loop = record { again = 0; out = 0 }

abbrev pub closed : Piece → (locals params : ℕ) → Code
closed a locals params =
    record {
      ops = map (λ i. i.op) (a.code no_loop 0);
      lines = map (λ i. i.line) (a.code no_loop 0);
      ranges = a.ranges 0;
      locals = locals;
      params = params;
    }

-- the name of the exception that `assert` raises ("The assert statement")
abbrev pub error_name : List ℕ
error_name = codes "AssertionError"

-- the parameters go to the locals of their numbers, from this one on
abbrev pub params_code : ℕ → ℕ → List Param → Piece
params_code line number [] = nothing
params_code line number (p ∷ ps) = one (op.Param number) line ⨾ params_code line (suc number) ps

-- where the statements of a function and those of a module stand
abbrev pub in_function : ℕ → FunDef → Place
in_function error f = record { locals = locals_of f; error = error; depth = 0; keeps = false }

abbrev pub in_module : ℕ → Place
in_module error = record { locals = []; error = error; depth = 0; keeps = false }

abbrev pub fun_piece : ℕ → FunDef → Piece
fun_piece error (fun_def id n params body line) =
    (params_code line 0 params ⨾ body_code (in_function error (fun_def id n params body line)) body ⨾ one (op.Const kind.NoneValue) line)
    ⨾ one op.Return line

abbrev pub params_of : FunDef → List Param
params_of (fun_def id n params body line) = params

abbrev pub statements_of : FunDef → Stmts
statements_of (fun_def id n params body line) = body

abbrev pub line_of : FunDef → ℕ
line_of (fun_def id n params body line) = line

abbrev pub fun_code : ℕ → FunDef → Code
fun_code error f = closed (fun_piece error f) (length (locals_of f)) (length (params_of f))

-- the line of the last statement, or 1
abbrev pub last_line : ℕ → Stmts → ℕ
last_line line no_stmts = line
last_line line (stmt (statement kind own) rest) = last_line own rest

abbrev pub module_piece : ℕ → Stmts → Piece
module_piece error body = body_code (in_module error) body ⨾ one op.End (last_line 1 body)

abbrev pub module_code : ℕ → Stmts → Code
module_code error body = closed (module_piece error body) 0 0

-- a function, and the class that it is a method of
pub record Defined : Type 0 where
  pub fun : FunDef
  pub class : Option ℕ

abbrev pub methods : ℕ → Members → List Defined
methods number no_members = []
methods number (member (method f) ms) = record { fun = f; class = Some number } ∷ methods number ms
methods number (member _ ms) = methods number ms

abbrev pub methods_of : ClassDef → List Defined
methods_of (class_def id n base inside line) = methods id inside

-- the functions and the classes in the order of the text
abbrev pub functions : Stmts → List Defined
functions no_stmts = []
functions (stmt (statement (def f) line) rest) = record { fun = f; class = None } ∷ functions rest
functions (stmt (statement (class c) line) rest) = methods_of c ++ functions rest
functions (stmt _ rest) = functions rest

abbrev pub classes : Stmts → List ClassDef
classes no_stmts = []
classes (stmt (statement (class c) line) rest) = c ∷ classes rest
classes (stmt _ rest) = classes rest

abbrev pub id_of : FunDef → ℕ
id_of (fun_def id n params body line) = id

abbrev pub name_of : FunDef → ℕ
name_of (fun_def id n params body line) = n

abbrev pub fun_row : Defined → FunRow
fun_row d = record { name = name_of d.fun; params = map (λ p. p.name) (params_of d.fun); defaults = map (λ p. p.default) (params_of d.fun); class = d.class }

abbrev pub class_row : ClassDef → ClassRow
class_row (class_def id n base inside line) = record { name = n; base = base; methods = map (λ d. id_of d.fun) (methods id inside) }

-- the codes and the tables of a program; functions and classes stand under their numbers
pub record Program : Type 0 where
  pub body : Code
  pub codes : List Code
  pub names : List (List ℕ)
  pub funs : List FunRow
  pub classes : List ClassRow

-- the program of a module; its names are the module's and AssertionError, which stands at the end where it is new
abbrev pub program_of : Module → Program
program_of m =
    let error = number_in m.names error_name in
    record {
      body = module_code error m.body;
      codes = map (λ d. fun_code error d.fun) (functions m.body);
      names = with_name m.names error_name;
      funs = map fun_row (functions m.body);
      classes = map class_row (classes m.body);
    }
