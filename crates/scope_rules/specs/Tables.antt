-- What a module's names stand for, read off its tree.
use Rattle.std.specs.Prelude.{ℕ, nat_eq, List, [], ◌∷◌, ◌++◌, Option, Some, None, if◌then◌else◌}
use Rattle.py_tree.specs.Tree.{statement, def, class, Stmts, no_stmts, stmt, FunDef, fun_def, ClassDef, class_def, method, Members, no_members, member}
use Rattle.scope_rules.specs.declared.mention.Mention.{Mention}
use Rattle.scope_rules.specs.declared.method_row.MethodRow.{MethodRow}
use Rattle.scope_rules.specs.Builtins.{exception_of}
use Rattle.scope_rules.specs.NameLists.{text_of}
use Rattle.scope_rules.specs.Named.{named}
use Rattle.scope_rules.specs.Roles.{binds}
use Rattle.scope_rules.specs.Uses.{uses, uses_of_fun, uses_of_class}

abbrev pub method_uses : Members → List Mention
method_uses no_members = []
method_uses (member (method f) rest) = uses_of_fun f ++ method_uses rest
method_uses (member _ rest) = method_uses rest

abbrev pub members_of : ClassDef → Members
members_of (class_def id name base inside line) = inside

-- what stands in functions
abbrev pub definition_uses : Stmts → List Mention
definition_uses no_stmts = []
definition_uses (stmt (statement (def f) line) rest) = uses_of_fun f ++ definition_uses rest
definition_uses (stmt (statement (class c) line) rest) = method_uses (members_of c) ++ definition_uses rest
definition_uses (stmt _ rest) = definition_uses rest

-- what stands in a module and its functions
abbrev pub everything : Stmts → List Mention
everything body = uses body ++ definition_uses body

-- A function's names: its parameters in order, then the others in the order of their first binding.
abbrev pub locals_of : FunDef → List ℕ
locals_of f = named binds [] (uses_of_fun f)

abbrev pub method_locals : Members → List (List ℕ)
method_locals no_members = []
method_locals (member (method f) rest) = locals_of f ∷ method_locals rest
method_locals (member _ rest) = method_locals rest

-- those of each function, in the order in which functions are numbered
abbrev pub locals : Stmts → List (List ℕ)
locals no_stmts = []
locals (stmt (statement (def f) line) rest) = locals_of f ∷ locals rest
locals (stmt (statement (class c) line) rest) = method_locals (members_of c) ++ locals rest
locals (stmt _ rest) = locals rest

abbrev pub method_row : FunDef → MethodRow
method_row (fun_def id name params body line) = record { name = name; fun = id }

abbrev pub method_rows : Members → List MethodRow
method_rows no_members = []
method_rows (member (method f) rest) = method_row f ∷ method_rows rest
method_rows (member _ rest) = method_rows rest

-- A class: its name, the class and its bases from the nearest on, the builtin exception class at the end of these, the names
-- that its body binds, and its methods.
pub record ClassScope : Type 0 where
  pub name : ℕ
  pub chain : List ℕ
  pub native : Option (List ℕ)
  pub bound : List ℕ
  pub methods : List MethodRow

-- the first method of a name
abbrev pub method_named : List MethodRow → ℕ → Option ℕ
method_named [] n = None
method_named (row ∷ rows) n = if nat_eq n row.name then Some row.fun else method_named rows n

-- the class of a name, of those before
abbrev pub class_named : List ClassScope → ℕ → Option ClassScope
class_named [] n = None
class_named (row ∷ rows) n = if nat_eq n row.name then Some row else class_named rows n

abbrev pub base_class : List ClassScope → Option ℕ → Option ClassScope
base_class earlier None = None
base_class earlier (Some n) = class_named earlier n

abbrev pub chain_in : Option ClassScope → List ℕ
chain_in None = []
chain_in (Some row) = row.chain

-- A class has the exception class at its chain's end from its base, which is one or has one.
abbrev pub native_in : List (List ℕ) → Option ClassScope → Option ℕ → Option (List ℕ)
native_in texts (Some row) base = row.native
native_in texts None None = None
native_in texts None (Some n) = exception_of (text_of texts n)

abbrev pub class_scope : List (List ℕ) → List ClassScope → ClassDef → ClassScope
class_scope texts earlier (class_def id name base inside line) =
    record {
      name = name;
      chain = id ∷ chain_in (base_class earlier base);
      native = native_in texts (base_class earlier base) base;
      bound = named binds [] (uses_of_class (class_def id name base inside line));
      methods = method_rows inside;
    }

-- the classes in their order, after those that are there already
abbrev pub classes_from : List (List ℕ) → List ClassScope → Stmts → List ClassScope
classes_from texts rows no_stmts = rows
classes_from texts rows (stmt (statement (class c) line) rest) = classes_from texts (rows ++ class_scope texts rows c ∷ []) rest
classes_from texts rows (stmt _ rest) = classes_from texts rows rest
