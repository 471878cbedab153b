-- What statements say of names, in the order of the text.
use Rattle.std.specs.Prelude.{ℕ, List, [], ◌∷◌, ◌++◌, Option, Some, None}
use Rattle.py_tree.specs.Tree.{Expr, statement, StmtKind, pass, break, continue, ellipsis, return, raise, assert, import, from, global, assign, augment, annotated, expression, if, while, for, try, def, class, Stmts, no_stmts, stmt, Arms, no_arms, arm, Handlers, no_handlers, handler, FunDef, fun_def, ClassDef, class_def, Member, pass_member, ellipsis_member, text, value, declared, method, Members, no_members, member, ImportPart, FromPart, Param}
use Rattle.scope_rules.specs.declared.mention.Mention.{Mention}
use Rattle.scope_rules.specs.declared.mention.Role.TheVariants as role
use Rattle.scope_rules.specs.Mentions.{at, mentions, mentions_of_all, mentions_of_option, targets, targets_of_all}

-- `import a` binds a, and `import a.b as c` binds c
abbrev pub import_binds : Option ℕ → List ℕ → ℕ → List Mention
import_binds (Some alias) path line = at role.Import alias line ∷ []
import_binds None [] line = []
import_binds None (first ∷ others) line = at role.Import first line ∷ []

abbrev pub imports : List ImportPart → ℕ → List Mention
imports [] line = []
imports (p ∷ ps) line = import_binds p.alias p.path line ++ imports ps line

-- the name that an import binds: after `as`, or else its own
abbrev pub bound_by : Option ℕ → ℕ → ℕ
bound_by (Some alias) name = alias
bound_by None name = name

abbrev pub froms : List FromPart → ℕ → List Mention
froms [] line = []
froms (p ∷ ps) line = at role.Import (bound_by p.alias p.name) line ∷ froms ps line

-- the name of an `except` clause, at its line
abbrev pub handler_binds : Option ℕ → ℕ → List Mention
handler_binds None line = []
handler_binds (Some n) line = at role.Value n line ∷ []

abbrev pub annotates : Expr → Option Expr → ℕ → List Mention
annotates t None line = targets role.Annotation line t
annotates t (Some x) line = mentions x ++ targets role.Store line t

-- Statements, with the blocks in them; a `def` or a `class` binds its name, and what stands in it is looked at by itself.
abbrev mutual
  pub uses_of : StmtKind → ℕ → List Mention
  uses_of pass line = []
  uses_of break line = []
  uses_of continue line = []
  uses_of ellipsis line = []
  uses_of (return o) line = mentions_of_option o
  uses_of (raise o c) line = mentions_of_option o ++ mentions_of_option c
  uses_of (assert x o) line = mentions x ++ mentions_of_option o
  uses_of (import ps) line = imports ps line
  uses_of (from path ps) line = froms ps line
  uses_of (global ns) line = []
  uses_of (assign ts x) line = mentions_of_all ts ++ mentions x ++ targets_of_all role.Store line ts
  uses_of (augment t op x) line = mentions t ++ mentions x ++ targets role.Store line t
  uses_of (annotated t o) line = mentions t ++ annotates t o line
  uses_of (expression x) line = mentions x
  uses_of (if arms otherwise) line = uses_of_arms arms ++ uses otherwise
  uses_of (while test body) line = mentions test ++ uses body
  uses_of (for target through body) line = mentions target ++ mentions through ++ targets role.Store line target ++ uses body
  uses_of (try body handlers otherwise) line = uses body ++ uses_of_handlers handlers ++ uses otherwise
  uses_of (def (fun_def id name params body l)) line = at role.Definition name line ∷ []
  uses_of (class (class_def id name base inside l)) line = at role.Definition name line ∷ []

  pub uses : Stmts → List Mention
  uses no_stmts = []
  uses (stmt (statement kind line) rest) = uses_of kind line ++ uses rest

  pub uses_of_arms : Arms → List Mention
  uses_of_arms no_arms = []
  uses_of_arms (arm test body rest) = mentions test ++ uses body ++ uses_of_arms rest

  pub uses_of_handlers : Handlers → List Mention
  uses_of_handlers no_handlers = []
  uses_of_handlers (handler caught name body line rest) = mentions_of_option caught ++ handler_binds name line ++ uses body ++ uses_of_handlers rest

abbrev pub parameters : List Param → ℕ → List Mention
parameters [] line = []
parameters (p ∷ ps) line = at role.Parameter p.name line ∷ parameters ps line

-- a function's parameters, at the line of its `def`, and then its body
abbrev pub uses_of_fun : FunDef → List Mention
uses_of_fun (fun_def id name params body line) = parameters params line ++ uses body

-- A class body binds a name by a value or a `def`, and not by an annotation alone.
abbrev pub declares : ℕ → Option Expr → ℕ → List Mention
declares n None line = at role.Annotation n line ∷ []
declares n (Some x) line = mentions x ++ at role.Value n line ∷ []

abbrev pub uses_of_member : Member → List Mention
uses_of_member pass_member = []
uses_of_member ellipsis_member = []
uses_of_member text = []
uses_of_member (value n x line) = mentions x ++ at role.Value n line ∷ []
uses_of_member (declared n o line) = declares n o line
uses_of_member (method (fun_def id name params body line)) = at role.Definition name line ∷ []

abbrev pub uses_of_members : Members → List Mention
uses_of_members no_members = []
uses_of_members (member m rest) = uses_of_member m ++ uses_of_members rest

abbrev pub uses_of_class : ClassDef → List Mention
uses_of_class (class_def id name base inside line) = uses_of_members inside
