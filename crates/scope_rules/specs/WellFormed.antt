-- What runs and code take for granted of a tree, and what each tree of the grammar has that breaks no rule.
use Rattle.std.specs.Prelude.{◌≡◌, ℕ, suc, ◌<◌, Bool, true, false, ◌&&◌, List, [], ◌∷◌, length, Option, Some, None}
use Rattle.py_tree.specs.Tree.{Expr, node, name, literal, unary, binary, compare, not, and, or, choice, attr, super, item, slice, call, tuple, list, dict, Exprs, no_exprs, expr, Bound, no_bound, bound, Args, no_args, arg, Pairs, no_pairs, pair, ImportPart, FromPart, Param, statement, StmtKind, pass, break, continue, ellipsis, return, raise, assert, import, from, global, assign, augment, annotated, expression, if, while, for, try, def, class, Stmts, no_stmts, stmt, Arms, no_arms, arm, Handlers, no_handlers, handler, FunDef, fun_def, ClassDef, class_def, Member, pass_member, ellipsis_member, text, value, declared, method, Members, no_members, member, Module}
use Rattle.scope_rules.specs.Faults.{has_none}
use Rattle.scope_rules.specs.NameLists.{place_of}
use Rattle.scope_rules.specs.Tables.{locals_of}

-- Where something stands: among how many names of the module, whether a loop is around it, whether a function, and whether a
-- method, whose first local is its receiver.
pub record Surroundings : Type 0 where
  pub names : ℕ
  pub in_loop : Bool
  pub in_function : Bool
  pub in_method : Bool

abbrev pub looped : Surroundings → Surroundings
looped w = record w { in_loop = true }

-- ---- names, of which each has a number below that of the module's names

abbrev pub AreNames : Surroundings → List ℕ → Type 0
AreNames w [] = Unit {0}
AreNames w (n ∷ ns) = (n < w.names) × AreNames w ns

abbrev pub IsNameOrNone : Surroundings → Option ℕ → Type 0
IsNameOrNone w None = Unit {0}
IsNameOrNone w (Some n) = n < w.names

-- A dotted path has a first name.
abbrev pub IsPath : Surroundings → List ℕ → Type 0
IsPath w [] = ⊥
IsPath w (n ∷ ns) = AreNames w (n ∷ ns)

abbrev pub AreImported : Surroundings → List ImportPart → Type 0
AreImported w [] = Unit {0}
AreImported w (p ∷ ps) = IsPath w p.path × IsNameOrNone w p.alias × AreImported w ps

abbrev pub AreTaken : Surroundings → List FromPart → Type 0
AreTaken w [] = Unit {0}
AreTaken w (p ∷ ps) = (p.name < w.names) × IsNameOrNone w p.alias × AreTaken w ps

-- ---- expressions: `super()` stands in methods alone, and an argument by position before each keyword ("Calls")

abbrev mutual
  pub IsFormed : Surroundings → Expr → Type 0
  IsFormed w (node (name n) l s) = n < w.names
  IsFormed w (node (literal x) l s) = Unit {0}
  IsFormed w (node (unary op a) l s) = IsFormed w a
  IsFormed w (node (binary op a b) l s) = IsFormed w a × IsFormed w b
  IsFormed w (node (compare op a b) l s) = IsFormed w a × IsFormed w b
  IsFormed w (node (not a) l s) = IsFormed w a
  IsFormed w (node (and a b) l s) = IsFormed w a × IsFormed w b
  IsFormed w (node (or a b) l s) = IsFormed w a × IsFormed w b
  IsFormed w (node (choice a b c) l s) = IsFormed w a × IsFormed w b × IsFormed w c
  IsFormed w (node (attr a n) l s) = IsFormed w a × (n < w.names)
  IsFormed w (node (super n) l s) = (w.in_method ≡ true) × (n < w.names)
  IsFormed w (node (item a b) l s) = IsFormed w a × IsFormed w b
  IsFormed w (node (slice a b c d) l s) = IsFormed w a × IsFormedBound w b × IsFormedBound w c × IsFormedBound w d
  IsFormed w (node (call a xs) l s) = IsFormed w a × AreFormedArgs w false xs
  IsFormed w (node (tuple xs) l s) = AreFormed w xs
  IsFormed w (node (list xs) l s) = AreFormed w xs
  IsFormed w (node (dict xs) l s) = AreFormedPairs w xs

  pub AreFormed : Surroundings → Exprs → Type 0
  AreFormed w no_exprs = Unit {0}
  AreFormed w (expr x xs) = IsFormed w x × AreFormed w xs

  pub IsFormedBound : Surroundings → Bound → Type 0
  IsFormedBound w no_bound = Unit {0}
  IsFormedBound w (bound x) = IsFormed w x

  -- where a keyword stands before them or not
  pub AreFormedArgs : Surroundings → Bool → Args → Type 0
  AreFormedArgs w after_keyword no_args = Unit {0}
  AreFormedArgs w after_keyword (arg None x xs) = (after_keyword ≡ false) × IsFormed w x × AreFormedArgs w false xs
  AreFormedArgs w after_keyword (arg (Some n) x xs) = (n < w.names) × IsFormed w x × AreFormedArgs w true xs

  pub AreFormedPairs : Surroundings → Pairs → Type 0
  AreFormedPairs w no_pairs = Unit {0}
  AreFormedPairs w (pair k x xs) = IsFormed w k × IsFormed w x × AreFormedPairs w xs

abbrev pub IsFormedOrNone : Surroundings → Option Expr → Type 0
IsFormedOrNone w None = Unit {0}
IsFormedOrNone w (Some x) = IsFormed w x

-- ---- statements: `break` and `continue` stand in loops, `return` in functions, and no `def` and no `class` in a block

abbrev mutual
  pub IsFormedKind : Surroundings → StmtKind → Type 0
  IsFormedKind w pass = Unit {0}
  IsFormedKind w break = w.in_loop ≡ true
  IsFormedKind w continue = w.in_loop ≡ true
  IsFormedKind w ellipsis = Unit {0}
  IsFormedKind w (return o) = (w.in_function ≡ true) × IsFormedOrNone w o
  IsFormedKind w (raise o c) = IsFormedOrNone w o × IsFormedOrNone w c
  IsFormedKind w (assert x o) = IsFormed w x × IsFormedOrNone w o
  IsFormedKind w (import ps) = AreImported w ps
  IsFormedKind w (from path ps) = IsPath w path × AreTaken w ps
  IsFormedKind w (global ns) = AreNames w ns
  IsFormedKind w (assign ts x) = AreFormed w ts × IsFormed w x
  IsFormedKind w (augment t op x) = IsFormed w t × IsFormed w x
  IsFormedKind w (annotated t o) = IsFormed w t × IsFormedOrNone w o
  IsFormedKind w (expression x) = IsFormed w x
  IsFormedKind w (if arms otherwise) = AreFormedArms w arms × AreFormedStmts w otherwise
  IsFormedKind w (while test body) = IsFormed w test × AreFormedStmts (looped w) body
  IsFormedKind w (for target through body) = IsFormed w target × IsFormed w through × AreFormedStmts (looped w) body
  IsFormedKind w (try body handlers otherwise) = AreFormedStmts w body × AreFormedHandlers w handlers × AreFormedStmts w otherwise
  IsFormedKind w (def f) = ⊥
  IsFormedKind w (class c) = ⊥

  pub AreFormedStmts : Surroundings → Stmts → Type 0
  AreFormedStmts w no_stmts = Unit {0}
  AreFormedStmts w (stmt (statement kind line) rest) = IsFormedKind w kind × AreFormedStmts w rest

  pub AreFormedArms : Surroundings → Arms → Type 0
  AreFormedArms w no_arms = Unit {0}
  AreFormedArms w (arm test body rest) = IsFormed w test × AreFormedStmts w body × AreFormedArms w rest

  pub AreFormedHandlers : Surroundings → Handlers → Type 0
  AreFormedHandlers w no_handlers = Unit {0}
  AreFormedHandlers w (handler caught own body line rest) = IsFormedOrNone w caught × IsNameOrNone w own × AreFormedStmts w body × AreFormedHandlers w rest

-- ---- definitions

-- parameters that are the locals from this number on, in their order
abbrev pub AreLocals : Surroundings → List ℕ → ℕ → List Param → Type 0
AreLocals w locals number [] = Unit {0}
AreLocals w locals number (p ∷ ps) = (p.name < w.names) × (place_of locals p.name ≡ Some number) × AreLocals w locals (suc number) ps

-- A method has a parameter.
abbrev pub IsFormedFun : ℕ → (in_class : Bool) → FunDef → Type 0
IsFormedFun names in_class (fun_def id own params body line) =
    let inside : Surroundings = record { names = names; in_loop = false; in_function = true; in_method = in_class } in
    (own < names) × ((in_class && has_none params) ≡ false) × AreLocals inside (locals_of (fun_def id own params body line)) 0 params × AreFormedStmts inside body

-- around what stands in no function
abbrev pub outside : ℕ → Surroundings
outside names = record { names = names; in_loop = false; in_function = false; in_method = false }

abbrev pub IsFormedMember : ℕ → Member → Type 0
IsFormedMember names pass_member = Unit {0}
IsFormedMember names ellipsis_member = Unit {0}
IsFormedMember names text = Unit {0}
IsFormedMember names (value n x line) = (n < names) × IsFormed (outside names) x
IsFormedMember names (declared n o line) = (n < names) × IsFormedOrNone (outside names) o
IsFormedMember names (method f) = IsFormedFun names true f

abbrev pub AreFormedMembers : ℕ → Members → Type 0
AreFormedMembers names no_members = Unit {0}
AreFormedMembers names (member m rest) = IsFormedMember names m × AreFormedMembers names rest

abbrev pub IsFormedClass : ℕ → ClassDef → Type 0
IsFormedClass names (class_def id own base inside line) = (own < names) × IsNameOrNone (outside names) base × AreFormedMembers names inside

-- Functions and classes stand directly in the module.
abbrev pub AreFormedHere : ℕ → Stmts → Type 0
AreFormedHere names no_stmts = Unit {0}
AreFormedHere names (stmt (statement (def f) line) rest) = IsFormedFun names false f × AreFormedHere names rest
AreFormedHere names (stmt (statement (class c) line) rest) = IsFormedClass names c × AreFormedHere names rest
AreFormedHere names (stmt (statement kind line) rest) = IsFormedKind (outside names) kind × AreFormedHere names rest

abbrev pub IsWellFormed : Module → Type 0
IsWellFormed m = AreFormedHere (length m.names) m.body
