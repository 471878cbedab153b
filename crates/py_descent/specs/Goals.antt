-- What the descent looks for: one goal for each nonterminal, and one for what is left of it after its first part.
use Rattle.std.specs.Prelude.{ℕ, Bool, List, Option}
use Rattle.place_ids.specs.declared.operators.CompareOp.{CompareOp}
use Rattle.py_tree.specs.declared.literal.Literal.{Literal}
use Rattle.py_tree.specs.Tree.{Expr, Exprs, Bound, Args, Pairs, ImportPart, FromPart, Param, Stmt, StmtKind, Stmts, Arms, Handlers, FunDef, ClassDef, Member, Members}

pub data Goal : Type 0 where
  -- names
  name plain_name dotted : Goal
  dots : List ℕ → Goal
  -- annotations
  annotation parts part items item hint result : Goal
  -- literals
  strings octets : Bool → Goal
  literal : Goal
  -- expressions; a line is that of the first token of what is begun
  test disjunction conjunction inversion comparison compare_operator factor power primary atom tests : Goal
  choice disjunctions conjunctions trailers : (line : ℕ) → Expr → Goal
  operation : (least : ℕ) → Goal
  operations : (least line : ℕ) → Expr → Goal
  call_rest subscript : (line : ℕ) → Expr → Goal
  slice : (line : ℕ) → Expr → Bound → Goal
  bounds stride : Goal
  arguments : Bool → Args → Goal
  argument : Bool → Goal
  variable super_rest group list_display dict_display : (line : ℕ) → Goal
  pairs : Pairs → Goal
  tests_after : (line : ℕ) → Expr → Goal
  more_tests : Exprs → Goal
  -- simple statements
  import_part : Goal
  imports : List ImportPart → Goal
  from_part : Goal
  froms : Bool → List FromPart → Goal
  return_rest raise_rest assert_rest from_rest assignment : Goal
  assigned : Exprs → Goal
  annotated : Expr → Goal
  simple_kind simple : Goal
  line : Stmts → Goal
  -- definitions
  param : Bool → Goal
  params : Bool → List Param → Goal
  base : Goal
  function : (line name : ℕ) → Goal
  definition class_rest class_member entry class_body : Goal
  entries : Members → Goal
  -- compound statements
  for_targets : Goal
  more_targets : Exprs → Goal
  if_rest while_rest for_rest try_rest else_rest caught compound block : Goal
  elifs : Arms → Goal
  handlers : Handlers → Goal
  statement : Bool → Stmts → Goal
  statements : Bool → Stmts → Goal

-- what each goal gives
abbrev pub Value : Goal → Type 0
Value name = ℕ
Value plain_name = ℕ
Value dotted = List ℕ
Value (dots ns) = List ℕ
Value annotation = Unit {0}
Value parts = Unit {0}
Value part = Unit {0}
Value items = Unit {0}
Value item = Unit {0}
Value hint = Unit {0}
Value result = Unit {0}
Value (strings empty) = Bool
Value (octets empty) = Bool
Value literal = Literal
Value test = Expr
Value disjunction = Expr
Value conjunction = Expr
Value inversion = Expr
Value comparison = Expr
Value compare_operator = Option CompareOp
Value factor = Expr
Value power = Expr
Value primary = Expr
Value atom = Expr
Value tests = Expr
Value (choice l e) = Expr
Value (disjunctions l e) = Expr
Value (conjunctions l e) = Expr
Value (trailers l e) = Expr
Value (operation n) = Expr
Value (operations n l e) = Expr
Value (call_rest l e) = Expr
Value (subscript l e) = Expr
Value (slice l e b) = Expr
Value bounds = Bound
Value stride = Bound
Value (arguments b as') = Args
Value (argument b) = Option ℕ × Expr
Value (variable l) = Expr
Value (super_rest l) = Expr
Value (group l) = Expr
Value (list_display l) = Expr
Value (dict_display l) = Expr
Value (pairs ps) = Pairs
Value (tests_after l e) = Expr
Value (more_tests es) = Exprs
Value import_part = ImportPart
Value (imports ps) = List ImportPart
Value from_part = FromPart
Value (froms b ps) = List FromPart
Value return_rest = StmtKind
Value raise_rest = StmtKind
Value assert_rest = StmtKind
Value from_rest = StmtKind
Value assignment = StmtKind
Value (assigned es) = StmtKind
Value (annotated e) = StmtKind
Value simple_kind = StmtKind
Value simple = Stmt
Value (line ss) = Stmts
Value (param b) = Param
Value (params b ps) = List Param
Value base = Option ℕ
Value (function l n) = FunDef
Value definition = FunDef
Value class_rest = ClassDef
Value class_member = Member
Value entry = Member
Value class_body = Members
Value (entries ms) = Members
Value for_targets = Expr
Value (more_targets es) = Exprs
Value if_rest = StmtKind
Value while_rest = StmtKind
Value for_rest = StmtKind
Value try_rest = StmtKind
Value else_rest = Stmts
Value caught = Expr × Option ℕ
Value compound = StmtKind
Value block = Stmts
Value (elifs as') = Arms
Value (handlers hs) = Handlers
Value (statement b ss) = Stmts
Value (statements b ss) = Stmts

-- a goal that is looked for at the same token as another one is of a lower rank
abbrev pub rank : Goal → ℕ
rank name = 1
rank plain_name = 1
rank (dots ns) = 2
rank dotted = 3
rank part = 4
rank parts = 3
rank annotation = 5
rank item = 6
rank items = 7
rank hint = 6
rank result = 6
rank (strings empty) = 1
rank (octets empty) = 1
rank literal = 2
rank (super_rest l) = 2
rank (variable l) = 3
rank atom = 4
rank (call_rest l e) = 33
rank (subscript l e) = 31
rank (slice l e b) = 32
rank (trailers l e) = 3
rank primary = 5
rank power = 6
rank factor = 7
rank (operations n l e) = 2
rank (operation n) = 8
rank compare_operator = 1
rank comparison = 9
rank inversion = 10
rank (conjunctions l e) = 1
rank conjunction = 11
rank (disjunctions l e) = 1
rank disjunction = 12
rank (choice l e) = 13
rank test = 14
rank (tests_after l e) = 1
rank (more_tests es) = 15
rank tests = 16
rank bounds = 15
rank stride = 16
rank (argument b) = 15
rank (arguments b as') = 16
rank (group l) = 17
rank (list_display l) = 16
rank (dict_display l) = 17
rank (pairs ps) = 16
rank import_part = 4
rank (imports ps) = 5
rank from_part = 4
rank (froms b ps) = 5
rank return_rest = 17
rank raise_rest = 17
rank assert_rest = 17
rank from_rest = 17
rank assignment = 18
rank (assigned es) = 17
rank (annotated e) = 17
rank simple_kind = 19
rank simple = 20
rank (line ss) = 21
rank (param b) = 7
rank (params b ps) = 8
rank base = 2
rank (function l n) = 9
rank definition = 10
rank class_rest = 10
rank class_member = 17
rank entry = 18
rank class_body = 19
rank (entries ms) = 19
rank for_targets = 17
rank (more_targets es) = 16
rank if_rest = 22
rank while_rest = 22
rank for_rest = 22
rank try_rest = 22
rank else_rest = 1
rank caught = 15
rank compound = 23
rank block = 22
rank (elifs as') = 1
rank (handlers hs) = 1
rank (statement b ss) = 24
rank (statements b ss) = 25
