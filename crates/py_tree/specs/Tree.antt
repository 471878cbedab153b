-- The tree of a module as contracts see it: no pointers, and each list of its own type. Names, ids, lines and sites are numbers.
use Rattle.std.specs.Prelude.{ℕ, List, Option}
use Rattle.place_ids.specs.declared.operators.BinOp.{BinOp}
use Rattle.place_ids.specs.declared.operators.CompareOp.{CompareOp}
use Rattle.place_ids.specs.declared.operators.UnaryOp.{UnaryOp}
use Rattle.py_tree.specs.declared.literal.Literal.{Literal}

mutual
  pub data Expr : Type 0 where
    node : ExprKind → (line site : ℕ) → Expr

  pub data ExprKind : Type 0 where
    name : ℕ → ExprKind
    literal : Literal → ExprKind
    unary : UnaryOp → Expr → ExprKind
    binary : BinOp → Expr → Expr → ExprKind
    compare : CompareOp → Expr → Expr → ExprKind
    not : Expr → ExprKind
    and : Expr → Expr → ExprKind
    or : Expr → Expr → ExprKind
    -- `then if test else other`, in this order
    choice : Expr → Expr → Expr → ExprKind
    attr : Expr → ℕ → ExprKind
    -- `super().name`
    super : ℕ → ExprKind
    item : Expr → Expr → ExprKind
    -- what is sliced, and the bounds and the step
    slice : Expr → Bound → Bound → Bound → ExprKind
    call : Expr → Args → ExprKind
    tuple : Exprs → ExprKind
    list : Exprs → ExprKind
    dict : Pairs → ExprKind

  pub data Exprs : Type 0 where
    no_exprs : Exprs
    expr : Expr → Exprs → Exprs

  -- a part of a slice, as far as it is written
  pub data Bound : Type 0 where
    no_bound : Bound
    bound : Expr → Bound

  -- each with its keyword, if it has one
  pub data Args : Type 0 where
    no_args : Args
    arg : Option ℕ → Expr → Args → Args

  -- keys and values
  pub data Pairs : Type 0 where
    no_pairs : Pairs
    pair : Expr → Expr → Pairs → Pairs

abbrev pub line_of : Expr → ℕ
line_of (node kind line site) = line

abbrev pub site_of : Expr → ℕ
site_of (node kind line site) = site

-- a module that `import` names, and the name that it gets
pub record ImportPart : Type 0 where
  pub path : List ℕ
  pub alias : Option ℕ

-- a name that `from` takes, and the name that it gets
pub record FromPart : Type 0 where
  pub name : ℕ
  pub alias : Option ℕ

pub record Param : Type 0 where
  pub name : ℕ
  pub default : Option Literal

mutual
  pub data Stmt : Type 0 where
    statement : StmtKind → (line : ℕ) → Stmt

  -- an `else` that is not there is an empty body
  pub data StmtKind : Type 0 where
    pass : StmtKind
    break : StmtKind
    continue : StmtKind
    ellipsis : StmtKind
    return : Option Expr → StmtKind
    -- what is raised, and its cause
    raise : Option Expr → Option Expr → StmtKind
    -- the test, and the message
    assert : Expr → Option Expr → StmtKind
    import : List ImportPart → StmtKind
    -- the module's path, and what is taken from it
    from : List ℕ → List FromPart → StmtKind
    global : List ℕ → StmtKind
    -- the targets from the left, and the value
    assign : Exprs → Expr → StmtKind
    augment : Expr → BinOp → Expr → StmtKind
    -- the target, and the value
    annotated : Expr → Option Expr → StmtKind
    expression : Expr → StmtKind
    -- the arms, and the `else` body
    if : Arms → Stmts → StmtKind
    while : Expr → Stmts → StmtKind
    -- the target, what is gone through, and the body
    for : Expr → Expr → Stmts → StmtKind
    -- the body, the `except` clauses, and the `else` body
    try : Stmts → Handlers → Stmts → StmtKind
    def : FunDef → StmtKind
    class : ClassDef → StmtKind

  pub data Stmts : Type 0 where
    no_stmts : Stmts
    stmt : Stmt → Stmts → Stmts

  -- tests, and the body that each leads to
  pub data Arms : Type 0 where
    no_arms : Arms
    arm : Expr → Stmts → Arms → Arms

  -- each with its class, its name, its body and its line
  pub data Handlers : Type 0 where
    no_handlers : Handlers
    handler : Option Expr → Option ℕ → Stmts → (line : ℕ) → Handlers → Handlers

  pub data FunDef : Type 0 where
    fun_def : (id name : ℕ) → List Param → Stmts → (line : ℕ) → FunDef

  pub data ClassDef : Type 0 where
    class_def : (id name : ℕ) → (base : Option ℕ) → Members → (line : ℕ) → ClassDef

  pub data Member : Type 0 where
    pass_member : Member
    ellipsis_member : Member
    text : Member
    value : ℕ → Expr → (line : ℕ) → Member
    -- `name: annotation`, and the value
    declared : ℕ → Option Expr → (line : ℕ) → Member
    method : FunDef → Member

  pub data Members : Type 0 where
    no_members : Members
    member : Member → Members → Members

-- the texts of the names are lists of bytes
pub record Module : Type 0 where
  pub body : Stmts
  pub names : List (List ℕ)
