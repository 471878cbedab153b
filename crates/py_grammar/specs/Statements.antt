-- Which tokens are which statement: one family for each nonterminal of the grammar, one case for each production
-- (language reference, "Simple statements" and "Compound statements"). Annotations are read and not kept.
use Rattle.std.specs.Prelude.{◌≡◌, ℕ, Bool, true, false, List, [], ◌∷◌, Option, Some, None}
use Rattle.place_ids.specs.declared.operators.BinOp.{BinOp}
use Rattle.py_tokens.specs.declared.token.TokenKind.TheVariants as kind
use Rattle.py_tokens.specs.declared.token.Keyword.TheVariants as word
use Rattle.py_tokens.specs.declared.token.Op.{Op}
use Rattle.py_tokens.specs.declared.token.Op.TheVariants as op
use Rattle.py_tree.specs.declared.literal.Literal.{Literal}
use Rattle.py_tree.specs.declared.literal.Literal.TheVariants as lit
use Rattle.py_tree.specs.Tree as tree
use Rattle.py_tree.specs.Tree.{Expr, node, Exprs, no_exprs, expr, ImportPart, FromPart, Param, StmtKind, Stmts, no_stmts, stmt, Arms, no_arms, arm, Handlers, no_handlers, handler, FunDef, fun_def, ClassDef, class_def, Member, Members, no_members, member}
use Rattle.py_grammar.specs.Cursor.{Cursor, next, Begins, BeginsOp, BeginsWord, line_of, past, past_two, with_site, with_fun, with_class, within, made, stated}
use Rattle.py_grammar.specs.Names.{IsName, IsPlainName, IsVariable}
use Rattle.py_grammar.specs.Operators.{IsAugmenting}
use Rattle.py_grammar.specs.Expressions.{AreStrs, AreOctets, IsTest, IsPrimary, IsTests}

-- ---- Names, and what is read and not kept

-- ("." NAME)*
pub data AreDots : Cursor → List ℕ → Cursor → Type 0 where
  dots_none : {c : Cursor} → AreDots c [] c
  dots_more : {c d : Cursor} {n : ℕ} {ns : List ℕ} → BeginsOp op.Dot c → IsPlainName (past c) n → AreDots (past_two c) ns d → AreDots c (n ∷ ns) d

-- dotted: NAME ("." NAME)*
pub data IsDotted : Cursor → List ℕ → Cursor → Type 0 where
  dotted : {c d : Cursor} {n : ℕ} {ns : List ℕ} → IsName c n → AreDots (past c) ns d → IsDotted c (n ∷ ns) d

mutual
  -- ann: part ("|" part)*
  pub data IsAnnotation : Cursor → Cursor → Type 0 where
    annotation_one : {c d : Cursor} → IsPart c d → IsAnnotation c d
    annotation_more : {c d f : Cursor} → IsPart c d → BeginsOp op.Bar d → IsAnnotation (past d) f → IsAnnotation c f

  -- part: dotted ("[" items "]")? | STR+ | "None"
  pub data IsPart : Cursor → Cursor → Type 0 where
    part_name : {c d : Cursor} {ns : List ℕ} → IsDotted c ns d → IsPart c d
    part_items : {c d f : Cursor} {ns : List ℕ} → IsDotted c ns d → BeginsOp op.LeftSquare d → AreItems (past d) f → BeginsOp op.RightSquare f → IsPart c (past f)
    part_strs : {c d : Cursor} {empty : Bool} → AreStrs c empty d → IsPart c d
    part_none : {c : Cursor} → BeginsWord word.KwNone c → IsPart c (past c)

  -- items: item ("," item)* ","?
  pub data AreItems : Cursor → Cursor → Type 0 where
    items_last : {c d : Cursor} → IsItem c d → AreItems c d
    items_comma : {c d : Cursor} → IsItem c d → BeginsOp op.Comma d → AreItems c (past d)
    items_more : {c d f : Cursor} → IsItem c d → BeginsOp op.Comma d → AreItems (past d) f → AreItems c f

  -- item: ann | "..." | "[" items? "]"
  pub data IsItem : Cursor → Cursor → Type 0 where
    item_annotation : {c d : Cursor} → IsAnnotation c d → IsItem c d
    item_ellipsis : {c : Cursor} → BeginsOp op.Ellipsis c → IsItem c (past c)
    item_empty : {c : Cursor} → BeginsOp op.LeftSquare c → BeginsOp op.RightSquare (past c) → IsItem c (past_two c)
    item_list : {c d : Cursor} → BeginsOp op.LeftSquare c → AreItems (past c) d → BeginsOp op.RightSquare d → IsItem c (past d)

-- (":" ann)?
pub data IsHint : Cursor → Cursor → Type 0 where
  hint_none : {c : Cursor} → IsHint c c
  hint_some : {c d : Cursor} → BeginsOp op.Colon c → IsAnnotation (past c) d → IsHint c d

-- ("->" ann)?
pub data IsResult : Cursor → Cursor → Type 0 where
  result_none : {c : Cursor} → IsResult c c
  result_some : {c d : Cursor} → BeginsOp op.Arrow c → IsAnnotation (past c) d → IsResult c d

-- ---- Targets

-- single: NAME | primary "." NAME
pub data IsSingle : Cursor → Expr → Cursor → Type 0 where
  single_name : {c : Cursor} {n : ℕ} → IsVariable c n → IsSingle c (made (tree.name n) c (past c)) (with_site (past c))
  single_attr : {c d : Cursor} {e : Expr} {n : ℕ} → IsPrimary c e d → BeginsOp op.Dot d → IsPlainName (past d) n → IsSingle c (made (tree.attr e n) c (past_two d)) (with_site (past_two d))

mutual
  -- target: single | primary "[" tests "]" | "(" targets ")" | "[" targets "]"
  pub data IsTarget : Cursor → Expr → Cursor → Type 0 where
    target_single : {c d : Cursor} {e : Expr} → IsSingle c e d → IsTarget c e d
    target_item : {c d f : Cursor} {e i : Expr} → IsPrimary c e d → BeginsOp op.LeftSquare d → IsTests (past d) i f → BeginsOp op.RightSquare f →
        IsTarget c (made (tree.item e i) c (past f)) (with_site (past f))
    target_group : {c d : Cursor} {e : Expr} → BeginsOp op.LeftParen c → IsTargets (past c) e d → BeginsOp op.RightParen d → IsTarget c e (past d)
    target_list : {c d : Cursor} {es : Exprs} → BeginsOp op.LeftSquare c → AreTargets (past c) es d → BeginsOp op.RightSquare d → IsTarget c (made (tree.list es) c (past d)) (with_site (past d))

  -- targets: target ("," target)* ","?, as a list
  pub data AreTargets : Cursor → Exprs → Cursor → Type 0 where
    targets_last : {c d : Cursor} {e : Expr} → IsTarget c e d → AreTargets c (expr e no_exprs) d
    targets_comma : {c d : Cursor} {e : Expr} → IsTarget c e d → BeginsOp op.Comma d → AreTargets c (expr e no_exprs) (past d)
    targets_more : {c d f : Cursor} {e : Expr} {es : Exprs} → IsTarget c e d → BeginsOp op.Comma d → AreTargets (past d) es f → AreTargets c (expr e es) f

  -- targets, as one expression: with a comma it is a tuple
  pub data IsTargets : Cursor → Expr → Cursor → Type 0 where
    targets_one : {c d : Cursor} {e : Expr} → IsTarget c e d → IsTargets c e d
    targets_single : {c d : Cursor} {e : Expr} → IsTarget c e d → BeginsOp op.Comma d → IsTargets c (made (tree.tuple (expr e no_exprs)) c (past d)) (with_site (past d))
    targets_tuple : {c d f : Cursor} {e : Expr} {es : Exprs} → IsTarget c e d → BeginsOp op.Comma d → AreTargets (past d) es f → IsTargets c (made (tree.tuple (expr e es)) c f) (with_site f)

-- a tuple or a list
abbrev pub is_plural : Expr → Bool
is_plural (node (tree.tuple es) line site) = true
is_plural (node (tree.list es) line site) = true
is_plural (node _ line site) = false

-- ---- Simple statements

-- an imported module: NAME | dotted "as" NAME
pub data IsImport : Cursor → ImportPart → Cursor → Type 0 where
  import_name : {c : Cursor} {n : ℕ} → IsName c n → IsImport c (record { path = n ∷ []; alias = None }) (past c)
  import_as : {c d : Cursor} {ns : List ℕ} {m : ℕ} → IsDotted c ns d → BeginsWord word.KwAs d → IsName (past d) m → IsImport c (record { path = ns; alias = Some m }) (past_two d)

-- one such or several, with commas between
pub data AreImports : Cursor → List ImportPart → Cursor → Type 0 where
  imports_one : {c d : Cursor} {p : ImportPart} → IsImport c p d → AreImports c (p ∷ []) d
  imports_more : {c d f : Cursor} {p : ImportPart} {ps : List ImportPart} → IsImport c p d → BeginsOp op.Comma d → AreImports (past d) ps f → AreImports c (p ∷ ps) f

-- NAME ("as" NAME)?
pub data IsFrom : Cursor → FromPart → Cursor → Type 0 where
  from_name : {c : Cursor} {n : ℕ} → IsName c n → IsFrom c (record { name = n; alias = None }) (past c)
  from_as : {c : Cursor} {n m : ℕ} → IsName c n → BeginsWord word.KwAs (past c) → IsName (past_two c) m → IsFrom c (record { name = n; alias = Some m }) (past (past_two c))

-- names: NAME ("as" NAME)? ("," NAME ("as" NAME)?)*
pub data AreFrom : Cursor → List FromPart → Cursor → Type 0 where
  froms_one : {c d : Cursor} {p : FromPart} → IsFrom c p d → AreFrom c (p ∷ []) d
  froms_more : {c d f : Cursor} {p : FromPart} {ps : List FromPart} → IsFrom c p d → BeginsOp op.Comma d → AreFrom (past d) ps f → AreFrom c (p ∷ ps) f

-- (targets "=")+ tests
pub data IsAssigned : Cursor → Exprs → Expr → Cursor → Type 0 where
  assigned_last : {c d f : Cursor} {t v : Expr} → IsTargets c t d → BeginsOp op.Assign d → IsTests (past d) v f → IsAssigned c (expr t no_exprs) v f
  assigned_more : {c d f : Cursor} {t v : Expr} {ts : Exprs} → IsTargets c t d → BeginsOp op.Assign d → IsAssigned (past d) ts v f → IsAssigned c (expr t ts) v f

-- simple: "pass" | "break" | "continue" | "..." | "return" tests? | "raise" (test ("from" test)?)? | "assert" test ("," test)?
--     | "import" .. | "from" dotted "import" (names | "(" names ","? ")") | (targets "=")+ tests | target AUGMENT tests
--     | single ":" ann ("=" tests)? | tests
pub data IsSimple : Cursor → StmtKind → Cursor → Type 0 where
  simple_pass : {c : Cursor} → BeginsWord word.KwPass c → IsSimple c tree.pass (past c)
  simple_break : {c : Cursor} → BeginsWord word.KwBreak c → IsSimple c tree.break (past c)
  simple_continue : {c : Cursor} → BeginsWord word.KwContinue c → IsSimple c tree.continue (past c)
  simple_ellipsis : {c : Cursor} → BeginsOp op.Ellipsis c → IsSimple c tree.ellipsis (past c)
  simple_return : {c : Cursor} → BeginsWord word.KwReturn c → IsSimple c (tree.return None) (past c)
  simple_return_value : {c d : Cursor} {e : Expr} → BeginsWord word.KwReturn c → IsTests (past c) e d → IsSimple c (tree.return (Some e)) d
  simple_raise : {c : Cursor} → BeginsWord word.KwRaise c → IsSimple c (tree.raise None None) (past c)
  simple_raise_value : {c d : Cursor} {e : Expr} → BeginsWord word.KwRaise c → IsTest (past c) e d → IsSimple c (tree.raise (Some e) None) d
  simple_raise_from : {c d f : Cursor} {e o : Expr} → BeginsWord word.KwRaise c → IsTest (past c) e d → BeginsWord word.KwFrom d → IsTest (past d) o f → IsSimple c (tree.raise (Some e) (Some o)) f
  simple_assert : {c d : Cursor} {e : Expr} → BeginsWord word.KwAssert c → IsTest (past c) e d → IsSimple c (tree.assert e None) d
  simple_assert_message : {c d f : Cursor} {e o : Expr} → BeginsWord word.KwAssert c → IsTest (past c) e d → BeginsOp op.Comma d → IsTest (past d) o f → IsSimple c (tree.assert e (Some o)) f
  simple_import : {c d : Cursor} {ps : List ImportPart} → BeginsWord word.KwImport c → AreImports (past c) ps d → IsSimple c (tree.import ps) d
  simple_from : {c d f : Cursor} {ns : List ℕ} {ps : List FromPart} → BeginsWord word.KwFrom c → IsDotted (past c) ns d → BeginsWord word.KwImport d → AreFrom (past d) ps f → IsSimple c (tree.from ns ps) f
  simple_from_group : {c d f : Cursor} {ns : List ℕ} {ps : List FromPart} → BeginsWord word.KwFrom c → IsDotted (past c) ns d → BeginsWord word.KwImport d → BeginsOp op.LeftParen (past d) → AreFrom (past_two d) ps f → BeginsOp op.RightParen f →
      IsSimple c (tree.from ns ps) (past f)
  simple_from_comma : {c d f : Cursor} {ns : List ℕ} {ps : List FromPart} → BeginsWord word.KwFrom c → IsDotted (past c) ns d → BeginsWord word.KwImport d → BeginsOp op.LeftParen (past d) → AreFrom (past_two d) ps f → BeginsOp op.Comma f → BeginsOp op.RightParen (past f) →
      IsSimple c (tree.from ns ps) (past_two f)
  simple_assign : {c d : Cursor} {ts : Exprs} {v : Expr} → IsAssigned c ts v d → IsSimple c (tree.assign ts v) d
  simple_augment : {c d f : Cursor} {e v : Expr} {t : Op} {o : BinOp} → IsTarget c e d → is_plural e ≡ false → BeginsOp t d → IsAugmenting t o → IsTests (past d) v f → IsSimple c (tree.augment e o v) f
  simple_annotated : {c d f : Cursor} {e : Expr} → IsSingle c e d → BeginsOp op.Colon d → IsAnnotation (past d) f → IsSimple c (tree.annotated e None) f
  simple_annotated_value : {c d f g : Cursor} {e v : Expr} → IsSingle c e d → BeginsOp op.Colon d → IsAnnotation (past d) f → BeginsOp op.Assign f → IsTests (past f) v g → IsSimple c (tree.annotated e (Some v)) g
  simple_expression : {c d : Cursor} {e : Expr} → IsTests c e d → IsSimple c (tree.expression e) d

-- line: simple (";" simple)* ";"? NEWLINE
pub data IsLine : Cursor → Stmts → Cursor → Type 0 where
  line_last : {c d : Cursor} {s : StmtKind} → IsSimple c s d → Begins kind.Newline d → IsLine c (stmt (stated s c) no_stmts) (past d)
  line_semi : {c d : Cursor} {s : StmtKind} → IsSimple c s d → BeginsOp op.Semi d → Begins kind.Newline (past d) → IsLine c (stmt (stated s c) no_stmts) (past_two d)
  line_more : {c d f : Cursor} {s : StmtKind} {ss : Stmts} → IsSimple c s d → BeginsOp op.Semi d → IsLine (past d) ss f → IsLine c (stmt (stated s c) ss) f

-- ---- Definitions

-- literal: "-"? (INT | FLOAT) | STR+ | BYTES+ | "None" | "True" | "False"
pub data IsLiteral : Cursor → Literal → Cursor → Type 0 where
  literal_int : {c : Cursor} {n : ℕ} → Begins (kind.Int n) c → IsLiteral c (lit.Int false n) (past c)
  literal_minus_int : {c : Cursor} {n : ℕ} → BeginsOp op.Minus c → Begins (kind.Int n) (past c) → IsLiteral c (lit.Int true n) (past_two c)
  literal_float : {c : Cursor} → Begins kind.Float c → IsLiteral c lit.Float (past c)
  literal_minus_float : {c : Cursor} → BeginsOp op.Minus c → Begins kind.Float (past c) → IsLiteral c lit.Float (past_two c)
  literal_strs : {c d : Cursor} {empty : Bool} → AreStrs c empty d → IsLiteral c (lit.Str empty) d
  literal_octets : {c d : Cursor} {empty : Bool} → AreOctets c empty d → IsLiteral c (lit.Bytes empty) d
  literal_none : {c : Cursor} → BeginsWord word.KwNone c → IsLiteral c lit.NoneValue (past c)
  literal_true : {c : Cursor} → BeginsWord word.KwTrue c → IsLiteral c lit.TrueValue (past c)
  literal_false : {c : Cursor} → BeginsWord word.KwFalse c → IsLiteral c lit.FalseValue (past c)

-- param: NAME (":" ann)? ("=" literal)?, and whether one with a default stands before it and after it; one without follows none
pub data IsParam : Bool → Cursor → Param → Bool → Cursor → Type 0 where
  param_plain : {c d : Cursor} {n : ℕ} → IsName c n → IsHint (past c) d → IsParam false c (record { name = n; default = None }) false d
  param_default : {b : Bool} {c d f : Cursor} {n : ℕ} {l : Literal} → IsName c n → IsHint (past c) d → BeginsOp op.Assign d → IsLiteral (past d) l f → IsParam b c (record { name = n; default = Some l }) true f

-- params?, where params: param ("," param)* ","?, and whether one with a default stands before
pub data AreParams : Bool → Cursor → List Param → Cursor → Type 0 where
  params_none : {b : Bool} {c : Cursor} → AreParams b c [] c
  params_last : {b b' : Bool} {c d : Cursor} {p : Param} → IsParam b c p b' d → AreParams b c (p ∷ []) d
  params_more : {b b' : Bool} {c d f : Cursor} {p : Param} {ps : List Param} → IsParam b c p b' d → BeginsOp op.Comma d → AreParams b' (past d) ps f → AreParams b c (p ∷ ps) f

-- ("(" NAME? ")")?
pub data IsBase : Cursor → Option ℕ → Cursor → Type 0 where
  base_none : {c : Cursor} → IsBase c None c
  base_empty : {c : Cursor} → BeginsOp op.LeftParen c → BeginsOp op.RightParen (past c) → IsBase c None (past_two c)
  base_name : {c : Cursor} {n : ℕ} → BeginsOp op.LeftParen c → IsName (past c) n → BeginsOp op.RightParen (past_two c) → IsBase c (Some n) (past (past_two c))

-- member: "pass" | "..." | STR+ | NAME "=" tests | NAME ":" ann ("=" tests)?
pub data IsMember : Cursor → Member → Cursor → Type 0 where
  member_pass : {c : Cursor} → BeginsWord word.KwPass c → IsMember c tree.pass_member (past c)
  member_ellipsis : {c : Cursor} → BeginsOp op.Ellipsis c → IsMember c tree.ellipsis_member (past c)
  member_strs : {c d : Cursor} {empty : Bool} → AreStrs c empty d → IsMember c tree.text d
  member_value : {c d : Cursor} {n : ℕ} {e : Expr} → IsPlainName c n → BeginsOp op.Assign (past c) → IsTests (past_two c) e d → IsMember c (tree.value n e (line_of c)) d
  member_declared : {c d : Cursor} {n : ℕ} → IsPlainName c n → BeginsOp op.Colon (past c) → IsAnnotation (past_two c) d → IsMember c (tree.declared n None (line_of c)) d
  member_declared_value : {c d f : Cursor} {n : ℕ} {e : Expr} → IsPlainName c n → BeginsOp op.Colon (past c) → IsAnnotation (past_two c) d → BeginsOp op.Assign d → IsTests (past d) e f → IsMember c (tree.declared n (Some e) (line_of c)) f

-- statements, one after the other
abbrev pub then_all : Stmts → Stmts → Stmts
then_all no_stmts ts = ts
then_all (stmt s ss) ts = stmt s (then_all ss ts)

-- ---- Compound statements; `def` and `class` stand directly in the module, `def` also directly in a class

mutual
  -- block: line | NEWLINE INDENT statement+ DEDENT
  pub data IsBlock : Cursor → Stmts → Cursor → Type 0 where
    block_line : {c d : Cursor} {ss : Stmts} → IsLine c ss d → IsBlock c ss d
    block_indented : {c d f : Cursor} {ss ts : Stmts} → Begins kind.Newline c → Begins kind.Indent (past c) → IsStatement false (past_two c) ss d → AreStatements false d ts f → Begins kind.Dedent f →
        IsBlock c (then_all ss ts) (past f)

  -- statement: line | if | while | for | try | def | class, and whether it stands directly in the module
  pub data IsStatement : Bool → Cursor → Stmts → Cursor → Type 0 where
    statement_line : {top : Bool} {c d : Cursor} {ss : Stmts} → IsLine c ss d → IsStatement top c ss d
    statement_compound : {top : Bool} {c d : Cursor} {s : StmtKind} → IsCompound c s d → IsStatement top c (stmt (stated s c) no_stmts) d
    statement_def : {c d : Cursor} {n : ℕ} {f : FunDef} → IsName (past c) n → IsFunction c n f d → IsStatement true c (stmt (stated (tree.def f) c) no_stmts) d
    statement_class : {c d : Cursor} {k : ClassDef} → IsClass c k d → IsStatement true c (stmt (stated (tree.class k) c) no_stmts) d

  -- statement*
  pub data AreStatements : Bool → Cursor → Stmts → Cursor → Type 0 where
    statements_none : {top : Bool} {c : Cursor} → AreStatements top c no_stmts c
    statements_more : {top : Bool} {c d f : Cursor} {ss ts : Stmts} → IsStatement top c ss d → AreStatements top d ts f → AreStatements top c (then_all ss ts) f

  -- if: "if" test ":" block ("elif" test ":" block)* ("else" ":" block)?
  -- while: "while" test ":" block
  -- for: "for" targets "in" tests ":" block
  -- try: "try" ":" block except+ ("else" ":" block)?
  pub data IsCompound : Cursor → StmtKind → Cursor → Type 0 where
    compound_if : {c d f g h : Cursor} {t : Expr} {ss os : Stmts} {as' : Arms} → BeginsWord word.KwIf c → IsTest (past c) t d → BeginsOp op.Colon d → IsBlock (past d) ss f → AreElifs f as' g → IsElse g os h → IsCompound c (tree.if (arm t ss as') os) h
    compound_while : {c d f : Cursor} {t : Expr} {ss : Stmts} → BeginsWord word.KwWhile c → IsTest (past c) t d → BeginsOp op.Colon d → IsBlock (past d) ss f → IsCompound c (tree.while t ss) f
    compound_for : {c d f g : Cursor} {t e : Expr} {ss : Stmts} → BeginsWord word.KwFor c → IsTargets (past c) t d → BeginsWord word.KwIn d → IsTests (past d) e f → BeginsOp op.Colon f → IsBlock (past f) ss g → IsCompound c (tree.for t e ss) g
    compound_try : {c d f g : Cursor} {ss os : Stmts} {hs : Handlers} → BeginsWord word.KwTry c → BeginsOp op.Colon (past c) → IsBlock (past_two c) ss d → AreHandlers d hs f → IsElse f os g → IsCompound c (tree.try ss hs os) g

  -- ("elif" test ":" block)*
  pub data AreElifs : Cursor → Arms → Cursor → Type 0 where
    elifs_none : {c : Cursor} → AreElifs c no_arms c
    elifs_more : {c d f g : Cursor} {t : Expr} {ss : Stmts} {as' : Arms} → BeginsWord word.KwElif c → IsTest (past c) t d → BeginsOp op.Colon d → IsBlock (past d) ss f → AreElifs f as' g → AreElifs c (arm t ss as') g

  -- ("else" ":" block)?
  pub data IsElse : Cursor → Stmts → Cursor → Type 0 where
    else_none : {c : Cursor} → IsElse c no_stmts c
    else_block : {c d : Cursor} {ss : Stmts} → BeginsWord word.KwElse c → BeginsOp op.Colon (past c) → IsBlock (past_two c) ss d → IsElse c ss d

  -- except+, where except: "except" (test ("as" NAME)?)? ":" block; one without a test is the last
  pub data AreHandlers : Cursor → Handlers → Cursor → Type 0 where
    handlers_bare : {c d : Cursor} {ss : Stmts} → BeginsWord word.KwExcept c → BeginsOp op.Colon (past c) → IsBlock (past_two c) ss d → AreHandlers c (handler None None ss (line_of c) no_handlers) d
    handlers_last : {c d f : Cursor} {e : Expr} {n : Option ℕ} {ss : Stmts} → BeginsWord word.KwExcept c → IsCaught (past c) e n d → BeginsOp op.Colon d → IsBlock (past d) ss f → AreHandlers c (handler (Some e) n ss (line_of c) no_handlers) f
    handlers_more : {c d f g : Cursor} {e : Expr} {n : Option ℕ} {ss : Stmts} {hs : Handlers} → BeginsWord word.KwExcept c → IsCaught (past c) e n d → BeginsOp op.Colon d → IsBlock (past d) ss f → AreHandlers f hs g → AreHandlers c (handler (Some e) n ss (line_of c) hs) g

  -- test ("as" NAME)?
  pub data IsCaught : Cursor → Expr → Option ℕ → Cursor → Type 0 where
    caught_test : {c d : Cursor} {e : Expr} → IsTest c e d → IsCaught c e None d
    caught_as : {c d : Cursor} {e : Expr} {n : ℕ} → IsTest c e d → BeginsWord word.KwAs d → IsName (past d) n → IsCaught c e (Some n) (past_two d)

  -- def: "def" NAME "(" params? ")" ("->" ann)? ":" block
  pub data IsFunction : Cursor → ℕ → FunDef → Cursor → Type 0 where
    function : {c d f g : Cursor} {n : ℕ} {ps : List Param} {ss : Stmts} → BeginsWord word.KwDef c → BeginsOp op.LeftParen (past_two c) → AreParams false (with_fun (past (past_two c))) ps d → BeginsOp op.RightParen d → IsResult (past d) f → BeginsOp op.Colon f → IsBlock (past f) ss g →
        IsFunction c n (fun_def c.funs n ps ss (line_of c)) g

  -- class: "class" NAME ("(" NAME? ")")? ":" members
  pub data IsClass : Cursor → ClassDef → Cursor → Type 0 where
    class : {c d f : Cursor} {n : ℕ} {b : Option ℕ} {ms : Members} → BeginsWord word.KwClass c → IsName (past c) n → IsBase (with_class (past_two c)) b d → BeginsOp op.Colon d → IsBody (within true (past d)) ms f →
        IsClass c (class_def c.classes n b ms (line_of c)) (within false f)

  -- members: member NEWLINE | NEWLINE INDENT (member NEWLINE | def)+ DEDENT
  pub data IsBody : Cursor → Members → Cursor → Type 0 where
    body_line : {c d : Cursor} {m : Member} → IsMember c m d → Begins kind.Newline d → IsBody c (member m no_members) (past d)
    body_indented : {c d f : Cursor} {m : Member} {ms : Members} → Begins kind.Newline c → Begins kind.Indent (past c) → IsEntry (past_two c) m d → AreEntries d ms f → Begins kind.Dedent f → IsBody c (member m ms) (past f)

  -- member NEWLINE | def
  pub data IsEntry : Cursor → Member → Cursor → Type 0 where
    entry_member : {c d : Cursor} {m : Member} → IsMember c m d → Begins kind.Newline d → IsEntry c m (past d)
    entry_method : {c d : Cursor} {n : ℕ} {f : FunDef} → IsPlainName (past c) n → IsFunction c n f d → IsEntry c (tree.method f) d

  -- (member NEWLINE | def)*
  pub data AreEntries : Cursor → Members → Cursor → Type 0 where
    entries_none : {c : Cursor} → AreEntries c no_members c
    entries_more : {c d f : Cursor} {m : Member} {ms : Members} → IsEntry c m d → AreEntries d ms f → AreEntries c (member m ms) f
