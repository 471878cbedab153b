-- The trees of the modules whose code Samples has.
use Rattle.std.specs.Prelude.{ℕ, false, [], ◌∷◌, codes}
use Rattle.place_ids.specs.declared.operators.BinOp.TheVariants as bin
use Rattle.place_ids.specs.declared.operators.CompareOp.TheVariants as cmp
use Rattle.place_ids.specs.declared.operators.UnaryOp.TheVariants as un
use Rattle.py_tree.specs.declared.literal.Literal.TheVariants as literal
use Rattle.py_tree.specs.Tree as tree
use Rattle.py_tree.specs.Tree.{Expr, node, no_exprs, expr, Stmt, statement, Stmts, no_stmts, stmt, no_arms, arm, Module}

abbrev pub name : ℕ → (line site : ℕ) → Expr
name n line site = node (tree.name n) line site

abbrev pub one : (line site : ℕ) → Expr
one line site = node (tree.literal (literal.Int false 1)) line site

abbrev pub none : (line site : ℕ) → Expr
none line site = node (tree.literal literal.NoneValue) line site

abbrev pub text : (line site : ℕ) → Expr
text line site = node (tree.literal (literal.Str false)) line site

-- `name = value`, whose name has the site
abbrev pub assign : ℕ → (line site : ℕ) → Expr → Stmt
assign n line site value = statement (tree.assign (expr (name n line site) no_exprs) value) line

abbrev pub expression : (line : ℕ) → Expr → Stmt
expression line e = statement (tree.expression e) line

abbrev pub only : Stmt → Stmts
only s = stmt s no_stmts

-- `x = 1`
abbrev pub line_tree : Module
line_tree = record { body = only (assign 0 1 0 (one 1 1)); names = codes "x" ∷ [] }

-- `nope`
abbrev pub unknown_tree : Module
unknown_tree = record { body = only (expression 1 (name 0 1 0)); names = codes "nope" ∷ [] }

-- `"a" + 1`
abbrev pub sum_tree : Module
sum_tree = record { body = only (expression 1 (node (tree.binary bin.Add (text 1 0) (one 1 1)) 1 2)); names = [] }

-- `-abs`
abbrev pub outside_tree : Module
outside_tree = record { body = only (expression 1 (node (tree.unary un.Minus (name 0 1 0)) 1 1)); names = codes "abs" ∷ [] }

-- `x = 1`, `while x == 1:` with `x = "a"`, `y = x`, `z = -x`
abbrev pub loop_tree : Module
loop_tree =
    record {
      body =
          stmt (assign 0 1 0 (one 1 1))
          (stmt (statement (tree.while (node (tree.compare cmp.Equal (name 0 2 2) (one 2 3)) 2 4) (only (assign 0 3 5 (text 3 6)))) 2)
          (stmt (assign 1 4 7 (name 0 4 8))
          (only (assign 2 5 9 (node (tree.unary un.Minus (name 0 5 10)) 5 11)))));
      names = codes "x" ∷ codes "y" ∷ codes "z" ∷ [];
    }

-- `x = None`, `if x is None:` with `y = 1`, `else:` with `y = "t"`
abbrev pub branch_tree : Module
branch_tree =
    record {
      body =
          stmt (assign 0 1 0 (none 1 1))
          (only (statement (tree.if (arm (node (tree.compare cmp.Is (name 0 2 2) (none 2 3)) 2 4) (only (assign 1 3 5 (one 3 6))) no_arms) (only (assign 1 5 7 (text 5 8)))) 2));
      names = codes "x" ∷ codes "y" ∷ [];
    }
