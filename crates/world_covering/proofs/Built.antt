-- Which instructions stand in the code of the forms that are covered.
use Rattle.std.proofs.Common.{◌≡◌, ℕ, ◌<◌, Bool, true, false, Some, None, [], refl, ap, ◌∙◌}
use Rattle.py_tree.specs.Tree as tree
use Rattle.py_tree.specs.Tree.{Expr, node, Exprs, no_exprs, expr, statement, StmtKind, Stmts, no_stmts, stmt, Arms, no_arms, arm, Module}
use Rattle.scope_rules.specs.WellFormed.{Surroundings, IsFormed, IsFormedKind, AreFormedStmts, AreFormedArms, AreFormedHere}
use Rattle.stack_code.specs.declared.op.Op.{Op}
use Rattle.stack_code.specs.declared.op.Op.TheVariants as op
use Rattle.tree_code.specs.Pieces.{Piece, ◌⨾◌, loop, fork}
use Rattle.tree_code.specs.Names.{kind_of}
use Rattle.tree_code.specs.Expressions.{value}
use Rattle.tree_code.specs.Programs.{in_module}
use Rattle.tree_code.specs.Statements.{put_all, kind_code, body_code, arms_code}
use Rattle.tree_covering.proofs.OnlyOps.{OnlyOps, nothing_only, one_only, then_only, again_only, out_only, over_only, fork_only, loop_only}
use Rattle.world_covering.specs.Forms.{IsPlain, AreNames, IsPlainKind, IsPlainBody, ArePlainArms}

-- names that are read have numbers below this one
abbrev pub IsBuilt : ℕ → Op → Type 0
IsBuilt names (op.LoadName n) = n < names
IsBuilt names (op.Const k) = Unit {0}
IsBuilt names (op.StoreName n) = Unit {0}
IsBuilt names (op.Pick below) = Unit {0}
IsBuilt names op.Pop = Unit {0}
IsBuilt names (op.Unary o) = Unit {0}
IsBuilt names op.Not = Unit {0}
IsBuilt names (op.Binary o site) = Unit {0}
IsBuilt names (op.InPlace o site) = Unit {0}
IsBuilt names (op.Compare o) = Unit {0}
IsBuilt names (op.Jump goal) = Unit {0}
IsBuilt names (op.JumpIfFalse goal) = Unit {0}
IsBuilt names (op.JumpIfFalseKeep goal) = Unit {0}
IsBuilt names (op.JumpIfTrueKeep goal) = Unit {0}
IsBuilt names op.Reraise = Unit {0}
IsBuilt names op.End = Unit {0}
IsBuilt names _ = ⊥

module _ (names error : ℕ) where
  abbrev pub Is : Op → Type 0
  Is o = IsBuilt names o

  -- in the module's own body, in a loop or not
  abbrev around : Bool → Surroundings
  around in_loop = record { names = names; in_loop = in_loop; in_function = false; in_method = false }

  -- ---- expressions

  value_built : (l : Bool) (x : Expr) → IsPlain x → IsFormed (around l) x → OnlyOps Is (value [] x)
  value_built l (node (tree.name n) line site) p f = one_only Is (op.LoadName n) line f
  value_built l (node (tree.literal x) line site) p f = one_only Is (op.Const (kind_of x)) line tt
  value_built l (node (tree.unary o a) line site) p f = then_only Is (value_built l a p f) (one_only Is (op.Unary o) line tt)
  value_built l (node (tree.binary o a b) line site) p f = then_only Is (value_built l a p.0 f.0) (then_only Is (value_built l b p.1 f.1) (one_only Is (op.Binary o site) line tt))
  value_built l (node (tree.compare o a b) line site) p f = then_only Is (value_built l a p.0 f.0) (then_only Is (value_built l b p.1 f.1) (one_only Is (op.Compare o) line tt))
  value_built l (node (tree.not a) line site) p f = then_only Is (value_built l a p f) (one_only Is op.Not line tt)
  value_built l (node (tree.and a b) line site) p f = then_only Is (value_built l a p.0 f.0) (over_only Is op.JumpIfFalseKeep line (λ goal. tt) (value_built l b p.1 f.1))
  value_built l (node (tree.or a b) line site) p f = then_only Is (value_built l a p.0 f.0) (over_only Is op.JumpIfTrueKeep line (λ goal. tt) (value_built l b p.1 f.1))
  value_built l (node (tree.choice a t b) line site) p f = then_only Is (value_built l t p.1 f.1) (fork_only Is (λ goal. tt) line (λ goal. tt) (value_built l a p.0 f.0) (value_built l b p.2 f.2))
  value_built l (node _ line site) p f = absurd p

  -- ---- statements

  puts_built : (line : ℕ) (xs : Exprs) → AreNames xs → OnlyOps Is (put_all [] line xs)
  puts_built line no_exprs p = one_only Is op.Pop line tt
  puts_built line (expr (node (tree.name n) at site) no_exprs) p = one_only Is (op.StoreName n) at tt
  puts_built line (expr (node (tree.name n) at site) (expr x xs)) p = then_only Is (one_only Is (op.Pick 0) line tt) (then_only Is (one_only Is (op.StoreName n) at tt) (puts_built line (expr x xs) p))
  puts_built line (expr (node _ at site) xs) p = absurd p

  mutual
    kind_built : (l : Bool) (line : ℕ) (kind : StmtKind) → IsPlainKind kind → IsFormedKind (around l) kind → OnlyOps Is (kind_code (in_module error) line kind)
    kind_built l line tree.pass p f = nothing_only Is
    kind_built l line tree.break p f = out_only Is (λ goal. tt) line
    kind_built l line tree.continue p f = again_only Is (λ goal. tt) line
    kind_built l line tree.ellipsis p f = nothing_only Is
    kind_built l line (tree.raise None None) p f = one_only Is op.Reraise line tt
    kind_built l line (tree.global ns) p f = nothing_only Is
    kind_built l line (tree.assign targets x) p f = then_only Is (value_built l x p.1 f.1) (puts_built line targets p.0)
    kind_built l line (tree.augment (node (tree.name n) at site) o x) p f =
        then_only Is (one_only Is (op.LoadName n) at f.0) (then_only Is (value_built l x p f.1) (then_only Is (one_only Is (op.InPlace o site) line tt) (one_only Is (op.StoreName n) at tt)))
    kind_built l line (tree.annotated (node (tree.name n) at site) None) p f = nothing_only Is
    kind_built l line (tree.annotated (node (tree.name n) at site) (Some x)) p f = then_only Is (value_built l x p f.1) (one_only Is (op.StoreName n) at tt)
    kind_built l line (tree.expression x) p f = then_only Is (value_built l x p f) (one_only Is op.Pop line tt)
    kind_built l line (tree.if arms otherwise) p f = arms_built l line arms (body_code (in_module error) otherwise) p.0 f.0 (body_built l otherwise p.1 f.1)
    kind_built l line (tree.while test body) p f = loop_only Is (λ goal. tt) op.JumpIfFalse line (λ goal. tt) (value_built l test p.0 f.0) (body_built true body p.1 f.1)
    kind_built l line _ p f = absurd p

    body_built : (l : Bool) (ss : Stmts) → IsPlainBody ss → AreFormedStmts (around l) ss → OnlyOps Is (body_code (in_module error) ss)
    body_built l no_stmts p f = nothing_only Is
    body_built l (stmt (statement kind line) rest) p f = then_only Is (kind_built l line kind p.0 f.0) (body_built l rest p.1 f.1)

    arms_built : (l : Bool) (line : ℕ) (arms : Arms) (otherwise : Piece) → ArePlainArms arms → AreFormedArms (around l) arms → OnlyOps Is otherwise → OnlyOps Is (arms_code (in_module error) line arms otherwise)
    arms_built l line no_arms otherwise p f h = h
    arms_built l line (arm test body rest) otherwise p f h =
        then_only Is (value_built l test p.0 f.0) (fork_only Is (λ goal. tt) line (λ goal. tt) (body_built l body p.1 f.1) (arms_built l line rest otherwise p.2 f.2 h))

  -- a module's own body has no definition among these forms
  here_formed : (ss : Stmts) → IsPlainBody ss → AreFormedHere names ss → AreFormedStmts (around false) ss
  here_formed no_stmts p f = tt
  here_formed (stmt (statement (tree.def d) line) rest) p f = absurd p.0
  here_formed (stmt (statement (tree.class c) line) rest) p f = absurd p.0
  here_formed (stmt (statement _ line) rest) p f = (f.0, here_formed rest p.1 f.1)

  pub module_built : (ss : Stmts) → IsPlainBody ss → AreFormedHere names ss → OnlyOps Is (body_code (in_module error) ss)
  module_built ss p f = body_built false ss p (here_formed ss p f)

-- ---- no code of these forms reads the name AssertionError, whatever its number is

module _ (one other : ℕ) where
  mutual
    same_kind : (line : ℕ) (kind : StmtKind) → IsPlainKind kind → kind_code (in_module one) line kind ≡ kind_code (in_module other) line kind
    same_kind line (tree.if arms otherwise) p = same_arms line arms (body_code (in_module one) otherwise) (body_code (in_module other) otherwise) p.0 (same_body otherwise p.1)
    same_kind line (tree.while test body) p = ap (λ z. loop op.JumpIfFalse line (value [] test) z) (same_body body p.1)
    same_kind line tree.pass p = refl
    same_kind line tree.break p = refl
    same_kind line tree.continue p = refl
    same_kind line tree.ellipsis p = refl
    same_kind line (tree.raise None None) p = refl
    same_kind line (tree.global ns) p = refl
    same_kind line (tree.assign targets x) p = refl
    same_kind line (tree.augment (node (tree.name n) at site) o x) p = refl
    same_kind line (tree.annotated (node (tree.name n) at site) None) p = refl
    same_kind line (tree.annotated (node (tree.name n) at site) (Some x)) p = refl
    same_kind line (tree.expression x) p = refl
    same_kind line _ p = absurd p

    pub same_body : (ss : Stmts) → IsPlainBody ss → body_code (in_module one) ss ≡ body_code (in_module other) ss
    same_body no_stmts p = refl
    same_body (stmt (statement kind line) rest) p =
        ap (λ z. z ⨾ body_code (in_module one) rest) (same_kind line kind p.0) ∙ ap (λ z. kind_code (in_module other) line kind ⨾ z) (same_body rest p.1)

    same_arms : (line : ℕ) (arms : Arms) (a b : Piece) → ArePlainArms arms → a ≡ b → arms_code (in_module one) line arms a ≡ arms_code (in_module other) line arms b
    same_arms line no_arms a b p e = e
    same_arms line (arm test body rest) a b p e =
        ap (λ z. value [] test ⨾ fork line z (arms_code (in_module one) line rest a)) (same_body body p.1)
        ∙ ap (λ z. value [] test ⨾ fork line (body_code (in_module other) body) z) (same_arms line rest a b p.2 e)
