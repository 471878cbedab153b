-- The code of a statement leaves the stack as it was.
use Rattle.std.proofs.Common.{◌≡◌, ℕ, suc, ◌-◌, ◌<◌, ◌≤◌, Bool, true, false, cond, Option, Some, None, List, [], ◌∷◌, refl, sym, subst, ◌∙◌, arith}
use Rattle.place_ids.specs.declared.operators.BinOp.{BinOp}
use Rattle.py_tree.specs.Tree.{Expr, node, name, attr, item, site_of, Exprs, no_exprs, expr, ImportPart, FromPart, Param, Stmt, statement, StmtKind, pass, break, continue, ellipsis, return, raise, assert, import, from, global, assign, augment, annotated, expression, if, while, for, try, def, class, Stmts, no_stmts, stmt, Arms, no_arms, arm, Handlers, no_handlers, handler, FunDef, fun_def, ClassDef, class_def, Member, pass_member, ellipsis_member, text, declared, method, Members, no_members, member}
use Rattle.py_tree.specs.Tree as tree
use Rattle.stack_code.specs.declared.op.Op.{Op}
use Rattle.stack_code.specs.declared.op.Op.TheVariants as op
use Rattle.stack_code.specs.declared.op.ConstKind.TheVariants as kind
use Rattle.stack_code.specs.Effects.{effect_of, falls, goal_of}
use Rattle.scope_rules.specs.NameLists.{place_of}
use Rattle.tree_code.specs.Pieces.{Piece, nothing, one, ◌⨾◌, go_out}
use Rattle.tree_code.specs.Names.{forget_at}
use Rattle.tree_code.specs.Expressions.{value, put}
use Rattle.tree_code.specs.Statements.{Place, in_while, in_for, value_or_none, dropped, raised, first_of, bound_by, imports, froms, put_all, augmented, annotates, caught, uncaught, member_values, defines, defines_class, kind_code, body_code, arms_code, handlers_code}
use Rattle.tree_code.specs.Programs.{params_code}
use Rattle.tree_code.specs.Flows.{Flows, Nothing}
use Rattle.tree_code.specs.Depths.{value_or_none_depths, dropped_depths, raised_depths, imports_depths, froms_depths, put_all_depths, augmented_depths, annotates_depths, member_depths, class_depths, uncaught_depths, params_depths, kind_depths, body_depths, arms_depths, handlers_depths}
use Rattle.tree_code.proofs.Flows.{nothing_flows, one_flows, again_flows, out_flows, IsBranch, fork_branch, over_flows, past_flows, fork_flows, loop_flows, guarded_flows}
use Rattle.tree_code.proofs.ValueFlows.{Flow, op_flow, also, load_flows, store_flows, value_flows, put_flows}

module _ (again out : ℕ) where
  -- leaves the depth as it is
  abbrev Keeps : ℕ → List ℕ → Piece → Type 0
  Keeps depth own a = Flow again out depth depth own a

  pop_flow : (line depth : ℕ) → Flow again out (suc depth) depth (suc depth ∷ []) (one op.Pop line)
  pop_flow line depth = op_flow again out op.Pop line (suc depth) depth (omega arith) (omega arith) refl

  value_or_none_flows : (locals : List ℕ) (line : ℕ) (x : Option Expr) (depth : ℕ) → Flow again out depth (suc depth) (value_or_none_depths x depth) (value_or_none locals line x)
  value_or_none_flows locals line None depth = op_flow again out (op.Const kind.NoneValue) line depth (suc depth) (omega arith) (omega arith) refl
  value_or_none_flows locals line (Some x) depth = value_flows again out locals x depth

  dropped_flows : (locals : List ℕ) (line : ℕ) (x : Option Expr) (depth : ℕ) → Keeps depth (dropped_depths x depth) (dropped locals line x)
  dropped_flows locals line None depth = nothing_flows again out depth
  dropped_flows locals line (Some x) depth = also again out (value_flows again out locals x depth) (pop_flow line depth)

  -- an instruction that goes on to no next place
  last_flow : (o : Op) (line before after : ℕ) → (effect_of o).needs ≤ before → falls o ≡ false → goal_of o ≡ None → Flow again out before after (before ∷ []) (one o line)
  last_flow o line before after enough ends stays = one_flows again out o line before after enough (λ f. let z : true ≡ false = sym f ∙ ends in cc) stays

  raised_flows : (locals : List ℕ) (line : ℕ) (x cause : Option Expr) (depth : ℕ) → Keeps depth (raised_depths x cause depth) (raised locals line x cause)
  raised_flows locals line None cause depth = last_flow op.Reraise line depth depth (omega arith) refl refl
  raised_flows locals line (Some x) cause depth =
      also again out (value_flows again out locals x depth) (also again out (dropped_flows locals line cause (suc depth))
      (also again out (op_flow again out (op.MakeRaised (site_of x)) line (suc depth) (suc depth) (omega arith) (omega arith) refl) (last_flow op.Raise line (suc depth) depth (omega arith) refl refl)))

  assert_branch : (depth : ℕ) → IsBranch again out op.JumpIfTrue (suc depth) depth depth
  assert_branch depth = record { goal = λ place. refl; enough = λ place. omega arith; goes = λ place f. omega arith; leaves = λ place. omega arith }

  imports_flows : (locals : List ℕ) (line : ℕ) (ps : List ImportPart) (depth : ℕ) → Keeps depth (imports_depths ps depth) (imports locals line ps)
  imports_flows locals line [] depth = nothing_flows again out depth
  imports_flows locals line (p ∷ ps) depth =
      also again out (op_flow again out (op.Import p.path) line depth (suc depth) (omega arith) (omega arith) refl) (also again out (store_flows again out locals (bound_by p.alias (first_of p.path)) line depth) (imports_flows locals line ps depth))

  froms_flows : (locals : List ℕ) (line : ℕ) (path : List ℕ) (ps : List FromPart) (depth : ℕ) → Keeps depth (froms_depths ps depth) (froms locals line path ps)
  froms_flows locals line path [] depth = nothing_flows again out depth
  froms_flows locals line path (p ∷ ps) depth =
      also again out (op_flow again out (op.ImportFrom path p.name) line depth (suc depth) (omega arith) (omega arith) refl) (also again out (store_flows again out locals (bound_by p.alias p.name) line depth) (froms_flows locals line path ps depth))

  put_all_flows : (locals : List ℕ) (line : ℕ) (xs : Exprs) (depth : ℕ) → Flow again out (suc depth) depth (put_all_depths xs depth) (put_all locals line xs)
  put_all_flows locals line no_exprs depth = pop_flow line depth
  put_all_flows locals line (expr x no_exprs) depth = put_flows again out locals x depth
  put_all_flows locals line (expr x (expr y ys)) depth =
      also again out (op_flow again out (op.Pick 0) line (suc depth) (suc (suc depth)) (omega arith) (omega arith) refl) (also again out (put_flows again out locals x (suc depth)) (put_all_flows locals line (expr y ys) depth))

  augmented_flows : (locals : List ℕ) (line : ℕ) (target : Expr) (o : BinOp) (x : Expr) (depth : ℕ) → Keeps depth (augmented_depths target x depth) (augmented locals line target o x)
  augmented_flows locals line (node (name n) at site) o x depth =
      also again out (load_flows again out locals n at depth) (also again out (value_flows again out locals x (suc depth))
      (also again out (op_flow again out (op.InPlace o site) line (suc (suc depth)) (suc depth) (omega arith) (omega arith) refl) (store_flows again out locals n at depth)))
  augmented_flows locals line (node (attr a n) at site) o x depth =
      also again out (value_flows again out locals a depth) (also again out (op_flow again out (op.Pick 0) at (suc depth) (suc (suc depth)) (omega arith) (omega arith) refl)
      (also again out (op_flow again out (op.Attr n) at (suc (suc depth)) (suc (suc depth)) (omega arith) (omega arith) refl) (also again out (value_flows again out locals x (suc (suc depth)))
      (also again out (op_flow again out (op.InPlace o site) line (suc (suc (suc depth))) (suc (suc depth)) (omega arith) (omega arith) refl) (op_flow again out (op.StoreAttr n) at (suc (suc depth)) depth (omega arith) (omega arith) refl)))))
  augmented_flows locals line (node (item a i) at site) o x depth =
      also again out (value_flows again out locals a depth) (also again out (value_flows again out locals i (suc depth))
      (also again out (op_flow again out (op.Pick 1) at (suc (suc depth)) (suc (suc (suc depth))) (omega arith) (omega arith) refl)
      (also again out (op_flow again out (op.Pick 1) at (suc (suc (suc depth))) (suc (suc (suc (suc depth)))) (omega arith) (omega arith) refl)
      (also again out (op_flow again out op.Item at (suc (suc (suc (suc depth)))) (suc (suc (suc depth))) (omega arith) (omega arith) refl) (also again out (value_flows again out locals x (suc (suc (suc depth))))
      (also again out (op_flow again out (op.InPlace o site) line (suc (suc (suc (suc depth)))) (suc (suc (suc depth))) (omega arith) (omega arith) refl)
      (op_flow again out op.StoreItem at (suc (suc (suc depth))) depth (omega arith) (omega arith) refl)))))))
  augmented_flows locals line (node _ at site) o x depth = nothing_flows again out depth

  annotates_flows : (locals : List ℕ) (line : ℕ) (target : Expr) (x : Option Expr) (depth : ℕ) → Keeps depth (annotates_depths target x depth) (annotates locals line target x)
  annotates_flows locals line target (Some x) depth = also again out (value_flows again out locals x depth) (put_flows again out locals target depth)
  annotates_flows locals line (node (attr a n) at site) None depth = also again out (value_flows again out locals a depth) (pop_flow line depth)
  annotates_flows locals line (node _ at site) None depth = nothing_flows again out depth

  caught_flows : (locals : List ℕ) (line : ℕ) (n : Option ℕ) (depth : ℕ) → Flow again out (suc depth) depth (suc depth ∷ []) (caught locals line n)
  caught_flows locals line None depth = pop_flow line depth
  caught_flows locals line (Some n) depth = store_flows again out locals n line depth

  forget_flow : (n : ℕ) (o : Option ℕ) (line depth : ℕ) → Keeps depth (depth ∷ []) (one (forget_at n o) line)
  forget_flow n None line depth = op_flow again out (op.ForgetName n) line depth depth (omega arith) (omega arith) refl
  forget_flow n (Some local) line depth = op_flow again out (op.ForgetLocal local) line depth depth (omega arith) (omega arith) refl

  uncaught_flows : (locals : List ℕ) (line : ℕ) (n : Option ℕ) (depth : ℕ) → Keeps depth (uncaught_depths n depth) (uncaught locals line n)
  uncaught_flows locals line None depth = nothing_flows again out depth
  uncaught_flows locals line (Some n) depth = forget_flow n (place_of locals n) line depth

  member_flows : (number : ℕ) (ms : Members) (depth : ℕ) → Keeps depth (member_depths ms depth) (member_values number ms)
  member_flows number no_members depth = nothing_flows again out depth
  member_flows number (member (tree.value n x line) ms) depth =
      also again out (value_flows again out [] x depth) (also again out (op_flow again out (op.StoreMember number n) line (suc depth) depth (omega arith) (omega arith) refl) (member_flows number ms depth))
  member_flows number (member (declared n (Some x) line) ms) depth =
      also again out (value_flows again out [] x depth) (also again out (op_flow again out (op.StoreMember number n) line (suc depth) depth (omega arith) (omega arith) refl) (member_flows number ms depth))
  member_flows number (member (declared n None line) ms) depth = member_flows number ms depth
  member_flows number (member pass_member ms) depth = member_flows number ms depth
  member_flows number (member ellipsis_member ms) depth = member_flows number ms depth
  member_flows number (member text ms) depth = member_flows number ms depth
  member_flows number (member (method f) ms) depth = member_flows number ms depth

  defines_flows : (line : ℕ) (f : FunDef) (depth : ℕ) → Keeps depth (depth ∷ suc depth ∷ []) (defines line f)
  defines_flows line (fun_def id n params body at) depth =
      also again out (op_flow again out (op.Fun id) line depth (suc depth) (omega arith) (omega arith) refl) (op_flow again out (op.StoreName n) line (suc depth) depth (omega arith) (omega arith) refl)

  defines_class_flows : (line : ℕ) (c : ClassDef) (depth : ℕ) → Keeps depth (class_depths c depth) (defines_class line c)
  defines_class_flows line (class_def id n base inside at) depth =
      also again out (member_flows id inside depth) (also again out (op_flow again out (op.Class id) line depth (suc depth) (omega arith) (omega arith) refl) (op_flow again out (op.StoreName n) line (suc depth) depth (omega arith) (omega arith) refl))

  pub params_flows : (line number : ℕ) (ps : List Param) (depth : ℕ) → Keeps depth (params_depths ps depth) (params_code line number ps)
  params_flows line number [] depth = nothing_flows again out depth
  params_flows line number (p ∷ ps) depth = also again out (op_flow again out (op.Param number) line depth depth (omega arith) (omega arith) refl) (params_flows line (suc number) ps depth)

-- the depth where the innermost loop is left
abbrev pub out_of : Place → ℕ
out_of at = cond at.keeps (at.depth - 1) at.depth

-- what is kept on the stack lies on it
abbrev pub IsFine : Place → Type 0
IsFine at = at.keeps ≡ true → 0 < at.depth

abbrev pub Stays : Place → List ℕ → Piece → Type 0
Stays at own a = Flows Nothing at.depth (out_of at) at.depth at.depth own a

break_flows : (line depth : ℕ) (keeps : Bool) → (keeps ≡ true → 0 < depth) → Flows Nothing depth (cond keeps (depth - 1) depth) depth depth (cond keeps (depth ∷ (depth - 1) ∷ []) (depth ∷ [])) (cond keeps (one op.Pop line ⨾ go_out line) (go_out line))
break_flows line depth false fine = out_flows depth depth line depth
break_flows line depth true fine = also depth (depth - 1) (op_flow depth (depth - 1) op.Pop line depth (depth - 1) (omega (arith, fine refl)) (omega arith) refl) (out_flows depth (depth - 1) line depth)

next_branch : (again out depth : ℕ) → IsBranch again out op.ForNext (suc depth) (suc (suc depth)) depth
next_branch again out depth = record { goal = λ place. refl; enough = λ place. omega arith; goes = λ place f. omega arith; leaves = λ place. omega arith }

mutual
  pub kind_flows : (at : Place) → IsFine at → (line : ℕ) (kind : StmtKind) → Stays at (kind_depths at kind) (kind_code at line kind)
  kind_flows at fine line pass = nothing_flows at.depth (out_of at) at.depth
  kind_flows at fine line break = break_flows line at.depth at.keeps fine
  kind_flows at fine line continue = again_flows at.depth (out_of at) line at.depth
  kind_flows at fine line ellipsis = nothing_flows at.depth (out_of at) at.depth
  kind_flows at fine line (return x) = also at.depth (out_of at) (value_or_none_flows at.depth (out_of at) at.locals line x at.depth) (last_flow at.depth (out_of at) op.Return line (suc at.depth) at.depth (omega arith) refl refl)
  kind_flows at fine line (raise x cause) = raised_flows at.depth (out_of at) at.locals line x cause at.depth
  kind_flows at fine line (assert test message) =
      also at.depth (out_of at) (value_flows at.depth (out_of at) at.locals test at.depth)
      (over_flows at.depth (out_of at) op.JumpIfTrue line (suc at.depth) at.depth at.depth (dropped at.locals line message ⨾ one (op.LoadName at.error) line ⨾ one (op.MakeRaised (site_of test)) line ⨾ one op.Raise line) (assert_branch at.depth (out_of at) at.depth)
      (also at.depth (out_of at) (dropped_flows at.depth (out_of at) at.locals line message at.depth) (also at.depth (out_of at) (op_flow at.depth (out_of at) (op.LoadName at.error) line at.depth (suc at.depth) (omega arith) (omega arith) refl)
      (also at.depth (out_of at) (op_flow at.depth (out_of at) (op.MakeRaised (site_of test)) line (suc at.depth) (suc at.depth) (omega arith) (omega arith) refl) (last_flow at.depth (out_of at) op.Raise line (suc at.depth) at.depth (omega arith) refl refl)))))
  kind_flows at fine line (import ps) = imports_flows at.depth (out_of at) at.locals line ps at.depth
  kind_flows at fine line (from path ps) = froms_flows at.depth (out_of at) at.locals line path ps at.depth
  kind_flows at fine line (global ns) = nothing_flows at.depth (out_of at) at.depth
  kind_flows at fine line (assign targets x) = also at.depth (out_of at) (value_flows at.depth (out_of at) at.locals x at.depth) (put_all_flows at.depth (out_of at) at.locals line targets at.depth)
  kind_flows at fine line (augment target o x) = augmented_flows at.depth (out_of at) at.locals line target o x at.depth
  kind_flows at fine line (annotated target x) = annotates_flows at.depth (out_of at) at.locals line target x at.depth
  kind_flows at fine line (expression x) = also at.depth (out_of at) (value_flows at.depth (out_of at) at.locals x at.depth) (pop_flow at.depth (out_of at) line at.depth)
  kind_flows at fine line (if arms otherwise) = arms_flows at fine line arms (body_code at otherwise) (body_flows at fine otherwise)
  kind_flows at fine line (while test body) =
      loop_flows at.depth (out_of at) op.JumpIfFalse line at.depth (suc at.depth) at.depth at.depth (value at.locals test) (body_code (in_while at) body)
      (value_flows at.depth (out_of at) at.locals test at.depth) (fork_branch at.depth (out_of at) at.depth) (body_flows (in_while at) (λ e. cc) body)
  kind_flows at fine line (for target through body) =
      also at.depth (out_of at) (value_flows at.depth (out_of at) at.locals through at.depth)
      (loop_flows at.depth (out_of at) op.ForNext line (suc at.depth) (suc at.depth) (suc (suc at.depth)) at.depth nothing (put at.locals target ⨾ body_code (in_for at) body)
      (nothing_flows at.depth (out_of at) (suc at.depth)) (next_branch at.depth (out_of at) at.depth)
      (also (suc at.depth) at.depth (put_flows (suc at.depth) at.depth at.locals target (suc at.depth))
      (let less : suc at.depth - 1 ≡ at.depth = omega arith in subst (λ o. Flows Nothing (suc at.depth) o (suc at.depth) (suc at.depth) (body_depths (in_for at) body) (body_code (in_for at) body)) less (body_flows (in_for at) (λ e. omega arith) body))))
  kind_flows at fine line (try body handlers otherwise) =
      guarded_flows at.depth (out_of at) at.depth line at.depth at.depth (body_code at body) (body_code at otherwise) (one op.Caught line ⨾ handlers_code at line handlers)
      (also at.depth (out_of at) (body_flows at fine body) (body_flows at fine otherwise))
      (also at.depth (out_of at) (op_flow at.depth (out_of at) op.Caught line at.depth (suc at.depth) (omega arith) (omega arith) refl) (handlers_flows at fine line handlers))
  kind_flows at fine line (def f) = defines_flows at.depth (out_of at) line f at.depth
  kind_flows at fine line (class c) = defines_class_flows at.depth (out_of at) line c at.depth

  pub body_flows : (at : Place) → IsFine at → (body : Stmts) → Stays at (body_depths at body) (body_code at body)
  body_flows at fine no_stmts = nothing_flows at.depth (out_of at) at.depth
  body_flows at fine (stmt (statement kind line) rest) = also at.depth (out_of at) (kind_flows at fine line kind) (body_flows at fine rest)

  pub arms_flows : (at : Place) → IsFine at → (line : ℕ) (arms : Arms) {own : List ℕ} (otherwise : Piece) → Stays at own otherwise → Stays at (arms_depths at arms own) (arms_code at line arms otherwise)
  arms_flows at fine line no_arms otherwise f = f
  arms_flows at fine line (arm test body rest) otherwise f =
      also at.depth (out_of at) (value_flows at.depth (out_of at) at.locals test at.depth)
      (fork_flows at.depth (out_of at) line at.depth at.depth (body_code at body) (arms_code at line rest otherwise) (body_flows at fine body) (arms_flows at fine line rest otherwise f))

  pub handlers_flows : (at : Place) → IsFine at → (line : ℕ) (handlers : Handlers) → Flows Nothing at.depth (out_of at) (suc at.depth) at.depth (handlers_depths at handlers) (handlers_code at line handlers)
  handlers_flows at fine line no_handlers = also at.depth (out_of at) (pop_flow at.depth (out_of at) line at.depth) (last_flow at.depth (out_of at) op.Reraise line at.depth at.depth (omega arith) refl refl)
  handlers_flows at fine line (handler None n body own rest) =
      past_flows at.depth (out_of at) own (suc at.depth) (suc at.depth) at.depth (caught at.locals own n ⨾ body_code at body ⨾ uncaught at.locals own n) (handlers_code at line rest)
      (also at.depth (out_of at) (caught_flows at.depth (out_of at) at.locals own n at.depth) (also at.depth (out_of at) (body_flows at fine body) (uncaught_flows at.depth (out_of at) at.locals own n at.depth)))
      (handlers_flows at fine line rest)
  handlers_flows at fine line (handler (Some x) n body own rest) =
      also at.depth (out_of at) (value_flows at.depth (out_of at) at.locals x (suc at.depth))
      (also at.depth (out_of at) (op_flow at.depth (out_of at) op.MatchError own (suc (suc at.depth)) (suc (suc at.depth)) (omega arith) (omega arith) refl)
      (fork_flows at.depth (out_of at) own (suc at.depth) at.depth (caught at.locals own n ⨾ body_code at body ⨾ uncaught at.locals own n) (handlers_code at line rest)
      (also at.depth (out_of at) (caught_flows at.depth (out_of at) at.locals own n at.depth) (also at.depth (out_of at) (body_flows at fine body) (uncaught_flows at.depth (out_of at) at.locals own n at.depth)))
      (handlers_flows at fine line rest)))
