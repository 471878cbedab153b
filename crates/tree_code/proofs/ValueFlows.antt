-- The code of an expression pushes one slot, and that of a target takes one.
use Rattle.std.proofs.Common.{◌≡◌, ℕ, suc, zero, ◌+◌, ◌-◌, ◌*◌, ◌≤◌, Option, Some, None, List, [], ◌∷◌, ◌++◌, length, refl, subst, arith}
use Rattle.py_tree.specs.Tree.{Expr, node, name, literal, unary, binary, compare, not, and, or, choice, attr, super, item, slice, call, tuple, list, dict, Exprs, no_exprs, expr, Bound, no_bound, bound, Args, no_args, arg, Pairs, no_pairs, pair}
use Rattle.stack_code.specs.declared.op.Op.{Op}
use Rattle.stack_code.specs.declared.op.Op.TheVariants as op
use Rattle.stack_code.specs.declared.op.ConstKind.TheVariants as kind
use Rattle.stack_code.specs.Effects.{effect_of, goal_of, depth_after}
use Rattle.scope_rules.specs.NameLists.{place_of}
use Rattle.tree_code.specs.Pieces.{Piece, one, ◌⨾◌}
use Rattle.tree_code.specs.Names.{kind_of, load, load_at, store, store_at}
use Rattle.tree_code.specs.Expressions.{count, pair_count, positionals, keywords, value, values, bound_value, arguments, pairs, parts, put, puts}
use Rattle.tree_code.specs.Flows.{Flows, Nothing}
use Rattle.tree_code.specs.Depths.{value_depths, values_depths, bound_depths, argument_depths, pairs_depths, parts_depths, put_depths, puts_depths}
use Rattle.tree_code.proofs.Flows.{nothing_flows, one_flows, both_flow, IsBranch, over_flows, fork_flows}

module _ (again out : ℕ) where
  abbrev pub Flow : ℕ → ℕ → List ℕ → Piece → Type 0
  Flow before after own a = Flows Nothing again out before after own a

  pub op_flow : (op : Op) (line before after : ℕ) → (effect_of op).needs ≤ before → after ≡ depth_after op before → goal_of op ≡ None → Flow before after (before ∷ []) (one op line)
  op_flow op line before after enough e stays = one_flows again out op line before after enough (λ f. e) stays

  pub also : {before middle after : ℕ} {own others : List ℕ} {a b : Piece} → Flow before middle own a → Flow middle after others b → Flow before after (own ++ others) (a ⨾ b)
  also {before} {middle} {after} {a = a} {b = b} f g = both_flow again out before middle after a b f g

  pub same_depth : {before after other : ℕ} {own : List ℕ} {a : Piece} → after ≡ other → Flow before after own a → Flow before other own a
  same_depth {before} {after} {other} {own} {a} e f = subst (λ d. Flow before d own a) e f

  load_flow : (n : ℕ) (o : Option ℕ) (line depth : ℕ) → Flow depth (suc depth) (depth ∷ []) (one (load_at n o) line)
  load_flow n None line depth = op_flow (op.LoadName n) line depth (suc depth) (omega arith) (omega arith) refl
  load_flow n (Some local) line depth = op_flow (op.LoadLocal local) line depth (suc depth) (omega arith) (omega arith) refl

  pub load_flows : (locals : List ℕ) (n line depth : ℕ) → Flow depth (suc depth) (depth ∷ []) (one (load locals n) line)
  load_flows locals n line depth = load_flow n (place_of locals n) line depth

  store_flow : (n : ℕ) (o : Option ℕ) (line depth : ℕ) → Flow (suc depth) depth (suc depth ∷ []) (one (store_at n o) line)
  store_flow n None line depth = op_flow (op.StoreName n) line (suc depth) depth (omega arith) (omega arith) refl
  store_flow n (Some local) line depth = op_flow (op.StoreLocal local) line (suc depth) depth (omega arith) (omega arith) refl

  pub store_flows : (locals : List ℕ) (n line depth : ℕ) → Flow (suc depth) depth (suc depth ∷ []) (one (store locals n) line)
  store_flows locals n line depth = store_flow n (place_of locals n) line depth

  and_branch : (depth : ℕ) → IsBranch again out op.JumpIfFalseKeep (suc depth) depth (suc depth)
  and_branch depth = record { goal = λ place. refl; enough = λ place. omega arith; goes = λ place f. omega arith; leaves = λ place. omega arith }

  or_branch : (depth : ℕ) → IsBranch again out op.JumpIfTrueKeep (suc depth) depth (suc depth)
  or_branch depth = record { goal = λ place. refl; enough = λ place. omega arith; goes = λ place f. omega arith; leaves = λ place. omega arith }

  mutual
    pub value_flows : (locals : List ℕ) (e : Expr) (depth : ℕ) → Flow depth (suc depth) (value_depths e depth) (value locals e)
    value_flows locals (node (name n) line site) depth = load_flows locals n line depth
    value_flows locals (node (literal x) line site) depth = op_flow (op.Const (kind_of x)) line depth (suc depth) (omega arith) (omega arith) refl
    value_flows locals (node (unary o a) line site) depth = also (value_flows locals a depth) (op_flow (op.Unary o) line (suc depth) (suc depth) (omega arith) (omega arith) refl)
    value_flows locals (node (binary o a b) line site) depth = also (value_flows locals a depth) (also (value_flows locals b (suc depth)) (op_flow (op.Binary o site) line (suc (suc depth)) (suc depth) (omega arith) (omega arith) refl))
    value_flows locals (node (compare o a b) line site) depth = also (value_flows locals a depth) (also (value_flows locals b (suc depth)) (op_flow (op.Compare o) line (suc (suc depth)) (suc depth) (omega arith) (omega arith) refl))
    value_flows locals (node (not a) line site) depth = also (value_flows locals a depth) (op_flow op.Not line (suc depth) (suc depth) (omega arith) (omega arith) refl)
    value_flows locals (node (and a b) line site) depth = also (value_flows locals a depth) (over_flows again out op.JumpIfFalseKeep line (suc depth) depth (suc depth) (value locals b) (and_branch depth) (value_flows locals b depth))
    value_flows locals (node (or a b) line site) depth = also (value_flows locals a depth) (over_flows again out op.JumpIfTrueKeep line (suc depth) depth (suc depth) (value locals b) (or_branch depth) (value_flows locals b depth))
    value_flows locals (node (choice a test b) line site) depth = also (value_flows locals test depth) (fork_flows again out line depth (suc depth) (value locals a) (value locals b) (value_flows locals a depth) (value_flows locals b depth))
    value_flows locals (node (attr a n) line site) depth = also (value_flows locals a depth) (op_flow (op.Attr n) line (suc depth) (suc depth) (omega arith) (omega arith) refl)
    value_flows locals (node (super n) line site) depth = op_flow (op.Super n) line depth (suc depth) (omega arith) (omega arith) refl
    value_flows locals (node (item a i) line site) depth = also (value_flows locals a depth) (also (value_flows locals i (suc depth)) (op_flow op.Item line (suc (suc depth)) (suc depth) (omega arith) (omega arith) refl))
    value_flows locals (node (slice a b c d) line site) depth =
        also (value_flows locals a depth) (also (bound_flows locals line b (suc depth)) (also (bound_flows locals line c (suc (suc depth))) (also (bound_flows locals line d (suc (suc (suc depth))))
        (op_flow (op.Slice site) line (suc (suc (suc (suc depth)))) (suc depth) (omega arith) (omega arith) refl))))
    value_flows locals (node (call f xs) line site) depth =
        also (value_flows locals f depth) (also (argument_flows locals xs (suc depth) (suc depth + (positionals xs + length (keywords xs))) refl)
        (op_flow (op.Call (positionals xs) (keywords xs) site) line (suc depth + (positionals xs + length (keywords xs))) (suc depth) (omega arith) (omega arith) refl))
    value_flows locals (node (tuple xs) line site) depth = also (values_flow locals xs depth (depth + count xs) refl) (op_flow (op.NewTuple (count xs) site) line (depth + count xs) (suc depth) (omega arith) (omega arith) refl)
    value_flows locals (node (list xs) line site) depth = also (values_flow locals xs depth (depth + count xs) refl) (op_flow (op.NewList (count xs) site) line (depth + count xs) (suc depth) (omega arith) (omega arith) refl)
    value_flows locals (node (dict ps) line site) depth = also (pairs_flow locals ps depth (depth + 2 * pair_count ps) refl) (op_flow (op.NewDict (pair_count ps) site) line (depth + 2 * pair_count ps) (suc depth) (omega arith) (omega arith) refl)

    pub values_flow : (locals : List ℕ) (xs : Exprs) (depth after : ℕ) → after ≡ depth + count xs → Flow depth after (values_depths xs depth) (values locals xs)
    values_flow locals no_exprs depth after e = same_depth (omega (arith, e)) (nothing_flows again out depth)
    values_flow locals (expr x xs) depth after e = also (value_flows locals x depth) (values_flow locals xs (suc depth) after (omega (arith, e)))

    pub bound_flows : (locals : List ℕ) (line : ℕ) (b : Bound) (depth : ℕ) → Flow depth (suc depth) (bound_depths b depth) (bound_value locals line b)
    bound_flows locals line no_bound depth = op_flow (op.Const kind.NoneValue) line depth (suc depth) (omega arith) (omega arith) refl
    bound_flows locals line (bound x) depth = value_flows locals x depth

    pub argument_flows : (locals : List ℕ) (xs : Args) (depth after : ℕ) → after ≡ depth + (positionals xs + length (keywords xs)) → Flow depth after (argument_depths xs depth) (arguments locals xs)
    argument_flows locals no_args depth after e = same_depth (omega (arith, e)) (nothing_flows again out depth)
    argument_flows locals (arg None x xs) depth after e = also (value_flows locals x depth) (argument_flows locals xs (suc depth) after (omega (arith, e)))
    argument_flows locals (arg (Some n) x xs) depth after e = also (value_flows locals x depth) (argument_flows locals xs (suc depth) after (omega (arith, e)))

    pub pairs_flow : (locals : List ℕ) (ps : Pairs) (depth after : ℕ) → after ≡ depth + 2 * pair_count ps → Flow depth after (pairs_depths ps depth) (pairs locals ps)
    pairs_flow locals no_pairs depth after e = same_depth (omega (arith, e)) (nothing_flows again out depth)
    pairs_flow locals (pair k x ps) depth after e = also (value_flows locals k depth) (also (value_flows locals x (suc depth)) (pairs_flow locals ps (suc (suc depth)) after (omega (arith, e))))

  -- ---- targets

  parts_flow : (line total part depth before after : ℕ) → part ≤ total → before ≡ suc depth + (total - part) → after ≡ suc depth + total → Flow before after (parts_depths part before) (parts line total part)
  parts_flow line total zero depth before after l b e = same_depth (omega (arith, b, e)) (nothing_flows again out before)
  parts_flow line total (suc part) depth before after l b e =
      also (op_flow (op.Part part total) line before (suc before) (omega (arith, b, l)) (omega arith) refl) (parts_flow line total part depth (suc before) after (omega (arith, l)) (omega (arith, b, l)) e)

  drop_flows : (line depth : ℕ) → Flow (suc depth) depth (suc depth ∷ []) (one op.Pop line)
  drop_flows line depth = op_flow op.Pop line (suc depth) depth (omega arith) (omega arith) refl

  unpack_flows : (locals : List ℕ) (xs : Exprs) (line depth : ℕ) → Flow (suc depth + count xs) (suc depth) (puts_depths xs (suc depth)) (puts locals xs) → Flow (suc depth) depth (parts_depths (count xs) (suc depth) ++ (puts_depths xs (suc depth) ++ suc depth ∷ [])) (parts line (count xs) (count xs) ⨾ puts locals xs ⨾ one op.Pop line)
  unpack_flows locals xs line depth f =
      also (parts_flow line (count xs) (count xs) depth (suc depth) (suc depth + count xs) (omega arith) (omega arith) refl) (also f (drop_flows line depth))

  mutual
    pub put_flows : (locals : List ℕ) (e : Expr) (depth : ℕ) → Flow (suc depth) depth (put_depths e depth) (put locals e)
    put_flows locals (node (name n) line site) depth = store_flows locals n line depth
    put_flows locals (node (attr a n) line site) depth =
        also (value_flows locals a (suc depth)) (also (op_flow (op.Pick 1) line (suc (suc depth)) (suc (suc (suc depth))) (omega arith) (omega arith) refl)
        (also (op_flow (op.StoreAttr n) line (suc (suc (suc depth))) (suc depth) (omega arith) (omega arith) refl) (op_flow op.Pop line (suc depth) depth (omega arith) (omega arith) refl)))
    put_flows locals (node (item a i) line site) depth =
        also (value_flows locals a (suc depth)) (also (value_flows locals i (suc (suc depth))) (also (op_flow (op.Pick 2) line (suc (suc (suc depth))) (suc (suc (suc (suc depth)))) (omega arith) (omega arith) refl)
        (also (op_flow op.StoreItem line (suc (suc (suc (suc depth)))) (suc depth) (omega arith) (omega arith) refl) (op_flow op.Pop line (suc depth) depth (omega arith) (omega arith) refl))))
    put_flows locals (node (tuple xs) line site) depth = unpack_flows locals xs line depth (puts_flow locals xs (suc depth + count xs) (suc depth) refl)
    put_flows locals (node (list xs) line site) depth = unpack_flows locals xs line depth (puts_flow locals xs (suc depth + count xs) (suc depth) refl)
    put_flows locals (node (literal x) line site) depth = drop_flows line depth
    put_flows locals (node (unary o a) line site) depth = drop_flows line depth
    put_flows locals (node (binary o a b) line site) depth = drop_flows line depth
    put_flows locals (node (compare o a b) line site) depth = drop_flows line depth
    put_flows locals (node (not a) line site) depth = drop_flows line depth
    put_flows locals (node (and a b) line site) depth = drop_flows line depth
    put_flows locals (node (or a b) line site) depth = drop_flows line depth
    put_flows locals (node (choice a b c) line site) depth = drop_flows line depth
    put_flows locals (node (super n) line site) depth = drop_flows line depth
    put_flows locals (node (slice a b c d) line site) depth = drop_flows line depth
    put_flows locals (node (call f xs) line site) depth = drop_flows line depth
    put_flows locals (node (dict ps) line site) depth = drop_flows line depth

    pub puts_flow : (locals : List ℕ) (xs : Exprs) (before after : ℕ) → before ≡ after + count xs → Flow before after (puts_depths xs after) (puts locals xs)
    puts_flow locals no_exprs before after e = same_depth (omega (arith, e)) (nothing_flows again out before)
    puts_flow locals (expr x xs) before after e = subst (λ d. Flow d after (puts_depths (expr x xs) after) (put locals x ⨾ puts locals xs)) (omega (arith, e)) (also (put_flows locals x (after + count xs)) (puts_flow locals xs (after + count xs) after refl))
