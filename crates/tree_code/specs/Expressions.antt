-- The code of expressions, which pushes their value ("Expressions": operands are evaluated from left to right), and of targets, which takes a value off and stores it.
use Rattle.std.specs.Prelude.{ℕ, suc, zero, List, [], ◌∷◌, Some, None}
use Rattle.py_tree.specs.Tree.{Expr, node, name, literal, unary, binary, compare, not, and, or, choice, attr, super, item, slice, call, tuple, list, dict, Exprs, no_exprs, expr, Bound, no_bound, bound, Args, no_args, arg, Pairs, no_pairs, pair}
use Rattle.stack_code.specs.declared.op.Op.TheVariants as op
use Rattle.stack_code.specs.declared.op.ConstKind.TheVariants as kind
use Rattle.tree_code.specs.Pieces.{Piece, nothing, one, ◌⨾◌, over, fork}
use Rattle.tree_code.specs.Names.{kind_of, load, store}

abbrev pub count : Exprs → ℕ
count no_exprs = 0
count (expr x xs) = suc (count xs)

abbrev pub pair_count : Pairs → ℕ
pair_count no_pairs = 0
pair_count (pair k x ps) = suc (pair_count ps)

-- how many arguments have no keyword, and the keywords of the others
abbrev pub positionals : Args → ℕ
positionals no_args = 0
positionals (arg None x xs) = suc (positionals xs)
positionals (arg (Some n) x xs) = positionals xs

abbrev pub keywords : Args → List ℕ
keywords no_args = []
keywords (arg None x xs) = keywords xs
keywords (arg (Some n) x xs) = n ∷ keywords xs

abbrev mutual
  pub value : List ℕ → Expr → Piece
  value locals (node (name n) line site) = one (load locals n) line
  value locals (node (literal x) line site) = one (op.Const (kind_of x)) line
  value locals (node (unary o a) line site) = value locals a ⨾ one (op.Unary o) line
  value locals (node (binary o a b) line site) = value locals a ⨾ value locals b ⨾ one (op.Binary o site) line
  value locals (node (compare o a b) line site) = value locals a ⨾ value locals b ⨾ one (op.Compare o) line
  value locals (node (not a) line site) = value locals a ⨾ one op.Not line
  value locals (node (and a b) line site) = value locals a ⨾ over op.JumpIfFalseKeep line (value locals b)
  value locals (node (or a b) line site) = value locals a ⨾ over op.JumpIfTrueKeep line (value locals b)
  value locals (node (choice a test b) line site) = value locals test ⨾ fork line (value locals a) (value locals b)
  value locals (node (attr a n) line site) = value locals a ⨾ one (op.Attr n) line
  value locals (node (super n) line site) = one (op.Super n) line
  value locals (node (item a i) line site) = value locals a ⨾ value locals i ⨾ one op.Item line
  value locals (node (slice a b c d) line site) = value locals a ⨾ bound_value locals line b ⨾ bound_value locals line c ⨾ bound_value locals line d ⨾ one (op.Slice site) line
  value locals (node (call f xs) line site) = value locals f ⨾ arguments locals xs ⨾ one (op.Call (positionals xs) (keywords xs) site) line
  value locals (node (tuple xs) line site) = values locals xs ⨾ one (op.NewTuple (count xs) site) line
  value locals (node (list xs) line site) = values locals xs ⨾ one (op.NewList (count xs) site) line
  value locals (node (dict ps) line site) = pairs locals ps ⨾ one (op.NewDict (pair_count ps) site) line

  pub values : List ℕ → Exprs → Piece
  values locals no_exprs = nothing
  values locals (expr x xs) = value locals x ⨾ values locals xs

  -- a part of a slice that is not written is None
  pub bound_value : List ℕ → ℕ → Bound → Piece
  bound_value locals line no_bound = one (op.Const kind.NoneValue) line
  bound_value locals line (bound x) = value locals x

  pub arguments : List ℕ → Args → Piece
  arguments locals no_args = nothing
  arguments locals (arg n x xs) = value locals x ⨾ arguments locals xs

  -- each key and then its value
  pub pairs : List ℕ → Pairs → Piece
  pairs locals no_pairs = nothing
  pairs locals (pair k x ps) = value locals k ⨾ value locals x ⨾ pairs locals ps

-- the parts of the value on the top, from the last on, so that the first comes to stand on the top
abbrev pub parts : ℕ → ℕ → ℕ → Piece
parts line total zero = nothing
parts line total (suc part) = one (op.Part part total) line ⨾ parts line total part

-- takes the value on the top off and stores it ("Assignment statements"). What is no target stores nothing
abbrev mutual
  pub put : List ℕ → Expr → Piece
  put locals (node (name n) line site) = one (store locals n) line
  put locals (node (attr a n) line site) = value locals a ⨾ one (op.Pick 1) line ⨾ one (op.StoreAttr n) line ⨾ one op.Pop line
  put locals (node (item a i) line site) = value locals a ⨾ value locals i ⨾ one (op.Pick 2) line ⨾ one op.StoreItem line ⨾ one op.Pop line
  put locals (node (tuple xs) line site) = parts line (count xs) (count xs) ⨾ puts locals xs ⨾ one op.Pop line
  put locals (node (list xs) line site) = parts line (count xs) (count xs) ⨾ puts locals xs ⨾ one op.Pop line
  put locals (node _ line site) = one op.Pop line

  pub puts : List ℕ → Exprs → Piece
  puts locals no_exprs = nothing
  puts locals (expr x xs) = put locals x ⨾ puts locals xs
