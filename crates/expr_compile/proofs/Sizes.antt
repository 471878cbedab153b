-- How long the code of a tree is.
use Rattle.std.proofs.Common.{◌≡◌, ◌≤◌, ℕ, suc, zero, ◌+◌, Option, Some, None, List, [], ◌∷◌, length, map, append_assoc, append-nil, length-append, refl, ap, ◌∙◌, arith}
use Rattle.std.proofs.lemmas.List.{length-map}
use Rattle.py_tree.specs.Tree.{Expr, Exprs, Bound, Args, arg, Pairs}
use Rattle.py_tree.specs.View.{Arg, Pair, exprs_of, args_of, pairs_of, expr_view, exprs_view, arg_view, args_view, pair_view, pairs_view}
use Rattle.py_tree.specs.declared.expression.Arg as rust_arg
use Rattle.py_tree.specs.declared.expression.Expr as rust_expr
use Rattle.py_tree.specs.declared.expression.Pair as rust_pair
use Rattle.tree_code.specs.Pieces.{Labels, one, ◌⨾◌}
use Rattle.stack_code.specs.declared.op.Op.TheVariants as op
use Rattle.tree_code.specs.Expressions.{count, pair_count, positionals, keywords, value, values, bound_value, arguments, pairs, parts, put, puts}
use Rattle.tree_code.specs.Statements.{dropped, value_or_none}
use Rattle.stack_code.specs.declared.op.ConstKind.TheVariants as kind
use Rattle.tree_code.proofs.ValueFlows.{value_flows, values_flow, bound_flows, argument_flows, pairs_flow, put_flows, puts_flow}
use Rattle.expr_compile.proofs.Pieces.{Sized, sized_nothing, sized_one, sized_then}

pub sized_value : (locals : List ℕ) (e : Expr) → Sized (value locals e)
sized_value locals e = record { sized = (value_flows 0 0 locals e 0).sized }

pub sized_bound : (locals : List ℕ) (line : ℕ) (b : Bound) → Sized (bound_value locals line b)
sized_bound locals line b = record { sized = (bound_flows 0 0 locals line b 0).sized }

pub sized_values : (locals : List ℕ) (xs : Exprs) → Sized (values locals xs)
sized_values locals xs = record { sized = (values_flow 0 0 locals xs 0 _ refl).sized }

pub sized_arguments : (locals : List ℕ) (xs : Args) → Sized (arguments locals xs)
sized_arguments locals xs = record { sized = (argument_flows 0 0 locals xs 0 _ refl).sized }

pub sized_pairs : (locals : List ℕ) (ps : Pairs) → Sized (pairs locals ps)
sized_pairs locals ps = record { sized = (pairs_flow 0 0 locals ps 0 _ refl).sized }

pub sized_parts : (line total count : ℕ) → Sized (parts line total count)
sized_parts line total zero = sized_nothing
sized_parts line total (suc part) = sized_then (one (op.Part part total) line) (parts line total part) (sized_one (op.Part part total) line) (sized_parts line total part)

pub sized_put : (locals : List ℕ) (e : Expr) → Sized (put locals e)
sized_put locals e = record { sized = (put_flows 0 0 locals e 0).sized }

pub sized_puts : (locals : List ℕ) (xs : Exprs) → Sized (puts locals xs)
sized_puts locals xs = record { sized = (puts_flow 0 0 locals xs _ 0 refl).sized }

pub sized_dropped : (locals : List ℕ) (line : ℕ) (x : Option Expr) → Sized (dropped locals line x)
sized_dropped locals line None = sized_nothing
sized_dropped locals line (Some x) = sized_then (value locals x) (one op.Pop line) (sized_value locals x) (sized_one op.Pop line)

pub sized_value_or_none : (locals : List ℕ) (line : ℕ) (x : Option Expr) → Sized (value_or_none locals line x)
sized_value_or_none locals line None = sized_one (op.Const kind.NoneValue) line
sized_value_or_none locals line (Some x) = sized_value locals x

-- what an `assert` does whose test is false
pub sized_failure : (locals : List ℕ) (line error site : ℕ) (x : Option Expr) → Sized (dropped locals line x ⨾ one (op.LoadName error) line ⨾ one (op.MakeRaised site) line ⨾ one op.Raise line)
sized_failure locals line error site x =
    sized_then (dropped locals line x) (one (op.LoadName error) line ⨾ one (op.MakeRaised site) line ⨾ one op.Raise line) (sized_dropped locals line x)
    (sized_then (one (op.LoadName error) line) (one (op.MakeRaised site) line ⨾ one op.Raise line) (sized_one (op.LoadName error) line)
    (sized_then (one (op.MakeRaised site) line) (one op.Raise line) (sized_one (op.MakeRaised site) line) (sized_one op.Raise line)))

-- how many parts there are

count_of : (xs : List Expr) → count (exprs_of xs) ≡ length xs
count_of [] = refl
count_of (x ∷ xs) = ap suc (count_of xs)

pub count_view : (xs : List rust_expr.Expr) → count (exprs_view xs) ≡ length xs
count_view xs = count_of (map expr_view xs) ∙ length-map xs expr_view

pair_count_of : (ps : List Pair) → pair_count (pairs_of ps) ≡ length ps
pair_count_of [] = refl
pair_count_of (p ∷ ps) = ap suc (pair_count_of ps)

pub pair_count_view : (ps : List rust_pair.Pair) → pair_count (pairs_view ps) ≡ length ps
pair_count_view ps = pair_count_of (map pair_view ps) ∙ length-map ps pair_view

args_count : (n : Option ℕ) (x : Expr) (xs : Args) (len : ℕ) → positionals xs + length (keywords xs) ≡ len → positionals (arg n x xs) + length (keywords (arg n x xs)) ≡ suc len
args_count None x xs len h = omega arith
args_count (Some n) x xs len h = omega arith

args_count_of : (xs : List Arg) → positionals (args_of xs) + length (keywords (args_of xs)) ≡ length xs
args_count_of [] = refl
args_count_of (a ∷ more) = args_count a.0 a.1 (args_of more) (length more) (args_count_of more)

pub args_count_view : (xs : List rust_arg.Arg) → positionals (args_view xs) + length (keywords (args_view xs)) ≡ length xs
args_count_view xs = args_count_of (map arg_view xs) ∙ length-map xs arg_view

pub keywords_within : (xs : List rust_arg.Arg) → length (keywords (args_view xs)) ≤ length xs
keywords_within xs = let total : positionals (args_view xs) + length (keywords (args_view xs)) ≡ length xs = args_count_view xs in omega arith

-- the same as plain equations

pub value_length : (locals : List ℕ) (e : Expr) (labels : Labels) (place : ℕ) → length ((value locals e).code labels place) ≡ (value locals e).size
value_length locals e = (sized_value locals e).sized

pub bound_length : (locals : List ℕ) (line : ℕ) (b : Bound) (labels : Labels) (place : ℕ) → length ((bound_value locals line b).code labels place) ≡ (bound_value locals line b).size
bound_length locals line b = (sized_bound locals line b).sized

pub values_length : (locals : List ℕ) (xs : Exprs) (labels : Labels) (place : ℕ) → length ((values locals xs).code labels place) ≡ (values locals xs).size
values_length locals xs = (sized_values locals xs).sized

pub arguments_length : (locals : List ℕ) (xs : Args) (labels : Labels) (place : ℕ) → length ((arguments locals xs).code labels place) ≡ (arguments locals xs).size
arguments_length locals xs = (sized_arguments locals xs).sized

pub pairs_length : (locals : List ℕ) (ps : Pairs) (labels : Labels) (place : ℕ) → length ((pairs locals ps).code labels place) ≡ (pairs locals ps).size
pairs_length locals ps = (sized_pairs locals ps).sized

pub parts_length : (line total count : ℕ) (labels : Labels) (place : ℕ) → length ((parts line total count).code labels place) ≡ (parts line total count).size
parts_length line total count = (sized_parts line total count).sized

pub put_length : (locals : List ℕ) (e : Expr) (labels : Labels) (place : ℕ) → length ((put locals e).code labels place) ≡ (put locals e).size
put_length locals e = (sized_put locals e).sized

pub dropped_length : (locals : List ℕ) (line : ℕ) (x : Option Expr) (labels : Labels) (place : ℕ) → length ((dropped locals line x).code labels place) ≡ (dropped locals line x).size
dropped_length locals line x = (sized_dropped locals line x).sized

pub value_or_none_length : (locals : List ℕ) (line : ℕ) (x : Option Expr) (labels : Labels) (place : ℕ) → length ((value_or_none locals line x).code labels place) ≡ (value_or_none locals line x).size
value_or_none_length locals line x = (sized_value_or_none locals line x).sized

pub puts_length : (locals : List ℕ) (xs : Exprs) (labels : Labels) (place : ℕ) → length ((puts locals xs).code labels place) ≡ (puts locals xs).size
puts_length locals xs = (sized_puts locals xs).sized

-- what a step of growing code rests on
pub ruleset growing = (append_assoc, append-nil, length-append, value_length, bound_length, values_length, arguments_length, pairs_length, parts_length, put_length, puts_length, dropped_length, value_or_none_length)
