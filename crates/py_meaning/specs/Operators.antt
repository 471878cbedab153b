-- What operators give, by the kinds of their operands (language reference, "Unary arithmetic and bitwise operations", "Binary
-- arithmetic operations", "Comparisons", "Augmented assignment statements"). The kinds are those of the tables of builtins.
use Rattle.std.specs.Prelude.{ℕ, zero, suc, Bool, true, false, not, ◌||◌, List, [], ◌++◌, Option, Some, None, unwrap_or, if◌then◌else◌}
use Rattle.place_ids.specs.declared.operators.BinOp.{BinOp}
use Rattle.place_ids.specs.declared.operators.BinOp.TheVariants as bin
use Rattle.place_ids.specs.declared.operators.CompareOp.{CompareOp}
use Rattle.place_ids.specs.declared.operators.CompareOp.TheVariants as cmp
use Rattle.place_ids.specs.declared.operators.UnaryOp.{UnaryOp}
use Rattle.builtin_stubs.specs.declared.basic.Basic.{Basic}
use Rattle.builtin_stubs.specs.declared.basic.Basic.TheVariants as kind
use Rattle.builtin_stubs.specs.declared.kinds.Sameness.TheVariants as sameness
use Rattle.builtin_stubs.specs.Kinds.{identity}
use Rattle.builtin_stubs.specs.Operators.{op_kinds, unary_kinds, order_kinds, looks_within}
use Rattle.py_meaning.specs.Values.{Value, truth, whole}
use Rattle.py_meaning.specs.Objects as object
use Rattle.py_meaning.specs.Objects.{Object, kind_of, is_anything_at, is_unfollowed_at}
use Rattle.py_meaning.specs.Events.{unsupported_operands}
use Rattle.py_meaning.specs.Programs.{Program}
use Rattle.py_meaning.specs.Fresh.{of_kind}
use Rattle.py_meaning.specs.Contents.{Content, contents_at, read_all}
use Rattle.py_meaning.specs.Actions.{Action, gives, takes, counts, looks, bind, allocate, anything, is_even, one_of, either_truth, fails}

-- ---- what is made

-- starts with no part, and adds all parts once more as long as the next choice is even
abbrev pub times : Program → ℕ → List Content → List Value → Action (List Value)
times p zero cs sofar = takes (λ c. gives sofar)
times p (suc n) cs sofar = takes (λ c. if is_even c then bind (read_all p cs) (λ vs. times p n cs (sofar ++ vs)) else gives sofar)

abbrev pub repeated : Program → List Content → Action (List Value)
repeated p cs = counts (λ n. times p n cs [])

-- the parts of a sum of two containers, and of a container that is multiplied
abbrev pub gathered : Program → BinOp → List Content → Action (List Value)
gathered p bin.Mul cs = repeated p cs
gathered p _ cs = read_all p cs

-- a list or a tuple is new, at the place of the expression
abbrev pub made : Program → BinOp → Basic → (site : ℕ) → List Content → Action Value
made p op kind.List site cs = bind (gathered p op cs) (λ vs. allocate (object.list site vs))
made p op kind.Tuple site cs = bind (gathered p op cs) (λ vs. allocate (object.tuple site object.parts vs))
made p op k site cs = of_kind k

-- a value of one of the kinds of a row of the tables; where there is no row it is a fault
abbrev pub by_row : (line : ℕ) → (Basic → Action Value) → Option (List Basic) → Action Value
by_row line f None = fails line unsupported_operands
by_row line f (Some ks) = bind (one_of ks) (λ k. f (unwrap_or k kind.Other))

-- ---- operators of two operands and of one

abbrev pub binary : Program → BinOp → (site line : ℕ) → Value → Value → Action Value
binary p op site line v w =
    looks (λ m.
    if is_unfollowed_at m.heap v || is_unfollowed_at m.heap w then anything
    else by_row line (λ k. made p op k site (contents_at m.heap v ++ contents_at m.heap w)) (op_kinds op (kind_of m.heap v) (kind_of m.heap w)))

abbrev pub unary : UnaryOp → (line : ℕ) → Value → Action Value
unary op line v =
    looks (λ m. if is_unfollowed_at m.heap v then anything else by_row line of_kind (unary_kinds op (kind_of m.heap v)))

-- ---- comparisons

abbrev pub same_truth : Bool → Bool → Bool
same_truth true b = b
same_truth false b = not b

abbrev pub same_truths : Value → Value → Option Bool
same_truths (truth a) (truth b) = Some (same_truth a b)
same_truths v w = None

-- Of a value that may be anything it isn't known.
abbrev pub is_same : List Object → Value → Value → Option Bool
is_same heap v w =
    if is_anything_at heap v || is_anything_at heap w then None
    else elim (identity (kind_of heap v) (kind_of heap w)) [ sameness.Same ↦ Some true | sameness.Different ↦ Some false | sameness.AsTruths ↦ same_truths v w | sameness.Unknown ↦ None ]

abbrev pub known_truth : (Bool → Bool) → Option Bool → Action Value
known_truth f None = either_truth
known_truth f (Some b) = gives (truth (f b))

abbrev pub ordered : (line : ℕ) → Value → Value → Action Value
ordered line v w =
    looks (λ m.
    if is_unfollowed_at m.heap v || is_unfollowed_at m.heap w then anything
    else by_row line of_kind (order_kinds (kind_of m.heap v) (kind_of m.heap w)))

abbrev pub within : (line : ℕ) → Value → Value → Action Value
within line v w =
    looks (λ m.
    if is_unfollowed_at m.heap v || (is_unfollowed_at m.heap w || looks_within (kind_of m.heap v) (kind_of m.heap w)) then either_truth
    else fails line unsupported_operands)

abbrev pub compare : CompareOp → (line : ℕ) → Value → Value → Action Value
compare cmp.Equal line v w = either_truth
compare cmp.NotEqual line v w = either_truth
compare cmp.Is line v w = looks (λ m. known_truth (λ b. b) (is_same m.heap v w))
compare cmp.IsNot line v w = looks (λ m. known_truth not (is_same m.heap v w))
compare cmp.Within line v w = within line v w
compare cmp.NotWithin line v w = within line v w
compare _ line v w = ordered line v w

abbrev pub is_whole : Value → Bool
is_whole (truth b) = true
is_whole (whole n) = true
is_whole _ = false
