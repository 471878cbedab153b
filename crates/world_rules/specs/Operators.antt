-- The rows of operators (language reference, "Unary arithmetic and bitwise operations", "Binary arithmetic operations", "Comparisons", "Boolean operations").
use Rattle.std.specs.Prelude.{Bool, true, false, not, ◌||◌, Option, Some, None, option_map, List, [], ◌∷◌, if◌then◌else◌}
use Rattle.std.specs.List.{flat_map}
use Rattle.place_ids.specs.declared.operators.BinOp.{BinOp}
use Rattle.place_ids.specs.declared.operators.CompareOp.{CompareOp}
use Rattle.place_ids.specs.declared.operators.CompareOp.TheVariants as cmp
use Rattle.place_ids.specs.declared.operators.UnaryOp.{UnaryOp}
use Rattle.builtin_stubs.specs.declared.basic.Basic.{Basic}
use Rattle.builtin_stubs.specs.declared.basic.Basic.TheVariants as kind
use Rattle.builtin_stubs.specs.declared.kinds.Sameness.TheVariants as sameness
use Rattle.builtin_stubs.specs.Kinds.{identity}
use Rattle.builtin_stubs.specs.Operators.{op_kinds, unary_kinds, order_kinds, looks_within}
use Rattle.flow_graph.specs.declared.edge.Truth.{Truth}
use Rattle.flow_graph.specs.declared.edge.Truth.TheVariants.{Yes, No, Both}
use Rattle.world_rules.specs.declared.finding.Fault.{Fault}
use Rattle.world_rules.specs.declared.finding.Fault.TheVariants as fault
use Rattle.world_rules.specs.declared.row.TransferRow.{TransferRow}
use Rattle.world_rules.specs.declared.row.Yield.{Yield}
use Rattle.world_rules.specs.declared.row.Yield.TheVariants as yields
use Rattle.world_rules.specs.declared.traits.ShapeTraits.{ShapeTraits}
use Rattle.world_rules.specs.Traits.{is_any, is_anything, is_unfollowed}

-- ---- rows

abbrev pub no_row : TransferRow
no_row = record { results = []; entries = []; spreads = []; over = false; fault = None; unchecked = false }

abbrev pub gives : List Yield → TransferRow
gives results = record no_row { results = results }

abbrev pub faults : Fault → TransferRow
faults f = record no_row { fault = Some f }

abbrev pub marked : Bool → TransferRow → TransferRow
marked unchecked row = record row { unchecked = unchecked }

abbrev pub both_truths : List Yield
both_truths = yields.TrueValue ∷ yields.FalseValue ∷ []

abbrev pub truth_given : Bool → Yield
truth_given true = yields.TrueValue
truth_given false = yields.FalseValue

-- the shapes of a kind without parts
abbrev pub of_kind : Basic → List Yield
of_kind kind.NoneKind = yields.NoneValue ∷ []
of_kind kind.Bool = both_truths
of_kind kind.Int = yields.Int ∷ []
of_kind kind.Float = yields.Float ∷ []
of_kind kind.Str = yields.Str ∷ []
of_kind kind.Bytes = yields.Bytes ∷ []
of_kind _ = []

-- what a row of the tables gives; where there is none it is a fault
abbrev pub by_kinds : Fault → Option (List Basic) → TransferRow
by_kinds f None = faults f
by_kinds f (Some ks) = gives (flat_map of_kind ks)

-- ---- operands that are not followed

-- Any comes of any value, and else a value from outside of no declared type
abbrev pub unfollowed : (is_any : Bool) → TransferRow
unfollowed is_any = marked true (gives ((if is_any then yields.Any else yields.Ext) ∷ []))

abbrev pub followed : ShapeTraits → TransferRow → TransferRow
followed s row = if is_unfollowed s then unfollowed (is_any s) else row

abbrev pub both_followed : ShapeTraits → ShapeTraits → TransferRow → TransferRow
both_followed s t row = if is_unfollowed s || is_unfollowed t then unfollowed (is_any s || is_any t) else row

-- ---- operators of one operand and of two

abbrev pub unary : UnaryOp → ShapeTraits → TransferRow
unary op s = followed s (by_kinds (fault.Unary op) (unary_kinds op s.kind))

abbrev pub binary : Fault → BinOp → ShapeTraits → ShapeTraits → TransferRow
binary f op s t = both_followed s t (by_kinds f (op_kinds op s.kind t.kind))

-- ---- `not`

abbrev pub inverted : Truth → List Yield
inverted Yes = yields.FalseValue ∷ []
inverted No = yields.TrueValue ∷ []
inverted Both = both_truths

-- ---- comparisons

-- truth values are the same where they are equal
abbrev pub same_truths : Truth → Truth → Option Bool
same_truths Yes Yes = Some true
same_truths Yes No = Some false
same_truths No Yes = Some false
same_truths No No = Some true
same_truths _ _ = None

abbrev pub is_same : ShapeTraits → ShapeTraits → Option Bool
is_same s t =
    if is_anything s || is_anything t then None
    else elim (identity s.kind t.kind) [ sameness.Same ↦ Some true | sameness.Different ↦ Some false | sameness.AsTruths ↦ same_truths s.truth t.truth | sameness.Unknown ↦ None ]

abbrev pub known_truth : Option Bool → List Yield
known_truth None = both_truths
known_truth (Some b) = truth_given b ∷ []

abbrev pub ordered : CompareOp → ShapeTraits → ShapeTraits → TransferRow
ordered op s t = both_followed s t (by_kinds (fault.Compare op) (order_kinds s.kind t.kind))

-- `in` gives a truth value whatever an operand is that isn't followed
abbrev pub within : CompareOp → ShapeTraits → ShapeTraits → TransferRow
within op s t =
    if is_unfollowed s || is_unfollowed t then marked true (gives both_truths)
    else if looks_within s.kind t.kind then gives both_truths else faults (fault.Compare op)

abbrev pub compare : CompareOp → ShapeTraits → ShapeTraits → TransferRow
compare cmp.Equal s t = gives both_truths
compare cmp.NotEqual s t = gives both_truths
compare cmp.Is s t = gives (known_truth (is_same s t))
compare cmp.IsNot s t = gives (known_truth (option_map not (is_same s t)))
compare cmp.Within s t = within cmp.Within s t
compare cmp.NotWithin s t = within cmp.NotWithin s t
compare op s t = ordered op s t
