-- What operators give by the kinds of their operands, by the tables of src/.
use Rattle.std.specs.Prelude.{List, [], map, Option, Some, None, is_some}
use Rattle.std.specs.Prelude as std
use Rattle.place_ids.specs.declared.operators.BinOp.{BinOp}
use Rattle.place_ids.specs.declared.operators.BinOp.TheVariants as bin
use Rattle.place_ids.specs.declared.operators.CompareOp.{CompareOp}
use Rattle.place_ids.specs.declared.operators.CompareOp.TheVariants as cmp
use Rattle.place_ids.specs.declared.operators.UnaryOp.{UnaryOp}
use Rattle.place_ids.specs.declared.operators.UnaryOp.TheVariants as sign
use Rattle.builtin_stubs.specs.declared.basic.Basic.{Basic}
use Rattle.builtin_stubs.specs.declared.basic.OpRow.{OpRow}
use Rattle.builtin_stubs.specs.declared.basic.OpRow.TheVariants.{Fault, Kinds}
use Rattle.builtin_stubs.specs.declared.operand.Operand.{Operand}
use Rattle.builtin_stubs.specs.declared.operators.TheConstants.{ADDITION, ARITHMETIC, MULTIPLICATION, DIVISION, REMAINDER, POWER, SHIFTS, BITWISE, SIGNS, INVERSION, ORDER, EQUALITY, MEMBERSHIP}
use Rattle.builtin_stubs.specs.Operands.{first_of, first_of_two}

-- two operands, and the kinds that come back
abbrev pub Rows : Type 0
Rows = List (Operand × Operand × List Basic)

abbrev pub arithmetic : Rows
arithmetic = map (λ r. (r.0, r.1, r.2.now)) ARITHMETIC.now

abbrev pub bitwise : Rows
bitwise = map (λ r. (r.0, r.1, r.2.now)) BITWISE.now

abbrev pub shifts : Rows
shifts = map (λ r. (r.0, r.1, r.2.now)) SHIFTS.now

abbrev pub op_rows : BinOp → Rows
op_rows bin.Add = map (λ r. (r.0, r.1, r.2.now)) ADDITION.now
op_rows bin.Sub = arithmetic
op_rows bin.Mul = map (λ r. (r.0, r.1, r.2.now)) MULTIPLICATION.now
op_rows bin.Div = map (λ r. (r.0, r.1, r.2.now)) DIVISION.now
op_rows bin.FloorDiv = arithmetic
op_rows bin.Mod = map (λ r. (r.0, r.1, r.2.now)) REMAINDER.now
op_rows bin.MatMul = []
op_rows bin.Pow = map (λ r. (r.0, r.1, r.2.now)) POWER.now
op_rows bin.ShiftLeft = shifts
op_rows bin.ShiftRight = shifts
op_rows bin.BitAnd = bitwise
op_rows bin.BitOr = bitwise
op_rows bin.BitXor = bitwise

-- the kinds that an operator gives; where there are none it is a fault
abbrev pub op_kinds : BinOp → Basic → Basic → Option (List Basic)
op_kinds op left right = first_of_two (op_rows op) left right

-- what an answer says
abbrev pub answer : OpRow → Option (List Basic)
answer Fault = None
answer (Kinds ks) = Some ks.now

-- ---- operators of one operand

abbrev pub signs : List (Operand × List Basic)
signs = map (λ r. (r.0, r.1.now)) SIGNS.now

abbrev pub unary_rows : UnaryOp → List (Operand × List Basic)
unary_rows sign.Plus = signs
unary_rows sign.Minus = signs
unary_rows sign.Invert = map (λ r. (r.0, r.1.now)) INVERSION.now

abbrev pub unary_kinds : UnaryOp → Basic → Option (List Basic)
unary_kinds op k = first_of (unary_rows op) k

-- ---- comparisons

-- the pairs that `<`, `>`, `<=` and `>=` compare
abbrev pub order_rows : Rows
order_rows = map (λ r. (r.0, r.1, r.2.now)) ORDER.now

abbrev pub equality_rows : Rows
equality_rows = map (λ r. (r.0, r.1, r.2.now)) EQUALITY.now

-- what `in` looks for, and in what
abbrev pub membership_rows : Rows
membership_rows = map (λ r. (r.0, r.1, r.2.now)) MEMBERSHIP.now

abbrev pub compare_rows : CompareOp → Rows
compare_rows cmp.Equal = equality_rows
compare_rows cmp.NotEqual = equality_rows
compare_rows cmp.Is = equality_rows
compare_rows cmp.IsNot = equality_rows
compare_rows cmp.Within = membership_rows
compare_rows cmp.NotWithin = membership_rows
compare_rows _ = order_rows

abbrev pub compare_kinds : CompareOp → Basic → Basic → Option (List Basic)
compare_kinds op left right = first_of_two (compare_rows op) left right

abbrev pub order_kinds : Basic → Basic → Option (List Basic)
order_kinds left right = first_of_two order_rows left right

-- whether `in` looks for a value of one kind in one of another
abbrev pub looks_within : Basic → Basic → std.Bool
looks_within left right = is_some (first_of_two membership_rows left right)
