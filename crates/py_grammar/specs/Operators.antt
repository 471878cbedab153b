-- The tokens that are operators, and how tightly binary ones bind (language reference, "Operator precedence").
use Rattle.std.specs.Prelude.{ℕ, Option, Some, None}
use Rattle.place_ids.specs.declared.operators.BinOp.{BinOp}
use Rattle.place_ids.specs.declared.operators.BinOp.TheVariants as bin
use Rattle.place_ids.specs.declared.operators.UnaryOp.{UnaryOp}
use Rattle.place_ids.specs.declared.operators.UnaryOp.TheVariants as un
use Rattle.py_tokens.specs.declared.token.Op.{Op}
use Rattle.py_tokens.specs.declared.token.Op.TheVariants as op

-- a token between two operands, its level and its operator: the higher the level, the tighter
pub data IsBinary : Op → ℕ → BinOp → Type 0 where
  binary_or : IsBinary op.Bar 0 bin.BitOr
  binary_xor : IsBinary op.Caret 1 bin.BitXor
  binary_and : IsBinary op.Amper 2 bin.BitAnd
  binary_shift_left : IsBinary op.ShiftLeft 3 bin.ShiftLeft
  binary_shift_right : IsBinary op.ShiftRight 3 bin.ShiftRight
  binary_add : IsBinary op.Plus 4 bin.Add
  binary_sub : IsBinary op.Minus 4 bin.Sub
  binary_mul : IsBinary op.Star 5 bin.Mul
  binary_div : IsBinary op.Slash 5 bin.Div
  binary_floor_div : IsBinary op.DoubleSlash 5 bin.FloorDiv
  binary_mod : IsBinary op.Percent 5 bin.Mod
  binary_mat_mul : IsBinary op.At 5 bin.MatMul

-- a token before an operand
pub data IsUnary : Op → UnaryOp → Type 0 where
  unary_plus : IsUnary op.Plus un.Plus
  unary_minus : IsUnary op.Minus un.Minus
  unary_invert : IsUnary op.Tilde un.Invert

-- a token between a target and what is put into it (language reference, "Augmented assignment statements")
pub data IsAugmenting : Op → BinOp → Type 0 where
  augmenting_add : IsAugmenting op.PlusAssign bin.Add
  augmenting_sub : IsAugmenting op.MinusAssign bin.Sub
  augmenting_mul : IsAugmenting op.StarAssign bin.Mul
  augmenting_div : IsAugmenting op.SlashAssign bin.Div
  augmenting_floor_div : IsAugmenting op.DoubleSlashAssign bin.FloorDiv
  augmenting_mod : IsAugmenting op.PercentAssign bin.Mod
  augmenting_mat_mul : IsAugmenting op.AtAssign bin.MatMul
  augmenting_and : IsAugmenting op.AmperAssign bin.BitAnd
  augmenting_or : IsAugmenting op.BarAssign bin.BitOr
  augmenting_xor : IsAugmenting op.CaretAssign bin.BitXor
  augmenting_shift_right : IsAugmenting op.ShiftRightAssign bin.ShiftRight
  augmenting_shift_left : IsAugmenting op.ShiftLeftAssign bin.ShiftLeft
  augmenting_pow : IsAugmenting op.DoubleStarAssign bin.Pow
