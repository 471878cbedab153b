-- Code that grows by a piece which leads to no label of a loop.
use Rattle.std.specs.Prelude.{◌≡◌, ℕ, Bool, true, false}
use Rattle.stack_code.specs.declared.op.Op.{Op}
use Rattle.stack_code.specs.declared.op.Op.TheVariants.{JumpIfFalseKeep, JumpIfTrueKeep}
use Rattle.tree_code.specs.Pieces.{Piece, Labels}
use Rattle.expr_compile.specs.Emitted.{Emitted, with_piece}

-- the piece is put at the end, whatever the labels are
abbrev pub Grows : Piece → Emitted → Emitted → Type 0
Grows a old new = (labels : Labels) → new ≡ with_piece a labels old

-- the jump over the second operand, of `and` and of `or`
abbrev pub keeping : Bool → ℕ → Op
keeping true goal = JumpIfFalseKeep goal
keeping false goal = JumpIfTrueKeep goal
