-- Code that grows at its end by pieces.
use Rattle.std.specs.Prelude.{ℕ, List, [], ◌∷◌, ◌++◌, length, slice_set}
use Rattle.stack_code.specs.declared.op.Op.{Op}
use Rattle.stack_code.specs.declared.code.Range.{Range}
use Rattle.tree_code.specs.declared.instr.Instr.{Instr}
use Rattle.tree_code.specs.Pieces.{Piece, Labels, instr}

-- the instructions and the ranges so far, and the places of the jumps that leave the innermost loop, which are yet to be aimed
pub record Emitted : Type 0 where
  pub instrs : List Instr
  pub ranges : List Range
  pub leaves : List ℕ

-- a piece at the end
abbrev pub with_piece : Piece → Labels → Emitted → Emitted
with_piece a labels e = record e { instrs = e.instrs ++ a.code labels (length e.instrs); ranges = e.ranges ++ a.ranges (length e.instrs) }

abbrev pub with_instr : Op → ℕ → Emitted → Emitted
with_instr op line e = record e { instrs = e.instrs ++ instr op line ∷ [] }

-- another instruction at a place
abbrev pub with_aim : ℕ → Op → ℕ → Emitted → Emitted
with_aim place op line e = record e { instrs = slice_set e.instrs place (instr op line) }
