-- Pieces of code, which may stand at any place, and how they are put together.
use Rattle.std.specs.Prelude.{ℕ, ◌+◌, ◌-◌, List, [], ◌∷◌, ◌++◌}
use Rattle.stack_code.specs.declared.op.Op.{Op}
use Rattle.stack_code.specs.declared.op.Op.TheVariants.{Jump, JumpIfFalse}
use Rattle.stack_code.specs.declared.code.Range.{Range}
use Rattle.tree_code.specs.declared.instr.Instr.{Instr}

-- where `continue` and `break` lead in the innermost loop
pub record Labels : Type 0 where
  pub again : ℕ
  pub out : ℕ

-- how many instructions there are; these, where the first stands at a place; and the ranges in them
pub record Piece : Type 0 where
  pub size : ℕ
  pub code : Labels → ℕ → List Instr
  pub ranges : ℕ → List Range

abbrev pub instr : Op → ℕ → Instr
instr op line = record { op = op; line = line }

abbrev pub nothing : Piece
nothing = record { size = 0; code = λ labels place. []; ranges = λ place. [] }

abbrev pub one : Op → ℕ → Piece
one op line = record { size = 1; code = λ labels place. instr op line ∷ []; ranges = λ place. [] }

-- one piece and then another
infixr 5 ◌⨾◌
abbrev pub ◌⨾◌ : Piece → Piece → Piece
a ⨾ b =
    record {
      size = a.size + b.size;
      code = λ labels place. a.code labels place ++ b.code labels (place + a.size);
      ranges = λ place. a.ranges place ++ b.ranges (place + a.size);
    }

-- a jump over the next instructions, so many of them
abbrev pub ahead : (ℕ → Op) → ℕ → ℕ → Piece
ahead jump count line = record { size = 1; code = λ labels place. instr (jump (place + 1 + count)) line ∷ []; ranges = λ place. [] }

-- a jump back to so many instructions before
abbrev pub back : ℕ → ℕ → Piece
back count line = record { size = 1; code = λ labels place. instr (Jump (place - count)) line ∷ []; ranges = λ place. [] }

-- jumps to the labels of the innermost loop
abbrev pub go_again : ℕ → Piece
go_again line = record { size = 1; code = λ labels place. instr (Jump labels.again) line ∷ []; ranges = λ place. [] }

abbrev pub go_out : ℕ → Piece
go_out line = record { size = 1; code = λ labels place. instr (Jump labels.out) line ∷ []; ranges = λ place. [] }

-- a piece within a loop that begins so many instructions before it and ends so many after it
abbrev pub within : ℕ → ℕ → Piece → Piece
within before after a =
    record { size = a.size; code = λ labels place. a.code (record { again = place - before; out = place + a.size + after }) place; ranges = a.ranges }

-- `jump E a E:`
abbrev pub over : (ℕ → Op) → ℕ → Piece → Piece
over jump line a = ahead jump a.size line ⨾ a

-- `a Jump E b E:`
abbrev pub past : ℕ → Piece → Piece → Piece
past line a b = a ⨾ ahead Jump b.size line ⨾ b

-- `JumpIfFalse L a Jump E L: b E:`
abbrev pub fork : ℕ → Piece → Piece → Piece
fork line a b = ahead JumpIfFalse (a.size + 1) line ⨾ past line a b

-- `L: test leave E body Jump L E:`, where in the body `continue` leads to L and `break` to E
abbrev pub loop : (ℕ → Op) → ℕ → Piece → Piece → Piece
loop leave line test body = test ⨾ ahead leave (body.size + 1) line ⨾ within (test.size + 1) 1 body ⨾ back (test.size + 1 + body.size) line

-- `body otherwise Jump E H: handling E:`, where exceptions that the body raises go on at H with a stack of this depth
abbrev pub guarded : ℕ → ℕ → Piece → Piece → Piece → Piece
guarded depth line body otherwise handling =
    record (past line (body ⨾ otherwise) handling) {
      ranges = λ place.
          record { first = place; past = place + body.size; goal = place + body.size + otherwise.size + 1; depth = depth }
          ∷ (past line (body ⨾ otherwise) handling).ranges place;
    }
