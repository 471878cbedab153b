-- Code that has grown to its end.
use Rattle.std.specs.Prelude.{ℕ, ◌+◌, ◌<◌, List, length, map}
use Rattle.std.specs.List.{All}
use Rattle.stack_code.specs.declared.code.Code.{Code}
use Rattle.stack_code.specs.declared.code.Range.{Range}
use Rattle.expr_compile.specs.Emitted.{Emitted}

abbrev pub code_of : Emitted → (locals params : ℕ) → Code
code_of e locals params = record { ops = map (λ i. i.op) e.instrs; lines = map (λ i. i.line) e.instrs; ranges = e.ranges; locals = locals; params = params }

-- the ranges, and with the places the depths of their handlers, are so few that numbers of 32 bits count them
pub record AreShort (places : ℕ) (ranges : List Range) : Type 0 where
  pub count : length ranges < 4294967295
  pub depths : All (λ range. places + range.depth < 4294967295) ranges

pub record IsShort (code : Code) : Type 0 where
  pub short : length code.ops < 4294967295
  pub ranges : AreShort (length code.ops) code.ranges
