-- Where a piece stands in a code, with its instructions and the handlers of its places.
use Rattle.std.specs.Prelude.{◌≡◌, ℕ, suc, ◌+◌, ◌<◌, ◌≤◌, Option, Some, None, List, [], ◌∷◌, length, slice_get}
use Rattle.stack_code.specs.declared.op.Op.{Op}
use Rattle.stack_code.specs.declared.code.Code.{Code}
use Rattle.stack_code.specs.declared.code.Range.{Range}
use Rattle.tree_code.specs.declared.instr.Instr.{Instr}
use Rattle.stack_code.specs.Handlers.{handler_at}
use Rattle.tree_code.specs.Pieces.{Piece, Labels}

-- the code of a piece is as long wherever it stands
abbrev pub IsSized : Piece → Type 0
IsSized a = (labels : Labels) (place : ℕ) → length (a.code labels place) ≡ a.size

-- each range begins in a stretch of places, and ends in it before its last place
abbrev pub RangesIn : (first past : ℕ) → List Range → Type 0
RangesIn first past [] = Unit {0}
RangesIn first past (r ∷ rs) = ((first ≤ r.first) × (r.first ≤ r.past) × (r.past < past)) × RangesIn first past rs

-- a piece has as many instructions as its size says, and its ranges lie in it and end before it does
pub record IsSolid (a : Piece) : Type 0 where
  pub sized : IsSized a
  pub inside : (place : ℕ) → RangesIn place (place + a.size) (a.ranges place)

-- these instructions stand in the code from a place on
abbrev pub InstrsAt : Code → ℕ → List Instr → Type 0
InstrsAt code place [] = Unit {0}
InstrsAt code place (i ∷ is) = ((slice_get code.ops place ≡ Some i.op) × (slice_get code.lines place ≡ Some i.line)) × InstrsAt code (suc place) is

abbrev pub or_else : Option Range → Option Range → Option Range
or_else None outer = outer
or_else (Some own) outer = Some own

-- A piece stands in the code at a place, with more code behind it, in a loop with these labels. What its own ranges do not cover has the handler that is around it
pub record Lies (code : Code) (labels : Labels) (place : ℕ) (outer : Option Range) (a : Piece) : Type 0 where
  pub instrs : InstrsAt code place (a.code labels place)
  pub fits : place + a.size < length code.ops
  pub handled : (other : ℕ) → place ≤ other → other < place + a.size → handler_at code.ranges other ≡ or_else (handler_at (a.ranges place) other) outer

-- an instruction stands in the code at a place, with more code behind it and this handler
pub record OpLies (code : Code) (place : ℕ) (outer : Option Range) (op : Op) (line : ℕ) : Type 0 where
  pub op_at : slice_get code.ops place ≡ Some op
  pub line_at : slice_get code.lines place ≡ Some line
  pub fits : suc place < length code.ops
  pub handled : handler_at code.ranges place ≡ outer

-- the range over the body of guarded code that begins at a place: it leads to the handling, which stands behind the other piece and the jump over it
abbrev pub guard_of : ℕ → ℕ → Piece → Piece → Range
guard_of place depth body otherwise = record { first = place; past = place + body.size; goal = place + body.size + otherwise.size + 1; depth = depth }
