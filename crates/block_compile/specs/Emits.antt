-- What statements put at the end of code. A jump that leaves the innermost loop is yet to be aimed, at a place that the code is not known to reach.
use Rattle.std.specs.Prelude.{◌≡◌, ℕ, List, [], ◌∷◌, ◌++◌, length}
use Rattle.stack_code.specs.declared.op.Op.TheVariants.{Caught, Jump}
use Rattle.tree_code.specs.declared.instr.Instr.{Instr}
use Rattle.tree_code.specs.Pieces.{Piece}
use Rattle.tree_code.specs.Standing.{IsSized}
use Rattle.expr_compile.specs.Emitted.{Emitted, with_instr}
use Rattle.expr_compile.specs.Jumps.{turned, landed, unset, with_range}

-- these jumps are those that leave the loop: aimed at any place they make the code that leaves it there, wherever the code stands
abbrev pub AreLeaves : List ℕ → (ℕ → List Instr) → ℕ → Type 0
AreLeaves leaves code place = (before after : List Instr) (out : ℕ) → length before ≡ place → turned out leaves (before ++ (code 0 ++ after)) ≡ before ++ (code out ++ after)

-- the code of a piece whose innermost loop begins at a place, as far as it is known
abbrev pub labelled : Piece → ℕ → ℕ → ℕ → List Instr
labelled a again place out = a.code (record { again = again; out = out }) place

-- a piece at the end, with jumps that leave the innermost loop
abbrev pub with_open : Piece → ℕ → List ℕ → Emitted → Emitted
with_open a again leaves e =
    record {
      instrs = e.instrs ++ labelled a again (length e.instrs) 0;
      ranges = e.ranges ++ a.ranges (length e.instrs);
      leaves = e.leaves ++ leaves;
    }

-- a piece was put at the end, in a loop that begins at a place
pub record Emits (a : Piece) (again : ℕ) (old new : Emitted) : Type 0 where
  pub leaves : List ℕ
  pub adds : new ≡ with_open a again leaves old
  pub aims : AreLeaves leaves (labelled a again (length old.instrs)) (length old.instrs)

-- a piece and then a jump that is yet to be aimed, at a place
pub record EndsOpen (a : Piece) (line again : ℕ) (old new : Emitted) (end : ℕ) : Type 0 where
  pub mid : Emitted
  pub emits : Emits a again old mid
  pub jumps : new ≡ with_instr (Jump 0) line mid
  pub stands : end ≡ length mid.instrs

-- The first part of a whole whose rest comes next, with jumps at places that are to lead behind the rest. Whatever the rest is, once it was put and the jumps were aimed the whole was put
abbrev pub BeginsAll : (Piece → Piece) → ℕ → Emitted → Emitted → List ℕ → Type 0
BeginsAll whole again old new ends = (rest : Piece) (done : Emitted) → IsSized rest → Emits rest again new done → Emits (whole rest) again old (landed ends done)

-- the same with one jump
abbrev pub Begins : (Piece → Piece) → ℕ → Emitted → Emitted → ℕ → Type 0
Begins whole again old new end = BeginsAll whole again old new (end ∷ [])

-- a piece in a range that was begun and is yet to be set, with the range's number and the places of the piece and behind it
pub record Guards (a : Piece) (again : ℕ) (old new : Emitted) (number first past : ℕ) : Type 0 where
  pub emits : Emits a again (record old { ranges = old.ranges ++ unset (length old.instrs) ∷ [] }) new
  pub counts : number ≡ length old.ranges
  pub starts : first ≡ length old.instrs
  pub ends : past ≡ length new.instrs

-- a jump at a place, which is yet to be aimed, and behind it the goal of a range, which is set
pub record Catches (depth line number first past : ℕ) (old new : Emitted) (end : ℕ) : Type 0 where
  pub stands : end ≡ length old.instrs
  pub catches : new ≡ with_instr Caught line (with_range number (record { first = first; past = past; goal = length (with_instr (Jump 0) line old).instrs; depth = depth }) (with_instr (Jump 0) line old))
