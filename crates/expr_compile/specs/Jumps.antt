-- Jumps that are aimed once their goal is known, and ranges that are set once their parts are.
use Rattle.std.specs.Prelude.{ℕ, suc, zero, List, [], ◌∷◌, ◌++◌, length, slice_set}
use Rattle.stack_code.specs.declared.code.Range.{Range}
use Rattle.stack_code.specs.declared.op.Op.TheVariants.{Jump}
use Rattle.tree_code.specs.declared.instr.Instr.{Instr}
use Rattle.tree_code.specs.Pieces.{instr}
use Rattle.expr_compile.specs.Emitted.{Emitted, with_instr}

-- a plain jump to a goal in the place of an instruction, on its line
abbrev pub turn : ℕ → ℕ → List Instr → List Instr
turn goal place [] = []
turn goal zero (i ∷ is) = instr (Jump goal) i.line ∷ is
turn goal (suc place) (i ∷ is) = i ∷ turn goal place is

abbrev pub turned : ℕ → List ℕ → List Instr → List Instr
turned goal [] is = is
turned goal (place ∷ places) is = turned goal places (turn goal place is)

abbrev pub turned_at : ℕ → ℕ → Emitted → Emitted
turned_at goal place e = record e { instrs = turn goal place e.instrs }

abbrev pub turned_all : ℕ → List ℕ → Emitted → Emitted
turned_all goal places e = record e { instrs = turned goal places e.instrs }

-- plain jumps lead to the next place
abbrev pub landed : List ℕ → Emitted → Emitted
landed places e = turned_all (length e.instrs) places e

-- a jump that leaves the innermost loop
abbrev pub with_leave : ℕ → Emitted → Emitted
with_leave line e = record (with_instr (Jump 0) line e) { leaves = e.leaves ++ length e.instrs ∷ [] }

-- the innermost loop ends: the jumps that leave it lead to the next place, and those of the loop around it are as before
abbrev pub left : List ℕ → Emitted → Emitted
left outer e = record (landed e.leaves e) { leaves = outer }

-- a range at a place, before its parts are known
abbrev pub unset : ℕ → Range
unset place = record { first = place; past = place; goal = place; depth = 0 }

abbrev pub with_range : ℕ → Range → Emitted → Emitted
with_range number range e = record e { ranges = slice_set e.ranges number range }
