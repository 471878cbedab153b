-- What a piece of code needs of the stack and what it leaves, wherever it stands.
use Rattle.std.specs.Prelude.{◌≡◌, ℕ, suc, ◌+◌, ◌<◌, ◌≤◌, true, Some, List, [], ◌∷◌, ◌++◌, length}
use Rattle.stack_code.specs.declared.op.Op.{Op}
use Rattle.stack_code.specs.declared.code.Range.{Range}
use Rattle.stack_code.specs.Effects.{effect_of, falls, goal_of, depth_after, depth_at_goal}
use Rattle.stack_code.specs.Validity.{IsRangeOf}
use Rattle.tree_code.specs.declared.instr.Instr.{Instr}
use Rattle.tree_code.specs.Pieces.{Piece, Labels}

-- the depths stand at a place and those after it
abbrev pub Stands : (ℕ → ℕ) → ℕ → List ℕ → Type 0
Stands depths place [] = Unit {0}
Stands depths place (d ∷ ds) = (depths place ≡ d) × Stands depths (suc place) ds

-- an instruction finds its slots, and leads where the depth is the one that it leaves. There are so many places
pub record IsRightAt (places : ℕ) (depths : ℕ → ℕ) (place : ℕ) (op : Op) : Type 0 where
  pub enough : (effect_of op).needs ≤ depths place
  pub goes_on : falls op ≡ true → depths (suc place) ≡ depth_after op (depths place)
  pub jumps : (goal : ℕ) → goal_of op ≡ Some goal → (goal < places) × (depths goal ≡ depth_at_goal op (depths place))

abbrev pub AreRight : ℕ → (ℕ → ℕ) → ℕ → List Instr → Type 0
AreRight places depths place [] = Unit {0}
AreRight places depths place (i ∷ is) = IsRightAt places depths place i.op × AreRight places depths (suc place) is

-- a range lies in the code, and its handler has its depth
abbrev pub RangesRight : ℕ → (ℕ → ℕ) → List Range → Type 0
RangesRight places depths [] = Unit {0}
RangesRight places depths (r ∷ rs) = (IsRangeOf places r × (depths r.goal ≡ r.depth)) × RangesRight places depths rs

-- the labels of a loop are places, with these depths
pub record LabelsRight (again out places : ℕ) (depths : ℕ → ℕ) (labels : Labels) : Type 0 where
  pub again_is_place : labels.again < places
  pub out_is_place : labels.out < places
  pub again_depth : depths labels.again ≡ again
  pub out_depth : depths labels.out ≡ out

-- the depth at which a piece begins, where these are the depths of its instructions and of the place after it
abbrev pub first_depth : List ℕ → ℕ → ℕ
first_depth [] after = after
first_depth (d ∷ ds) after = d

-- These are the depths of a piece's instructions. Wherever they stand, with the depth after them and what else is asked, the instructions are right; `continue` and `break` find the depths again and out
pub record Flows (Asks : ℕ → (ℕ → ℕ) → ℕ → Type 0) (again out before after : ℕ) (depths : List ℕ) (a : Piece) : Type 0 where
  pub count : length depths ≡ a.size
  pub starts : first_depth depths after ≡ before
  pub sized : (labels : Labels) (place : ℕ) → length (a.code labels place) ≡ a.size
  pub right : (places : ℕ) (ds : ℕ → ℕ) (labels : Labels) (place : ℕ) → place + a.size < places → LabelsRight again out places ds labels → Stands ds place (depths ++ after ∷ []) → Asks places ds place →
      AreRight places ds place (a.code labels place) × RangesRight places ds (a.ranges place)

-- nothing else is asked
abbrev pub Nothing : ℕ → (ℕ → ℕ) → ℕ → Type 0
Nothing places ds place = Unit {0}
