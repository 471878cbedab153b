-- When code is valid, and the first place that breaks a rule.
use Rattle.std.specs.Prelude.{◌≡◌, ◌≢◌, ℕ, ◌<◌, ◌≤◌, Some, length, slice_get}
use Rattle.stack_code.specs.declared.op.Op.{Op}
use Rattle.stack_code.specs.declared.code.Code.{Code}
use Rattle.stack_code.specs.declared.code.Range.{Range}
use Rattle.stack_code.specs.Effects.{effect_of, goal_of}
use Rattle.stack_code.specs.Depths.{HasDepth}

-- the range is a part of code with so many places, maybe an empty part, and its handler is one of them
pub record IsRangeOf (places : ℕ) (range : Range) : Type 0 where
  pub ordered : range.first ≤ range.past
  pub within : range.past ≤ places
  pub handler : range.goal < places

-- the four rules: no jump leaves the code, no place has two depths, no instruction finds too few slots, and each range lies in the code
abbrev pub JumpsStay : Code → Type 0
JumpsStay code = (place goal : ℕ) (op : Op) → slice_get code.ops place ≡ Some op → goal_of op ≡ Some goal → goal < length code.ops

abbrev pub DepthsAgree : Code → Type 0
DepthsAgree code = (place one other : ℕ) → HasDepth code place one → HasDepth code place other → one ≡ other

abbrev pub SlotsSuffice : Code → Type 0
SlotsSuffice code = (place depth : ℕ) (op : Op) → slice_get code.ops place ≡ Some op → HasDepth code place depth → (effect_of op).needs ≤ depth

abbrev pub RangesLieIn : Code → Type 0
RangesLieIn code = (number : ℕ) (range : Range) → slice_get code.ranges number ≡ Some range → IsRangeOf (length code.ops) range

pub record IsValid (code : Code) : Type 0 where
  pub jumps : JumpsStay code
  pub depths : DepthsAgree code
  pub slots : SlotsSuffice code
  pub ranges : RangesLieIn code

-- what breaks each rule
pub record JumpsOut (code : Code) (place : ℕ) : Type 0 where
  pub op : Op
  pub stands : slice_get code.ops place ≡ Some op
  pub goal : ℕ
  pub jumps : goal_of op ≡ Some goal
  pub outside : length code.ops ≤ goal

pub record HasTwoDepths (code : Code) (place : ℕ) : Type 0 where
  pub one : ℕ
  pub other : ℕ
  pub has_one : HasDepth code place one
  pub has_other : HasDepth code place other
  pub differ : one ≢ other

pub record Underflows (code : Code) (place : ℕ) : Type 0 where
  pub op : Op
  pub stands : slice_get code.ops place ≡ Some op
  pub depth : ℕ
  pub has_depth : HasDepth code place depth
  pub few : depth < (effect_of op).needs

pub record LiesOut (code : Code) (number : ℕ) : Type 0 where
  pub range : Range
  pub stands : slice_get code.ranges number ≡ Some range
  pub outside : IsRangeOf (length code.ops) range → ⊥

-- the rule is broken there, and at no place before
pub record IsFirst (Breaks : ℕ → Type 0) (place : ℕ) : Type 0 where
  pub breaks : Breaks place
  pub earlier : (other : ℕ) → other < place → Breaks other → ⊥
