-- The depth of a place: how many slots the stack has whenever the code is there.
use Rattle.std.specs.Prelude.{◌≡◌, ℕ, suc, ◌<◌, ◌≤◌, true, Some, length, slice_get}
use Rattle.std.specs.List.{Contains}
use Rattle.stack_code.specs.declared.op.Op.{Op}
use Rattle.stack_code.specs.declared.code.Code.{Code}
use Rattle.stack_code.specs.declared.code.Range.{Range}
use Rattle.stack_code.specs.Effects.{effect_of, falls, goal_of, depth_after, depth_at_goal}
use Rattle.stack_code.specs.Handlers.{covers}

-- an instruction at a place with a depth gives a depth to another place. One that finds too few slots gives nothing
pub data Gives (op : Op) (place depth : ℕ) : ℕ → ℕ → Type 0 where
  goes_on : (effect_of op).needs ≤ depth → falls op ≡ true → Gives op place depth (suc place) (depth_after op depth)
  jumps : {goal : ℕ} → (effect_of op).needs ≤ depth → goal_of op ≡ Some goal → Gives op place depth goal (depth_at_goal op depth)

-- the least assignment of depths with: place 0 has depth 0; each instruction gives the depth after it to where it leads; where some place of a range has a depth, the handler has the range's. Only places of the code get one
pub data HasDepth (code : Code) : ℕ → ℕ → Type 0 where
  begins : 0 < length code.ops → HasDepth code 0 0
  given : {from before place depth : ℕ} {op : Op} → HasDepth code from before → slice_get code.ops from ≡ Some op → Gives op from before place depth → place < length code.ops → HasDepth code place depth
  handles : {from before : ℕ} {range : Range} → HasDepth code from before → Contains code.ranges range → covers range from ≡ true → range.goal < length code.ops → HasDepth code range.goal range.depth
