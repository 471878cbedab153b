-- Runs of code that are entered only at their first and left only at their last instruction, and the maximal ones.
use Rattle.std.specs.Prelude.{◌≡◌, ℕ, suc, ◌<◌, ◌≤◌, false, Some, length, slice_get}
use Rattle.std.specs.List.{Contains}
use Rattle.stack_code.specs.declared.op.Op.{Op}
use Rattle.stack_code.specs.declared.code.Code.{Code}
use Rattle.stack_code.specs.Blocks.{leads, ends_run}

-- From the first place on and before `past`: no instruction leads into it behind its first place, other than by going on to the next place, and each but the last goes on to the next place and leads nowhere else.
pub record IsRun (code : Code) (first past : ℕ) : Type 0 where
  pub some : first < past
  pub within : past ≤ length code.ops
  pub entered : (from place : ℕ) (op : Op) → slice_get code.ops from ≡ Some op → Contains (leads code.ranges from op) place → first < place → place < past → ⊥
  pub left : (place : ℕ) (op : Op) → slice_get code.ops place ≡ Some op → first ≤ place → suc place < past → ends_run code.ranges place op ≡ false

-- and no other run has all its places
pub record IsMaximalRun (code : Code) (first past : ℕ) : Type 0 where
  pub run : IsRun code first past
  pub largest : (other end : ℕ) → other ≤ first → past ≤ end → IsRun code other end → (other ≡ first) × (end ≡ past)
