-- What a code says of the runs that go along it.
use Rattle.std.specs.Prelude.{◌≡◌, ℕ, true, Option, Some, slice_get}
use Rattle.stack_code.specs.declared.code.Code.{Code}
use Rattle.stack_code.specs.declared.code.Range.{Range}
use Rattle.stack_code.specs.declared.op.Op.{Op}
use Rattle.stack_code.specs.Depths.{HasDepth}
use Rattle.stack_code.specs.Effects.{may_raise}
use Rattle.stack_code.specs.Handlers.{handler_at}

-- the code comes to an instruction that may raise, with this handler or none
pub record RaisesTo (code : Code) (handler : Option Range) : Type 0 where
  pub place : ℕ
  pub depth : ℕ
  pub op : Op
  pub stands : slice_get code.ops place ≡ Some op
  pub may : may_raise op ≡ true
  pub reached : HasDepth code place depth
  pub goes_to : handler_at code.ranges place ≡ handler
