-- No instruction pushes more than one slot.
use Rattle.std.proofs.Common.{◌≤◌, arith}
use Rattle.stack_code.specs.declared.op.Op.{Op}
use Rattle.stack_code.specs.declared.op.Op.TheVariants.{Const}
use Rattle.stack_code.specs.Effects.{effect_of}

pub pushes_one : (op : Op) → (effect_of op).pushes ≤ 1
pushes_one (Const kind) = omega arith
pushes_one _ = omega arith
