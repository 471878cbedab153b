-- Valid code has no fault.
use Rattle.std.proofs.Common.{Err, sym, ap, subst, ◌∙◌}
use Rattle.stack_code.specs.Validity.{IsValid}
use Rattle.block_compile.proofs.Finishing.{no_jump_out, no_two_depths, no_underflow, no_range_out}
use Rattle.block_compile.proofs.functions.finished.Goals as goal

pub unreachable-requires : goal.unreachable-requires
unreachable-requires c =
    no_jump_out c.in_ok-code.code c.in-Err-JumpOut.field-0-0 (subst IsValid (sym c.in_ok-code.ensures.code) c.requires) (c.validate.ensures.jump_out c.in-Err-JumpOut.field-0-0 (c.in-Err-JumpOut.is ∙ ap Err c.in-Err-JumpOut.field-0-is))

pub unreachable-requires-in-Err-DepthDiffers : goal.unreachable-requires-in-Err-DepthDiffers
unreachable-requires-in-Err-DepthDiffers c =
    no_two_depths c.in_ok-code.code c.in-Err-DepthDiffers.field-0-0 (subst IsValid (sym c.in_ok-code.ensures.code) c.requires) (c.validate.ensures.depth_differs c.in-Err-DepthDiffers.field-0-0 (c.in-Err-DepthDiffers.is ∙ ap Err c.in-Err-DepthDiffers.field-0-is)).1

pub unreachable-requires-in-Err-Underflow : goal.unreachable-requires-in-Err-Underflow
unreachable-requires-in-Err-Underflow c =
    no_underflow c.in_ok-code.code c.in-Err-Underflow.field-0-0 (subst IsValid (sym c.in_ok-code.ensures.code) c.requires) (c.validate.ensures.underflow c.in-Err-Underflow.field-0-0 (c.in-Err-Underflow.is ∙ ap Err c.in-Err-Underflow.field-0-is)).2

pub unreachable-requires-in-Err-RangeOut : goal.unreachable-requires-in-Err-RangeOut
unreachable-requires-in-Err-RangeOut c =
    no_range_out c.in_ok-code.code c.in-Err-RangeOut.field-0-0 (subst IsValid (sym c.in_ok-code.ensures.code) c.requires) (c.validate.ensures.range_out c.in-Err-RangeOut.field-0-0 (c.in-Err-RangeOut.is ∙ ap Err c.in-Err-RangeOut.field-0-is)).3
