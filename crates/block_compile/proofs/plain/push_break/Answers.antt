use Rattle.std.proofs.Common.{◌∙◌}
use Rattle.std.proofs.lemmas.Result.{on_ok_weaker}
use Rattle.block_compile.proofs.Simple.{break_popped, break_left}
use Rattle.block_compile.proofs.plain.push_break.Goals as goal
use Rattle.block_compile.proofs.plain.push_break.Goals.{then-keeps+in_ok-push, else-keeps}

pub returns : goal.returns
returns c =
    elim c.if-keeps.branch [
      | then-keeps+in_ok-push w ↦ on_ok_weaker c.push_leave.result (λ leaves. break_popped c.args.keeps c.args.line c.args.buffer.now c.if-keeps.buffer c.push_leave.new.self w.if-keeps.true (w.buffer-is ∙ w.in_ok-push.ensures) leaves) c.push_leave.ensures
      | else-keeps w ↦ on_ok_weaker c.push_leave.result (λ leaves. break_left c.args.keeps c.args.line c.args.buffer.now c.if-keeps.buffer c.push_leave.new.self w.if-keeps.false w.buffer-is leaves) c.push_leave.ensures
    ]
