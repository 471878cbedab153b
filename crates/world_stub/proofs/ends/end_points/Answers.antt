use Rattle.std.proofs.Common.{◌≡◌, ◌+◌, arith, false, true, sym, subst, ap, ◌∙◌}
use Rattle.world_stub.proofs.Ending.{AreEndsBelow, with_end, without_end, all_ends}
use Rattle.world_stub.proofs.ends.end_points.Goals as goal
use Rattle.world_stub.proofs.ends.end_points.Goals.{then-is_end+in_ok-push, else-is_end}

pub loop-number-preserved : goal.loop-number-preserved
loop-number-preserved c =
    elim c.if-is_end.branch [
      | then-is_end+in_ok-push w ↦
          subst (AreEndsBelow c.args.program.now c.args.world.now.rows (c.loop-number.number + 1)) (sym w.ends-is)
          (with_end c.args.program.now c.args.world.now.rows c.loop-number.number c.new-point.result c.new-point.ensures c.loop-number.ends c.loop-number.invariant (c.is_end.ensures.0 w.if-is_end.true) w.push.new.self w.in_ok-push.ensures.ok)
      | else-is_end w ↦
          subst (AreEndsBelow c.args.program.now c.args.world.now.rows (c.loop-number.number + 1)) (sym w.ends-is)
          (without_end c.args.program.now c.args.world.now.rows c.loop-number.number c.new-point.result c.new-point.ensures c.loop-number.ends c.loop-number.invariant
          (λ e. let t : true ≡ false = sym (c.is_end.ensures.1 e) ∙ w.if-is_end.false in cc))
    ]

pub returns : goal.returns
returns c = all_ends c.args.program.now c.args.world.now.rows c.loop-number.number c.loop-number.ends c.loop-number.invariant (omega arith)
