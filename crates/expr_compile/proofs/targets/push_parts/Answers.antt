-- The pieces are put one after another.
use Rattle.std.proofs.Common.{◌≡◌, ◌-◌, ℕ, suc, sym, ap, ◌∙◌, arith}
use Rattle.stack_code.specs.declared.op.Op.TheVariants as op
use Rattle.tree_code.specs.Pieces.{one}
use Rattle.tree_code.specs.Expressions.{parts}
use Rattle.expr_compile.specs.Emitted.{with_piece}
use Rattle.expr_compile.proofs.Pieces.{sized_one, grows_one, grows_round}
use Rattle.expr_compile.proofs.targets.push_parts.Goals as goal

pub loop-part-preserved : goal.loop-part-preserved
loop-part-preserved c =
    let left : ℕ = c.loop-part.part - 1 in
    let whole = parts c.args.line c.args.parts c.args.parts in
    let step : c.loop-part.part ≡ suc left = omega arith in
    grows_round (one (op.Part left c.args.parts) c.args.line) (parts c.args.line c.args.parts left) whole c.args.buffer.now c.loop-part.buffer c.push.new.self (sized_one (op.Part left c.args.parts) c.args.line)
    (λ labels. ap (λ n. with_piece (parts c.args.line c.args.parts n) labels c.loop-part.buffer) (sym step) ∙ c.loop-part.invariant labels) (grows_one (op.Part left c.args.parts) c.args.line c.loop-part.buffer c.push.new.self c.in_ok-push.ensures)
