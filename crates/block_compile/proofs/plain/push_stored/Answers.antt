use Rattle.std.proofs.Common.{[], subst}
use Rattle.std.proofs.lemmas.Result.{on_ok_weaker}
use Rattle.py_tree.specs.View.{expr_view}
use Rattle.stack_code.specs.declared.op.Op.TheVariants as op
use Rattle.tree_code.specs.Expressions.{value}
use Rattle.tree_code.specs.Pieces.{one}
use Rattle.expr_compile.specs.Growth.{Grows}
use Rattle.block_compile.proofs.Bodies.{value_sized}
use Rattle.block_compile.proofs.Simple.{grows_then, grows_one}
use Rattle.block_compile.proofs.plain.push_stored.Goals as goal

pub returns : goal.returns
returns c =
    on_ok_weaker c.push.result
    (λ stores. grows_then (value [] (expr_view c.args.value.now)) (one (op.StoreMember c.args.class c.args.name) c.args.line) c.args.buffer.now c.push_value.new.buffer c.push.new.self (value_sized [] (expr_view c.args.value.now))
    (subst (λ locals. Grows (value locals (expr_view c.args.value.now)) c.args.buffer.now c.push_value.new.buffer) c.outside-body.ensures c.in_ok-push_value.ensures)
    (grows_one (op.StoreMember c.args.class c.args.name) c.args.line c.push_value.new.buffer c.push.new.self stores)) c.push.ensures
