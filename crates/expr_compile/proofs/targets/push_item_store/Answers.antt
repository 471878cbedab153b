-- The pieces are put one after another.
use Rattle.std.proofs.Common.{◌-◌, ℕ, List}
use Rattle.py_tree.specs.View.{expr_view}
use Rattle.stack_code.specs.declared.op.Op.TheVariants as op
use Rattle.tree_code.specs.Pieces.{one, ◌⨾◌}
use Rattle.tree_code.specs.Expressions.{value}
use Rattle.expr_compile.proofs.Pieces.{sized_one, grows_one, grows_then}
use Rattle.expr_compile.proofs.Sizes.{sized_value}
use Rattle.expr_compile.proofs.targets.push_item_store.Goals as goal

pub returns : goal.returns
returns c =
    let locals : List ℕ = c.args.names.now in
    grows_then (value locals (expr_view c.args.container.now)) ((value locals (expr_view c.args.index.now)) ⨾ (one (op.Pick 2) c.args.line) ⨾ (one op.StoreItem c.args.line) ⨾ (one op.Pop c.args.line)) c.args.buffer.now c.push_value.new.buffer c.push-3.new.self (sized_value locals (expr_view c.args.container.now)) c.in_ok-push_value.ensures
    (grows_then (value locals (expr_view c.args.index.now)) ((one (op.Pick 2) c.args.line) ⨾ (one op.StoreItem c.args.line) ⨾ (one op.Pop c.args.line)) c.push_value.new.buffer c.push_value-2.new.buffer c.push-3.new.self (sized_value locals (expr_view c.args.index.now)) c.in_ok-push_value-2.ensures
    (grows_then (one (op.Pick 2) c.args.line) ((one op.StoreItem c.args.line) ⨾ (one op.Pop c.args.line)) c.push_value-2.new.buffer c.push.new.self c.push-3.new.self (sized_one (op.Pick 2) c.args.line) (grows_one (op.Pick 2) c.args.line c.push_value-2.new.buffer c.push.new.self c.in_ok-push.ensures)
    (grows_then (one op.StoreItem c.args.line) ((one op.Pop c.args.line)) c.push.new.self c.push-2.new.self c.push-3.new.self (sized_one op.StoreItem c.args.line) (grows_one op.StoreItem c.args.line c.push.new.self c.push-2.new.self c.in_ok-push-2.ensures)
    (grows_one op.Pop c.args.line c.push-2.new.self c.push-3.new.self c.in_ok-push-3.ensures))))
