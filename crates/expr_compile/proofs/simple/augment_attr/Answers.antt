-- The pieces are put one after another.
use Rattle.std.proofs.Common.{◌-◌, ℕ, List}
use Rattle.py_tree.specs.View.{expr_view}
use Rattle.stack_code.specs.declared.op.Op.TheVariants as op
use Rattle.tree_code.specs.Pieces.{one, ◌⨾◌}
use Rattle.tree_code.specs.Expressions.{value}
use Rattle.expr_compile.proofs.Pieces.{sized_one, grows_one, grows_then}
use Rattle.expr_compile.proofs.Sizes.{sized_value}
use Rattle.expr_compile.proofs.simple.augment_attr.Goals as goal

pub returns : goal.returns
returns c =
    let locals : List ℕ = c.args.names.now in
    grows_then (value locals (expr_view c.args.object.now)) ((one (op.Pick 0) c.args.at) ⨾ (one (op.Attr c.args.name) c.args.at) ⨾ (value locals (expr_view c.args.value.now)) ⨾ (one c.args.change c.args.line) ⨾ (one (op.StoreAttr c.args.name) c.args.at)) c.args.buffer.now c.push_value.new.buffer c.push-4.new.self (sized_value locals (expr_view c.args.object.now)) c.in_ok-push_value.ensures
    (grows_then (one (op.Pick 0) c.args.at) ((one (op.Attr c.args.name) c.args.at) ⨾ (value locals (expr_view c.args.value.now)) ⨾ (one c.args.change c.args.line) ⨾ (one (op.StoreAttr c.args.name) c.args.at)) c.push_value.new.buffer c.push.new.self c.push-4.new.self (sized_one (op.Pick 0) c.args.at) (grows_one (op.Pick 0) c.args.at c.push_value.new.buffer c.push.new.self c.in_ok-push.ensures)
    (grows_then (one (op.Attr c.args.name) c.args.at) ((value locals (expr_view c.args.value.now)) ⨾ (one c.args.change c.args.line) ⨾ (one (op.StoreAttr c.args.name) c.args.at)) c.push.new.self c.push-2.new.self c.push-4.new.self (sized_one (op.Attr c.args.name) c.args.at) (grows_one (op.Attr c.args.name) c.args.at c.push.new.self c.push-2.new.self c.in_ok-push-2.ensures)
    (grows_then (value locals (expr_view c.args.value.now)) ((one c.args.change c.args.line) ⨾ (one (op.StoreAttr c.args.name) c.args.at)) c.push-2.new.self c.push_value-2.new.buffer c.push-4.new.self (sized_value locals (expr_view c.args.value.now)) c.in_ok-push_value-2.ensures
    (grows_then (one c.args.change c.args.line) ((one (op.StoreAttr c.args.name) c.args.at)) c.push_value-2.new.buffer c.push-3.new.self c.push-4.new.self (sized_one c.args.change c.args.line) (grows_one c.args.change c.args.line c.push_value-2.new.buffer c.push-3.new.self c.in_ok-push-3.ensures)
    (grows_one (op.StoreAttr c.args.name) c.args.at c.push-3.new.self c.push-4.new.self c.in_ok-push-4.ensures)))))
