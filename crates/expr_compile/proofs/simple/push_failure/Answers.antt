-- The pieces are put one after another.
use Rattle.std.proofs.Common.{◌-◌, ℕ, List}
use Rattle.std.specs.Prelude.{option_map}
use Rattle.py_tree.specs.View.{expr_view}
use Rattle.stack_code.specs.declared.op.Op.TheVariants as op
use Rattle.tree_code.specs.Pieces.{one, ◌⨾◌}
use Rattle.tree_code.specs.Statements.{dropped}
use Rattle.expr_compile.proofs.Pieces.{sized_one, grows_one, grows_then}
use Rattle.expr_compile.proofs.Sizes.{sized_dropped}
use Rattle.expr_compile.proofs.simple.push_failure.Goals as goal

pub returns : goal.returns
returns c =
    let locals : List ℕ = c.args.names.now in
    grows_then (dropped locals c.args.line (option_map expr_view c.args.message.now)) ((one (op.LoadName c.args.error) c.args.line) ⨾ (one (op.MakeRaised c.args.site) c.args.line ⨾ one op.Raise c.args.line)) c.args.buffer.now c.push_dropped.new.buffer c.push_making.new.buffer (sized_dropped locals c.args.line (option_map expr_view c.args.message.now)) c.in_ok-push_dropped.ensures
    (grows_then (one (op.LoadName c.args.error) c.args.line) ((one (op.MakeRaised c.args.site) c.args.line ⨾ one op.Raise c.args.line)) c.push_dropped.new.buffer c.push.new.self c.push_making.new.buffer (sized_one (op.LoadName c.args.error) c.args.line) (grows_one (op.LoadName c.args.error) c.args.line c.push_dropped.new.buffer c.push.new.self c.in_ok-push.ensures)
    c.in_ok-push_making.ensures)
