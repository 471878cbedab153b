-- The pieces are put one after another.
use Rattle.std.proofs.Common.{◌-◌, ℕ, List, sym, subst}
use Rattle.std.specs.Prelude.{option_map}
use Rattle.py_tree.specs.Tree.{site_of}
use Rattle.py_tree.specs.View.{expr_view}
use Rattle.stack_code.specs.declared.op.Op.TheVariants as op
use Rattle.tree_code.specs.Pieces.{one, ◌⨾◌}
use Rattle.tree_code.specs.Expressions.{value}
use Rattle.tree_code.specs.Statements.{dropped}
use Rattle.expr_compile.specs.Growth.{Grows}
use Rattle.expr_compile.proofs.Pieces.{grows_then}
use Rattle.expr_compile.proofs.Sizes.{sized_value, sized_dropped}
use Rattle.py_tree.proofs.ExpressionViews.{view_site}
use Rattle.expr_compile.proofs.simple.push_raised.Goals as goal

pub returns : goal.returns
returns c =
    let locals : List ℕ = c.args.names.now in
    grows_then (value locals (expr_view c.args.raised.now)) ((dropped locals c.args.line (option_map expr_view c.args.cause.now)) ⨾ (one (op.MakeRaised (site_of (expr_view c.args.raised.now))) c.args.line ⨾ one op.Raise c.args.line)) c.args.buffer.now c.push_value.new.buffer c.push_making.new.buffer (sized_value locals (expr_view c.args.raised.now)) c.in_ok-push_value.ensures
    (grows_then (dropped locals c.args.line (option_map expr_view c.args.cause.now)) ((one (op.MakeRaised (site_of (expr_view c.args.raised.now))) c.args.line ⨾ one op.Raise c.args.line)) c.push_value.new.buffer c.push_dropped.new.buffer c.push_making.new.buffer (sized_dropped locals c.args.line (option_map expr_view c.args.cause.now)) c.in_ok-push_dropped.ensures
    (subst (λ site. Grows (one (op.MakeRaised site) c.args.line ⨾ one op.Raise c.args.line) c.push_dropped.new.buffer c.push_making.new.buffer) (sym (view_site c.args.raised.now)) c.in_ok-push_making.ensures))
