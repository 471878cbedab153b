-- The value, and then the targets.
use Rattle.std.proofs.Common.{ℕ, List}
use Rattle.py_tree.specs.View.{expr_view, exprs_view}
use Rattle.tree_code.specs.Expressions.{value}
use Rattle.tree_code.specs.Statements.{put_all}
use Rattle.expr_compile.proofs.Pieces.{grows_then}
use Rattle.expr_compile.proofs.Sizes.{sized_value}
use Rattle.expr_compile.proofs.simple.push_assign.Goals as goal

pub returns : goal.returns
returns c =
    let locals : List ℕ = c.args.names.now in
    grows_then (value locals (expr_view c.args.value.now)) (put_all locals c.args.line (exprs_view c.args.targets.now)) c.args.buffer.now c.push_value.new.buffer c.push_put_all.new.buffer (sized_value locals (expr_view c.args.value.now)) c.in_ok-push_value.ensures c.in_ok-push_put_all.ensures
