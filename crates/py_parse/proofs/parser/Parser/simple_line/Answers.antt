use Rattle.std.proofs.Common.{◌∙◌, ap, arith}
use Rattle.py_tree.specs.View.{stmt_view, stmts_view}
use Rattle.py_descent.specs.Programs.{room}
use Rattle.py_parse.proofs.Pushes.{stmts_push}
use Rattle.py_parse.proofs.Steps.{next_line}
use Rattle.py_parse.proofs.parser.Parser.simple_line.Goals as goal

pub loop-stmt-preserved : goal.loop-stmt-preserved
loop-stmt-preserved c = (
  c.loop-stmt.invariant.0 ∙ grind (arith, stmts_push, next_line (stmts_view c.loop-stmt.body.items) c.loop-stmt.self (stmt_view c.in_ok-stmt.stmt) c.simple.new.self),
  omega (arith, c.loop-stmt.invariant.1, c.in_ok-stmt.ensures.shrinks, c.if-not-eat_op.ensures.shrinks, ap room c.if-eat_newline.ensures.shrinks),
)
