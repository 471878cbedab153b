use Rattle.std.proofs.Common.{◌∙◌, true, arith}
use Rattle.py_tree.specs.View.{stmts_view}
use Rattle.py_parse.proofs.Steps.{next_statements}
use Rattle.py_parse.proofs.parser.Parser.module_statements.Goals as goal

pub loop-self-preserved : goal.loop-self-preserved
loop-self-preserved c = (
  c.loop-self.invariant.0 ∙ next_statements true (stmts_view c.loop-self.body.items) c.loop-self.self (stmts_view c.module_statement.new.body.items) c.module_statement.new.self (grind arith) c.in_ok-module_statement.ensures.gives c.in_ok-module_statement.ensures.shrinks,
  omega (arith, c.loop-self.invariant.1, c.in_ok-module_statement.ensures.shrinks),
)
