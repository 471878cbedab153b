use Rattle.std.proofs.Common.{◌∙◌, Some, false, ap, arith}
use Rattle.py_tokens.specs.declared.token.Keyword.TheVariants as word
use Rattle.py_grammar.specs.Cursor.{past}
use Rattle.py_tree.specs.View.{arms_view, expr_view, handlers_view, stmts_view}
use Rattle.py_descent.specs.Codes.{at, keyword}
use Rattle.py_descent.specs.Programs.{room}
use Rattle.py_parse.proofs.Handling.{arms_more, expected, handlers_more, next_arms, next_handlers}
use Rattle.py_parse.proofs.Steps.{next_statements}
use Rattle.py_parse.proofs.parser.Parser.+statements.Goals as goal

pub further_arms-loop-self-preserved : goal.further_arms-loop-self-preserved
further_arms-loop-self-preserved t c = (
  c.loop-self.invariant.0 ∙ grind (arith, arms_more c.loop-self.arms.items c.in_ok-test.test c.in_ok-body.body, next_arms (arms_view c.loop-self.arms.items) c.loop-self.self c.test.new.self c.body.new.self (expr_view c.in_ok-test.test) (stmts_view c.in_ok-body.body.items)),
  omega (arith, c.loop-self.invariant.1, c.loop-self-test.ensures.shrinks, c.in_ok-test.ensures.shrinks, c.in_ok-body.ensures.shrinks),
)

pub handlers-loop-handlers-preserved : goal.handlers-loop-handlers-preserved
handlers-loop-handlers-preserved t c =
    let begun = expected (at (keyword word.KwExcept) c.loop-handlers.self) c.in_ok-expect_keyword.field-0 (past c.loop-handlers.self) c.expect_keyword.new.self c.in_ok-expect_keyword.ensures.gives in (
      c.loop-handlers.invariant.0 ∙ grind (arith, handlers_more c.loop-handlers.handlers.items (Some c.in_ok-class.class) c.in_ok-class.name c.in_ok-body-2.body c.line-line.result, begun.0, begun.1, next_handlers (handlers_view c.loop-handlers.handlers.items) c.loop-handlers.self c.caught.new.self c.body.new.self (expr_view c.in_ok-class.class) c.in_ok-class.name (stmts_view c.in_ok-body-2.body.items)),
      omega (arith, c.loop-handlers.invariant.1, c.in_ok-expect_keyword.ensures.shrinks, ap room c.if-eat_op.ensures.shrinks, c.in_ok-class.ensures.shrinks, c.in_ok-body-2.ensures.shrinks),
    )

pub statements-loop-self-preserved : goal.statements-loop-self-preserved
statements-loop-self-preserved t c = (
  c.loop-self.invariant.0 ∙ next_statements false (stmts_view c.loop-self.body.items) c.loop-self.self (stmts_view c.statement.new.body.items) c.statement.new.self (grind arith) c.in_ok-statement.ensures.gives c.in_ok-statement.ensures.shrinks,
  omega (arith, c.loop-self.invariant.1, c.in_ok-statement.ensures.shrinks),
)
