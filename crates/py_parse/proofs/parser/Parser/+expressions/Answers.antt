-- What the loops of the expressions keep.
use Rattle.std.proofs.Common.{◌∙◌, ap, arith}
use Rattle.py_descent.specs.Programs.{room}
use Rattle.py_parse.proofs.Rounds.{next_or, next_and, next_test, next_operand, no_constant, next_attribute, next_call, next_subscript, next_argument, next_pair}
use Rattle.py_parse.proofs.parser.Parser.+expressions.Goals as goal

pub disjunctions-loop-line-preserved : goal.disjunctions-loop-line-preserved
disjunctions-loop-line-preserved t c =
    (c.loop-line.invariant.0 ∙ next_or _ _ _ _ _ _ _ _ c.loop-line-test.ensures.found c.loop-line-test.ensures.moved c.in_ok-right.ensures.gives c.in_ok-all.ensures.gives, omega (arith, c.loop-line.invariant.1, c.loop-line-test.ensures.shrinks, c.in_ok-right.ensures.shrinks, c.in_ok-all.ensures.keeps))

pub conjunctions-loop-line-preserved : goal.conjunctions-loop-line-preserved
conjunctions-loop-line-preserved t c =
    (c.loop-line.invariant.0 ∙ next_and _ _ _ _ _ _ _ _ c.loop-line-test.ensures.found c.loop-line-test.ensures.moved c.in_ok-right.ensures.gives c.in_ok-all.ensures.gives, omega (arith, c.loop-line.invariant.1, c.loop-line-test.ensures.shrinks, c.in_ok-right.ensures.shrinks, c.in_ok-all.ensures.keeps))

pub more_tests-loop-self-preserved : goal.more_tests-loop-self-preserved
more_tests-loop-self-preserved t c =
    (c.loop-self.invariant.0 ∙ next_test c.loop-self.items.items c.push.new.self.items c.in_ok-item.item c.loop-self.self c.test.new.self c.eat_op.new.self c.mark_element-in-loop-self.new.self c.loop-self-test.ensures c.in_ok-item.ensures.gives c.in_ok-push.ensures.items c.if-not-eat_op.ensures.found c.if-not-eat_op.ensures.moved c.mark_element-in-loop-self.ensures, omega (arith, c.loop-self.invariant.1, c.in_ok-item.ensures.shrinks, c.if-not-eat_op.ensures.shrinks, ap room c.mark_element-in-loop-self.ensures))

pub operations-loop-level-preserved : goal.operations-loop-level-preserved
operations-loop-level-preserved t c =
    (c.loop-level.invariant.0 ∙ next_operand _ _ _ _ _ _ _ _ _ _ _ c.in-Some.ensures.said c.in-Some.ensures.moved c.in_ok-right.ensures.gives c.in_ok-all.ensures.gives, omega (arith, c.loop-level.invariant.1, c.in-Some.ensures.shrinks, c.in_ok-right.ensures.shrinks, c.in_ok-all.ensures.keeps))

pub atom-returns-in-None-clause-gives : goal.atom-returns-in-None-clause-gives
atom-returns-in-None-clause-gives t c = rw (no_constant c.line-line.result c.args.self.now c.eat_constant.new.self c.line-line.ensures c.in-None.ensures.said c.in-None.ensures.moved) c.number_atom.ensures.gives

pub trailers-loop-self-preserved-then-eat_op : goal.trailers-loop-self-preserved-then-eat_op
trailers-loop-self-preserved-then-eat_op t c =
    (c.loop-self.invariant.0 ∙ next_attribute _ _ _ _ _ _ c.if-eat_op.ensures.found c.if-eat_op.ensures.moved c.in_ok-all.ensures.gives, omega (arith, c.loop-self.invariant.1, c.if-eat_op.ensures.shrinks, c.in_ok-all.ensures.shrinks))

pub trailers-loop-self-preserved-then-eat_op-2 : goal.trailers-loop-self-preserved-then-eat_op-2
trailers-loop-self-preserved-then-eat_op-2 t c =
    (c.loop-self.invariant.0 ∙ next_call _ _ _ _ _ _ _ c.if-eat_op.ensures.found c.if-eat_op.ensures.moved c.if-eat_op-2.ensures.found c.if-eat_op-2.ensures.moved c.in_ok-all-2.ensures.gives, omega (arith, c.loop-self.invariant.1, ap room c.if-eat_op.ensures.shrinks, c.if-eat_op-2.ensures.shrinks, c.in_ok-all-2.ensures.shrinks))

pub trailers-loop-self-preserved : goal.trailers-loop-self-preserved
trailers-loop-self-preserved t c =
    (c.loop-self.invariant.0 ∙ next_subscript _ _ _ _ _ _ _ _ c.if-eat_op.ensures.found c.if-eat_op.ensures.moved c.if-eat_op-2.ensures.found c.if-eat_op-2.ensures.moved c.if-eat_op-3.ensures.found c.if-eat_op-3.ensures.moved c.in_ok-all-3.ensures.gives, omega (arith, c.loop-self.invariant.1, ap room c.if-eat_op.ensures.shrinks, ap room c.if-eat_op-2.ensures.shrinks, c.if-eat_op-3.ensures.shrinks, c.in_ok-all-3.ensures.shrinks))

pub arguments-loop-self-preserved : goal.arguments-loop-self-preserved
arguments-loop-self-preserved t c =
    (c.loop-self.invariant.0 ∙ next_argument c.loop-self.named c.is_some-named.result c.loop-self.args.items c.push.new.self.items c.in_ok-arg.arg c.loop-self.self c.argument.new.self c.eat_op.new.self c.loop-self-test.ensures c.in_ok-arg.ensures.gives c.is_some-named.ensures c.in_ok-push.ensures.items c.if-not-eat_op.ensures.found c.if-not-eat_op.ensures.moved, omega (arith, c.loop-self.invariant.1, c.in_ok-arg.ensures.shrinks, c.if-not-eat_op.ensures.shrinks))

pub pairs-loop-self-preserved : goal.pairs-loop-self-preserved
pairs-loop-self-preserved t c =
    (c.loop-self.invariant.0 ∙ next_pair c.loop-self.pairs.items c.push.new.self.items c.in_ok-pair.pair c.loop-self.self c.pair.new.self c.eat_op.new.self c.loop-self-test.ensures c.in_ok-pair.ensures.gives c.in_ok-push.ensures.items c.if-not-eat_op.ensures.found c.if-not-eat_op.ensures.moved, omega (arith, c.loop-self.invariant.1, c.in_ok-pair.ensures.shrinks, c.if-not-eat_op.ensures.shrinks))
