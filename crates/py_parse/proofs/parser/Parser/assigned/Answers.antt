use Rattle.std.proofs.Common.{◌∙◌, sym, ap, arith}
use Rattle.py_tree.specs.Tree.{StmtKind}
use Rattle.py_tree.specs.View.{expr_view, exprs_view}
use Rattle.py_descent.specs.Programs.{gives}
use Rattle.py_parse.proofs.Assigned.{last_assigned, next_assigned}
use Rattle.py_tree.proofs.StatementViews.{view_assign}
use Rattle.py_parse.proofs.parser.Parser.assigned.Goals as goal

pub returns-then-not-at_op-clause-gives : goal.returns-then-not-at_op-clause-gives
returns-then-not-at_op-clause-gives c =
    c.loop-targets.invariant.0 ∙ last_assigned (exprs_view c.loop-targets.targets.items) c.loop-targets.self c.tests.new.self (expr_view c.in_ok-value.value) c.in_ok-value.ensures.gives (grind arith)
    ∙ ap (λ (k : StmtKind). gives k c.tests.new.self) (sym (view_assign c.loop-targets.targets c.in_ok-value.value))

pub loop-targets-preserved : goal.loop-targets-preserved
loop-targets-preserved c = (
  c.loop-targets.invariant.0 ∙ next_assigned (exprs_view c.loop-targets.targets.items) (exprs_view c.target_of.new.targets.items) c.loop-targets.self c.tests.new.self c.target_of.new.self (expr_view c.in_ok-value.value) c.in_ok-value.ensures.gives c.in_ok-target_of.ensures.gives,
  omega (arith, c.loop-targets.invariant.1, c.in_ok-value.ensures.shrinks, c.in_ok-target_of.ensures.shrinks),
)
