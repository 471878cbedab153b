use Rattle.std.proofs.Common.{◌≡◌, ◌∙◌, Result, Err, sym, ap, subst, arith, rules}
use Rattle.py_tree.specs.View.{expr_view, exprs_view}
use Rattle.py_descent.specs.Programs.{room}
use Rattle.py_descent.specs.Descent.{descent}
use Rattle.py_descent.specs.Goals.{more_targets}
use Rattle.py_parse.specs.declared.fault.ParseFault.{ParseFault}
use Rattle.py_parse.specs.Targets.{GivesTargets}
use Rattle.py_parse.proofs.Aims.{found, last_target, next_target, not_found, some_more}
use Rattle.py_parse.proofs.Pushes.{exprs_push}
use Rattle.py_parse.proofs.parser.Parser.more_targets.Goals as goal

pub loop-self-preserved : goal.loop-self-preserved
loop-self-preserved c =
    let one = found c.starts_target.new.self c.target.new.self (expr_view c.in_ok-item.item) c.in_ok-item.ensures.gives in
    let more = some_more (exprs_view c.loop-self.items.items) (expr_view c.in_ok-item.item) one.1 c.loop-self.invariant.1 in (
      c.loop-self.invariant.0 ∙ grind (arith, exprs_push, one.0, next_target (exprs_view c.loop-self.items.items) c.starts_target.new.self c.target.new.self (expr_view c.in_ok-item.item)),
      grind (arith, exprs_push, more),
      omega (arith, c.loop-self.invariant.2, ap room c.starts_target.ensures.stays, c.in_ok-item.ensures.shrinks, c.if-not-eat_op.ensures.shrinks),
    )

pub returns-then-not-eat_op-clause-gives : goal.returns-then-not-eat_op-clause-gives
returns-then-not-eat_op-clause-gives c =
    let one = found c.starts_target.new.self c.target.new.self (expr_view c.in_ok-item.item) c.in_ok-item.ensures.gives in
    let more = some_more (exprs_view c.loop-self.items.items) (expr_view c.in_ok-item.item) one.1 c.loop-self.invariant.1 in (
      c.loop-self.invariant.0 ∙ grind (arith, exprs_push, one.0, last_target (exprs_view c.loop-self.items.items) c.starts_target.new.self c.target.new.self (expr_view c.in_ok-item.item)),
      grind (arith, exprs_push, more),
    )

pub returns-in_err-item-clause-gives : goal.returns-in_err-item-clause-gives
returns-in_err-item-clause-gives c =
    let r = descent (more_targets (exprs_view c.args.items.now.items)) c.args.self.now in
    let here : r ≡ descent (more_targets (exprs_view c.loop-self.items.items)) c.starts_target.new.self = (c.loop-self.invariant.0 ∙ ap (descent (more_targets (exprs_view c.loop-self.items.items))) (sym c.starts_target.ensures.stays)) in
    let none = not_found expr_view c.in_err-item.field-0.0 (exprs_view c.loop-self.items.items) (exprs_view c.loop-self.items.items) c.starts_target.new.self c.target.new.self r here (grind arith) c.in_err-item.ensures.gives in
    let same : c.from_residual.result ≡ Err c.in_err-item.field-0.0 = search rules in
    subst (λ (q : Result (Unit {0}) ParseFault). GivesTargets q (exprs_view c.loop-self.items.items) c.target.new.self r) (sym same) none
