-- The pieces are put one after another.
use Rattle.std.proofs.Common.{◌-◌, ℕ, List, sym, subst}
use Rattle.std.specs.Prelude.{option_map}
use Rattle.py_tree.specs.Tree.{site_of}
use Rattle.py_tree.specs.View.{expr_view}
use Rattle.stack_code.specs.declared.op.Op.TheVariants as op
use Rattle.tree_code.specs.Pieces.{one, ◌⨾◌, over}
use Rattle.tree_code.specs.Expressions.{value}
use Rattle.tree_code.specs.Statements.{dropped}
use Rattle.expr_compile.specs.Growth.{Grows}
use Rattle.expr_compile.proofs.Pieces.{grows_then, grows_over, opened_within, grown_within}
use Rattle.expr_compile.proofs.Sizes.{sized_value, sized_failure}
use Rattle.py_tree.proofs.ExpressionViews.{view_site}
use Rattle.expr_compile.proofs.simple.push_assert.Goals as goal

pub returns : goal.returns
returns c =
    let locals : List ℕ = c.args.names.now in
    grows_then (value locals (expr_view c.args.test.now)) (over op.JumpIfTrue c.args.line ((dropped locals c.args.line (option_map expr_view c.args.message.now)) ⨾ one (op.LoadName c.args.error) c.args.line ⨾ one (op.MakeRaised (site_of (expr_view c.args.test.now))) c.args.line ⨾ one op.Raise c.args.line)) c.args.buffer.now c.push_value.new.buffer c.aim.new.self (sized_value locals (expr_view c.args.test.now)) c.in_ok-push_value.ensures
    (grows_over op.JumpIfTrue c.args.line ((dropped locals c.args.line (option_map expr_view c.args.message.now)) ⨾ one (op.LoadName c.args.error) c.args.line ⨾ one (op.MakeRaised (site_of (expr_view c.args.test.now))) c.args.line ⨾ one op.Raise c.args.line) c.push_value.new.buffer c.push_open.new.self c.push_failure.new.buffer c.aim.new.self c.in_ok-jump.jump c.place-end.result (sized_failure locals c.args.line c.args.error (site_of (expr_view c.args.test.now)) (option_map expr_view c.args.message.now))
    c.in_ok-jump.ensures.at c.in_ok-jump.ensures.pushed (subst (λ site. Grows (dropped locals c.args.line (option_map expr_view c.args.message.now) ⨾ one (op.LoadName c.args.error) c.args.line ⨾ one (op.MakeRaised site) c.args.line ⨾ one op.Raise c.args.line) c.push_open.new.self c.push_failure.new.buffer) (sym (view_site c.args.test.now)) c.in_ok-push_failure.ensures) c.place-end.ensures c.aim.ensures)

pub aim-requires : goal.aim-requires
aim-requires c =
    let locals : List ℕ = c.args.names.now in
    grown_within c.in_ok-jump.jump ((dropped locals c.args.line (option_map expr_view c.args.message.now)) ⨾ one (op.LoadName c.args.error) c.args.line ⨾ one (op.MakeRaised c.args.test.now.site) c.args.line ⨾ one op.Raise c.args.line) c.push_open.new.self c.push_failure.new.buffer (opened_within c.in_ok-jump.jump c.args.line (op.JumpIfTrue 0) c.push_value.new.buffer c.push_open.new.self c.in_ok-jump.ensures.at c.in_ok-jump.ensures.pushed) c.in_ok-push_failure.ensures
