-- The pieces of statements come one after another, by one lemma for each way to put them together.
use Rattle.std.proofs.lemmas.Result.{on_ok_weaker, IfOk-weaker}
use Rattle.std.proofs.Common.{◌≡◌, ℕ, false, length, Some, None, option_map, ◌+◌, ◌<◌, List, drop, sym, ap, subst, ◌∙◌}
use Rattle.std.proofs.Math.ListN.{drop_of_length-le}
use Rattle.py_tree.specs.Tree as tree
use Rattle.py_tree.specs.Tree.{Stmts, Handlers, statement}
use Rattle.py_tree.specs.declared.statement.Arm as rust_arm
use Rattle.py_tree.specs.declared.statement.Handler as rust_handler
use Rattle.py_tree.specs.declared.statement.Stmt as rust_stmt
use Rattle.block_compile.specs.declared.place.Place as rust_place
use Rattle.py_tree.specs.declared.statement.Arm.{out-Arm}
use Rattle.py_tree.specs.declared.statement.Handler.{out-Handler}
use Rattle.py_tree.specs.View.{Arm, Handler, expr_view, stmt_view, stmt_kind_view, stmts_view, arm_view, arms_view, handler_view, handlers_view}
use Rattle.stack_code.specs.declared.op.Op.TheVariants as op
use Rattle.tree_code.specs.Expressions.{value, put}
use Rattle.tree_code.specs.Pieces.{Piece, nothing, one, ◌⨾◌, loop, guarded}
use Rattle.tree_code.specs.Statements.{Place, kind_code, body_code, arms_code, handlers_code, in_while, in_for}
use Rattle.expr_compile.specs.Growth.{Grows}
use Rattle.expr_compile.specs.Emitted.{Emitted, with_piece}
use Rattle.tree_code.specs.Standing.{IsSized}
use Rattle.block_compile.specs.Emits.{Emits, EndsOpen, Begins}
use Rattle.expr_compile.specs.Jumps.{landed}
use Rattle.block_compile.specs.PlaceOf.{standing, statement_code, plain_code, clause_inner, clause_code}
use Rattle.block_compile.proofs.Emitting.{sized_one, sized_nothing, sized_then, emits_one, emits_piece, emits_nothing, emits_then}
use Rattle.block_compile.proofs.Loops.{piece_then, piece_nothing}
use Rattle.block_compile.proofs.Bodies.{value_sized, put_sized, body_sized, handlers_sized, clause_ends, clause_bare, clause_classed, body_step, arms_step, handlers_step}
use Rattle.block_compile.proofs.Steps.{opened_there, pushed_there, emitted_there, left_there, arm_done, loop_done, guard_done, guarded_done}
use Rattle.block_compile.proofs.PlainKinds.{plain_is}
use Rattle.py_tree.proofs.NodeViews.{arm_parts, handler_parts, stmt_parts}
use Rattle.py_tree.proofs.StatementViews.{view_if, view_while, view_for, view_try}
use Rattle.block_compile.proofs.statements.+statements.Goals as goal

pub push_body-loop-stmt-preserved : goal.push_body-loop-stmt-preserved
push_body-loop-stmt-preserved t c =
    let at : Place = standing c.args.names.now c.args.at.now in
    body_step at c.args.at.now.again c.args.body.now c.loop-stmt.stmt-index c.stmt-item.result (body_code at (stmts_view c.args.body.now)) c.args.buffer.now c.loop-stmt.buffer c.push_statement.new.buffer
    c.loop-stmt-test.true c.stmt-item.is c.in_ok-push_statement.ensures c.loop-stmt.invariant

pub push_body-returns : goal.push_body-returns
push_body-returns t c =
    let at : Place = standing c.args.names.now c.args.at.now in
    c.loop-stmt.invariant c.loop-stmt.buffer
    (subst (λ xs. Emits (body_code at (stmts_view xs)) c.args.at.now.again c.loop-stmt.buffer c.loop-stmt.buffer) (sym (drop_of_length-le c.args.body.now c.loop-stmt-test.false)) (emits_nothing c.args.at.now.again c.loop-stmt.buffer))

pub push_statement-returns-in-While : goal.push_statement-returns-in-While
push_statement-returns-in-While t c =
    let at : Place = standing c.args.names.now c.args.at.now in
    let seen : stmt_view c.args.stmt.now ≡ statement (tree.while (expr_view c.in-While.test) (stmts_view c.in-While.body.items)) c.args.stmt.now.line =
    stmt_parts c.args.stmt.now ∙ ap (λ k. statement (stmt_kind_view k) c.args.stmt.now.line) c.in-While.is ∙ ap (λ k. statement k c.args.stmt.now.line) (view_while c.in-While.test c.in-While.body) in
    let piece : Stmts → Piece = λ body. loop op.JumpIfFalse c.args.stmt.now.line (value at.locals (expr_view c.in-While.test)) (body_code (in_while at) body) in
    on_ok_weaker c.push_while.result (λ grows. subst (λ s. Emits (statement_code at s) c.args.at.now.again c.args.buffer.now c.push_while.new.buffer) (sym seen)
    (subst (λ xs. Emits (piece (stmts_view xs)) c.args.at.now.again c.args.buffer.now c.push_while.new.buffer) c.as_slice-in-While.ensures.value
    (emits_piece c.args.at.now.again (piece (stmts_view c.as_slice-in-While.result.now)) c.args.buffer.now c.push_while.new.buffer grows))) c.push_while.ensures

pub push_statement-returns-in-For : goal.push_statement-returns-in-For
push_statement-returns-in-For t c =
    let at : Place = standing c.args.names.now c.args.at.now in
    let seen : stmt_view c.args.stmt.now ≡ statement (tree.for (expr_view c.in-For.target) (expr_view c.in-For.through) (stmts_view c.in-For.body.items)) c.args.stmt.now.line =
    stmt_parts c.args.stmt.now ∙ ap (λ k. statement (stmt_kind_view k) c.args.stmt.now.line) c.in-For.is ∙ ap (λ k. statement k c.args.stmt.now.line) (view_for c.in-For.target c.in-For.through c.in-For.body) in
    let piece : Stmts → Piece = λ body. value at.locals (expr_view c.in-For.through) ⨾ loop op.ForNext c.args.stmt.now.line nothing (put at.locals (expr_view c.in-For.target) ⨾ body_code (in_for at) body) in
    on_ok_weaker c.push_for.result (λ grows. subst (λ s. Emits (statement_code at s) c.args.at.now.again c.args.buffer.now c.push_for.new.buffer) (sym seen)
    (subst (λ xs. Emits (piece (stmts_view xs)) c.args.at.now.again c.args.buffer.now c.push_for.new.buffer) c.as_slice-in-For.ensures.value
    (emits_piece c.args.at.now.again (piece (stmts_view c.as_slice-in-For.result.now)) c.args.buffer.now c.push_for.new.buffer grows))) c.push_for.ensures

pub push_statement-returns-in_default : goal.push_statement-returns-in_default
push_statement-returns-in_default t c =
    let at : Place = standing c.args.names.now c.args.at.now in
    let same : plain_code at c.args.stmt.now.line (stmt_kind_view c.args.stmt.now.kind) ≡ kind_code at c.args.stmt.now.line (stmt_kind_view c.args.stmt.now.kind) =
    plain_is at c.args.stmt.now.line c.args.stmt.now.kind c.in_default.not-Break c.in_default.not-Continue c.in_default.not-If c.in_default.not-While c.in_default.not-For c.in_default.not-Try in
    on_ok_weaker c.push_plain.result (λ grows. subst (λ s. Emits (statement_code at s) c.args.at.now.again c.args.buffer.now c.push_plain.new.buffer) (sym (stmt_parts c.args.stmt.now))
    (subst (λ a. Emits a c.args.at.now.again c.args.buffer.now c.push_plain.new.buffer) same
    (emits_piece c.args.at.now.again (plain_code at c.args.stmt.now.line (stmt_kind_view c.args.stmt.now.kind)) c.args.buffer.now c.push_plain.new.buffer grows))) c.push_plain.ensures

pub push_arms-loop-arm-preserved : goal.push_arms-loop-arm-preserved
push_arms-loop-arm-preserved t c =
    let at : Place = standing c.args.names.now c.args.at.now in
    let i : ℕ = c.loop-arm.arm-index in
    subst (λ ends. (rest : Piece) (done : Emitted) → IsSized rest → Emits (arms_code at c.args.line (arms_view (drop (i + 1) c.args.arms.now)) rest) c.args.at.now.again c.push_arm.new.buffer done → Emits (arms_code at c.args.line (arms_view c.args.arms.now) rest) c.args.at.now.again c.args.buffer.now (landed ends done)) (sym c.in_ok-push.ensures.ok)
    (arms_step at c.args.line c.args.at.now.again c.args.arms.now i c.arm-item.result c.loop-arm.ends c.in_ok-end.end (arms_code at c.args.line (arms_view c.args.arms.now)) c.args.buffer.now c.loop-arm.buffer c.push_arm.new.buffer
    c.loop-arm-test.true c.arm-item.is c.in_ok-end.ensures c.loop-arm.invariant)

pub push_arms-returns : goal.push_arms-returns
push_arms-returns t c =
    let at : Place = standing c.args.names.now c.args.at.now in
    λ rest done s g.
    c.loop-arm.invariant rest done s (subst (λ xs. Emits (arms_code at c.args.line (arms_view xs) rest) c.args.at.now.again c.loop-arm.buffer done) (sym (drop_of_length-le c.args.arms.now c.loop-arm-test.false)) g)

pub push_arm-returns : goal.push_arm-returns
push_arm-returns t c =
    let at : Place = standing c.args.names.now c.args.at.now in
    let test : Piece = value at.locals (arm_view c.args.arm.now).0 in
    let body : Piece = body_code at (arm_view c.args.arm.now).1 in
    let parts : arm_view c.args.arm.now ≡ (expr_view (out-Arm c.args.arm.now).test, stmts_view (out-Arm c.args.arm.now).body.items) = arm_parts c.args.arm.now in
    let tested : Grows test c.args.buffer.now c.push_value.new.buffer = subst (λ x. Grows (value at.locals x) c.args.buffer.now c.push_value.new.buffer) (sym (ap (λ (p : Arm). p.0) parts)) c.in_ok-push_value.ensures in
    let inside : Emits body c.args.at.now.again c.push_open.new.self c.push_body.new.buffer =
    subst (λ x. Emits (body_code at x) c.args.at.now.again c.push_open.new.self c.push_body.new.buffer) (ap stmts_view c.as_slice.ensures.value ∙ sym (ap (λ (p : Arm). p.1) parts)) c.in_ok-push_body.ensures in
    arm_done c.args.line c.args.at.now.again test body c.args.buffer.now c.push_value.new.buffer c.push_open.new.self c.push_body.new.buffer c.push_open-2.new.self c.aim.new.self c.in_ok-jump.jump c.in_ok-end.end c.place-next.result
    (value_sized at.locals (arm_view c.args.arm.now).0) (body_sized at (arm_view c.args.arm.now).1) tested c.in_ok-jump.ensures.at c.in_ok-jump.ensures.pushed inside
    c.in_ok-end.ensures.at c.in_ok-end.ensures.pushed c.place-next.ensures c.aim.ensures

pub push_arm-aim-requires : goal.push_arm-aim-requires
push_arm-aim-requires t c =
    let at : Place = standing c.args.names.now c.args.at.now in
    pushed_there c.in_ok-jump.jump (op.Jump 0) c.args.line c.push_body.new.buffer c.push_open-2.new.self
    (emitted_there (body_code at (stmts_view c.as_slice.result.now)) c.args.at.now.again c.in_ok-jump.jump c.push_open.new.self c.push_body.new.buffer
    (opened_there c.in_ok-jump.jump (op.JumpIfFalse 0) c.args.line c.push_value.new.buffer c.push_open.new.self c.in_ok-jump.ensures.at c.in_ok-jump.ensures.pushed) c.in_ok-push_body.ensures)
    c.in_ok-end.ensures.pushed

pub push_while-returns : goal.push_while-returns
push_while-returns t c =
    let at : Place = standing c.args.names.now c.args.at.now in
    let test : Piece = value at.locals (expr_view c.args.test.now) in
    let body : Piece = body_code (in_while at) (stmts_view c.args.body.now) in
    let inside : Emits body c.place-again.result c.open_loop-outer.new.self c.push_body.new.buffer =
    subst (λ p. Emits (body_code (standing c.args.names.now p) (stmts_view c.args.body.now)) p.again c.open_loop-outer.new.self c.push_body.new.buffer) c.in_while-inner.ensures c.in_ok-push_body.ensures in
    loop_done op.JumpIfFalse c.args.line c.place-again.result test body c.args.buffer.now c.push_value.new.buffer c.push_open.new.self c.open_loop-outer.new.self c.push_body.new.buffer c.push.new.self c.close_loop.new.self c.aim.new.self
    c.in_ok-jump.jump c.place-end.result c.open_loop-outer.result (value_sized at.locals (expr_view c.args.test.now)) (body_sized (in_while at) (stmts_view c.args.body.now))
    c.place-again.ensures c.in_ok-push_value.ensures c.in_ok-jump.ensures.at c.in_ok-jump.ensures.pushed c.open_loop-outer.ensures.outer c.open_loop-outer.ensures.opened inside
    c.in_ok-push.ensures c.close_loop.ensures c.place-end.ensures c.aim.ensures

pub push_for-returns : goal.push_for-returns
push_for-returns t c =
    let at : Place = standing c.args.names.now c.args.at.now in
    let through : Piece = value at.locals (expr_view c.args.through.now) in
    let target : Piece = put at.locals (expr_view c.args.target.now) in
    let body : Piece = body_code (in_for at) (stmts_view c.args.body.now) in
    let fine : IsSized body = body_sized (in_for at) (stmts_view c.args.body.now) in
    let first : Emits target c.in_ok-again.again c.open_loop-outer.new.self c.push_put.new.buffer = emits_piece c.in_ok-again.again target c.open_loop-outer.new.self c.push_put.new.buffer c.in_ok-push_put.ensures in
    let second : Emits body c.in_ok-again.again c.push_put.new.buffer c.push_body.new.buffer =
    subst (λ p. Emits (body_code (standing c.args.names.now p) (stmts_view c.args.body.now)) p.again c.push_put.new.buffer c.push_body.new.buffer) c.in_ok-inner.ensures c.in_ok-push_body.ensures in
    let inside : Emits (target ⨾ body) c.in_ok-again.again c.open_loop-outer.new.self c.push_body.new.buffer =
    emits_then c.in_ok-again.again target body c.open_loop-outer.new.self c.push_put.new.buffer c.push_body.new.buffer (put_sized at.locals (expr_view c.args.target.now)) first second in
    λ labels.
    loop_done op.ForNext c.args.line c.in_ok-again.again nothing (target ⨾ body) c.push_value.new.buffer c.push_value.new.buffer c.push_open.new.self c.open_loop-outer.new.self c.push_body.new.buffer c.push.new.self c.close_loop.new.self c.aim.new.self
    c.in_ok-again.again c.place-end.result c.open_loop-outer.result sized_nothing (sized_then target body (put_sized at.locals (expr_view c.args.target.now)) fine)
    c.in_ok-again.ensures.at (λ ls. piece_nothing ls c.push_value.new.buffer) c.in_ok-again.ensures.at c.in_ok-again.ensures.pushed c.open_loop-outer.ensures.outer c.open_loop-outer.ensures.opened inside
    c.in_ok-push.ensures c.close_loop.ensures c.place-end.ensures c.aim.ensures labels
    ∙ ap (with_piece (loop op.ForNext c.args.line nothing (target ⨾ body)) labels) (c.in_ok-push_value.ensures labels)
    ∙ piece_then through (loop op.ForNext c.args.line nothing (target ⨾ body)) labels c.args.buffer.now (value_sized at.locals (expr_view c.args.through.now))

pub push_handlers-loop-handler-preserved : goal.push_handlers-loop-handler-preserved
push_handlers-loop-handler-preserved t c =
    let at : Place = standing c.args.names.now c.args.at.now in
    let whole : Piece = handlers_code at c.args.line (handlers_view c.args.handlers.now) in
    let i : ℕ = c.loop-handler.handler-index in
    subst (λ ends. (done : Emitted) → Emits (handlers_code at c.args.line (handlers_view (drop (i + 1) c.args.handlers.now))) c.args.at.now.again c.push_handler.new.buffer done → Emits whole c.args.at.now.again c.args.buffer.now (landed ends done)) (sym c.in_ok-push.ensures.ok)
    (handlers_step at c.args.line c.args.at.now.again c.args.handlers.now i c.handler-item.result c.loop-handler.ends c.in_ok-end.end whole c.args.buffer.now c.loop-handler.buffer c.push_handler.new.buffer
    c.loop-handler-test.true c.handler-item.is c.in_ok-end.ensures c.loop-handler.invariant)

pub push_clause-returns : goal.push_clause-returns
push_clause-returns t c =
    let at : Place = standing c.args.names.now c.args.at.now in
    let h : rust_handler.Handler = c.args.handler.now in
    let inside : Emits (body_code at (stmts_view (out-Handler h).body.items)) c.args.at.now.again c.push_caught.new.buffer c.push_body.new.buffer =
    subst (λ xs. Emits (body_code at (stmts_view xs)) c.args.at.now.again c.push_caught.new.buffer c.push_body.new.buffer) c.as_slice.ensures.value c.in_ok-push_body.ensures in
    clause_ends at (handler_view h) (option_map expr_view (out-Handler h).class) (out-Handler h).name (stmts_view (out-Handler h).body.items) (out-Handler h).line c.args.at.now.again
    c.args.buffer.now c.push_caught.new.buffer c.push_body.new.buffer c.push_uncaught.new.buffer c.push_open.new.self c.in_ok-end.end
    (handler_parts h) c.in_ok-push_caught.ensures inside c.in_ok-push_uncaught.ensures c.in_ok-end.ensures.pushed c.in_ok-end.ensures.at

pub push_handler-returns-in-None : goal.push_handler-returns-in-None
push_handler-returns-in-None t c =
    let at : Place = standing c.args.names.now c.args.at.now in
    let h : rust_handler.Handler = c.args.handler.now in
    let none : (handler_view h).0 ≡ None = ap (λ (x : Handler). x.0) (handler_parts h) ∙ ap (option_map expr_view) c.in-None.is in
    IfOk-weaker c.push_clause.result (λ end. EndsOpen (clause_inner at (handler_view h)) (handler_view h).3 c.args.at.now.again c.args.buffer.now c.push_clause.new.buffer end) (λ end. Begins (clause_code at (handler_view h)) c.args.at.now.again c.args.buffer.now c.push_clause.new.buffer end)
    (λ end f. clause_bare at (handler_view h) c.args.at.now.again c.args.buffer.now c.push_clause.new.buffer end none f) c.push_clause.ensures

pub push_handler-returns-in_ok-end-in-Some : goal.push_handler-returns-in_ok-end-in-Some
push_handler-returns-in_ok-end-in-Some t c =
    let at : Place = standing c.args.names.now c.args.at.now in
    let h : rust_handler.Handler = c.args.handler.now in
    let some : (handler_view h).0 ≡ Some (expr_view c.in-Some.class) = ap (λ (x : Handler). x.0) (handler_parts h) ∙ ap (option_map expr_view) c.in-Some.is in
    let own : (handler_view h).3 ≡ (out-Handler h).line = ap (λ (x : Handler). x.3) (handler_parts h) in
    clause_classed at (handler_view h) (expr_view c.in-Some.class) (out-Handler h).line c.args.at.now.again
    c.args.buffer.now c.push_value.new.buffer c.push.new.self c.push_open.new.self c.push_clause-in-Some.new.buffer c.aim.new.self c.in_ok-jump-in-Some.jump c.in_ok-end-in-Some.end c.place-next.result
    some own c.in_ok-push_value-in-Some.ensures c.in_ok-push-in-Some.ensures c.in_ok-jump-in-Some.ensures.at c.in_ok-jump-in-Some.ensures.pushed c.in_ok-end-in-Some.ensures c.place-next.ensures c.aim.ensures

pub push_guarded-returns : goal.push_guarded-returns
push_guarded-returns t c =
    let at : Place = standing c.args.names.now c.args.at.now in
    guard_done (body_code at (stmts_view c.args.body.now)) c.args.at.now.again c.in_ok-number.number c.place-first.result c.place-past.result c.args.buffer.now c.open_range.new.self c.push_body.new.buffer
    c.place-first.ensures c.in_ok-number.ensures.at c.in_ok-number.ensures.pushed c.in_ok-push_body.ensures c.place-past.ensures

pub push_handlers-returns : goal.push_handlers-returns
push_handlers-returns t c =
    let at : Place = standing c.args.names.now c.args.at.now in
    let whole : Piece = handlers_code at c.args.line (handlers_view c.args.handlers.now) in
    let again : ℕ = c.args.at.now.again in
    let popped : Emits (one op.Pop c.args.line) again c.loop-handler.buffer c.push-2.new.self = subst (λ x. Emits (one op.Pop c.args.line) again c.loop-handler.buffer x) (sym c.in_ok-push-2.ensures) (emits_one again op.Pop c.args.line c.loop-handler.buffer) in
    let raised : Emits (one op.Reraise c.args.line) again c.push-2.new.self c.push-3.new.self = subst (λ x. Emits (one op.Reraise c.args.line) again c.push-2.new.self x) (sym c.in_ok-push-3.ensures) (emits_one again op.Reraise c.args.line c.push-2.new.self) in
    let last : Emits (one op.Pop c.args.line ⨾ one op.Reraise c.args.line) again c.loop-handler.buffer c.push-3.new.self =
    emits_then again (one op.Pop c.args.line) (one op.Reraise c.args.line) c.loop-handler.buffer c.push-2.new.self c.push-3.new.self (sized_one op.Pop c.args.line) popped raised in
    subst (λ x. Emits whole again c.args.buffer.now x) (sym (c.land.ensures ∙ ap (λ places. landed places c.push-3.new.self) c.as_slice.ensures))
    (c.loop-handler.invariant c.push-3.new.self
    (subst (λ xs. Emits (handlers_code at c.args.line (handlers_view xs)) again c.loop-handler.buffer c.push-3.new.self) (sym (drop_of_length-le c.args.handlers.now c.loop-handler-test.false)) last))

pub push_statement-returns-in_ok-push_body-in-If : goal.push_statement-returns-in_ok-push_body-in-If
push_statement-returns-in_ok-push_body-in-If t c =
    let at : Place = standing c.args.names.now c.args.at.now in
    let seen : stmt_view c.args.stmt.now ≡ statement (tree.if (arms_view c.in-If.arms.items) (stmts_view c.in-If.otherwise.items)) c.args.stmt.now.line =
    stmt_parts c.args.stmt.now ∙ ap (λ k. statement (stmt_kind_view k) c.args.stmt.now.line) c.in-If.is ∙ ap (λ k. statement k c.args.stmt.now.line) (view_if c.in-If.arms c.in-If.otherwise) in
    let otherwise : Piece = body_code at (stmts_view c.as_slice-in-If.result.now) in
    let piece : List rust_arm.Arm → List rust_stmt.Stmt → Piece = λ as' ss. arms_code at c.args.stmt.now.line (arms_view as') (body_code at (stmts_view ss)) in
    let whole : Emits (piece c.as_slice.result.now c.as_slice-in-If.result.now) c.args.at.now.again c.args.buffer.now (landed c.in_ok-ends-in-If.ends c.push_body.new.buffer) =
    c.in_ok-ends-in-If.ensures otherwise c.push_body.new.buffer (body_sized at (stmts_view c.as_slice-in-If.result.now)) c.in_ok-push_body-in-If.ensures in
    subst (λ s. Emits (statement_code at s) c.args.at.now.again c.args.buffer.now c.land.new.self) (sym seen)
    (subst (λ as'. Emits (piece as' c.in-If.otherwise.items) c.args.at.now.again c.args.buffer.now c.land.new.self) c.as_slice.ensures.value
    (subst (λ ss. Emits (piece c.as_slice.result.now ss) c.args.at.now.again c.args.buffer.now c.land.new.self) c.as_slice-in-If.ensures.value
    (subst (λ x. Emits (piece c.as_slice.result.now c.as_slice-in-If.result.now) c.args.at.now.again c.args.buffer.now x) (sym (c.land.ensures ∙ ap (λ places. landed places c.push_body.new.buffer) c.as_slice-in-If-2.ensures)) whole)))

pub push_statement-returns-in_ok-push_handlers-in-Try : goal.push_statement-returns-in_ok-push_handlers-in-Try
push_statement-returns-in_ok-push_handlers-in-Try t c =
    let at : Place = standing c.args.names.now c.args.at.now in
    let seen : stmt_view c.args.stmt.now ≡ statement (tree.try (stmts_view c.in-Try.body.items) (handlers_view c.in-Try.handlers.items) (stmts_view c.in-Try.otherwise.items)) c.args.stmt.now.line =
    stmt_parts c.args.stmt.now ∙ ap (λ k. statement (stmt_kind_view k) c.args.stmt.now.line) c.in-Try.is ∙ ap (λ k. statement k c.args.stmt.now.line) (view_try c.in-Try.body c.in-Try.handlers c.in-Try.otherwise) in
    let line : ℕ = c.args.stmt.now.line in
    let piece : List rust_stmt.Stmt → List rust_handler.Handler → List rust_stmt.Stmt → Piece = λ ss hs os. guarded at.depth line (body_code at (stmts_view ss)) (body_code at (stmts_view os)) (one op.Caught line ⨾ handlers_code at line (handlers_view hs)) in
    let body : Stmts = stmts_view c.as_slice-in-Try.result.now in
    let otherwise : Stmts = stmts_view c.as_slice-in-Try-2.result.now in
    let clauses : Handlers = handlers_view c.as_slice-in-Try-3.result.now in
    let whole : Emits (piece c.as_slice-in-Try.result.now c.as_slice-in-Try-3.result.now c.as_slice-in-Try-2.result.now) c.args.at.now.again c.args.buffer.now c.land-in-Try.new.self =
    guarded_done c.args.at.now.depth line c.args.at.now.again (body_code at body) (body_code at otherwise) (handlers_code at line clauses) c.args.buffer.now c.push_guarded.new.buffer c.push_body-in-Try.new.buffer c.push_catching.new.buffer c.push_handlers.new.buffer c.land-in-Try.new.self
    c.in_ok-guard-in-Try.guard.number c.in_ok-guard-in-Try.guard.first c.in_ok-guard-in-Try.guard.past c.in_ok-end-in-Try.end (body_sized at body) (body_sized at otherwise) (handlers_sized at line clauses)
    c.in_ok-guard-in-Try.ensures c.in_ok-push_body-in-Try.ensures c.in_ok-end-in-Try.ensures c.in_ok-push_handlers-in-Try.ensures c.land-in-Try.ensures in
    subst (λ s. Emits (statement_code at s) c.args.at.now.again c.args.buffer.now c.land-in-Try.new.self) (sym seen)
    (subst (λ ss. Emits (piece ss c.in-Try.handlers.items c.in-Try.otherwise.items) c.args.at.now.again c.args.buffer.now c.land-in-Try.new.self) c.as_slice-in-Try.ensures.value
    (subst (λ hs. Emits (piece c.as_slice-in-Try.result.now hs c.in-Try.otherwise.items) c.args.at.now.again c.args.buffer.now c.land-in-Try.new.self) c.as_slice-in-Try-3.ensures.value
    (subst (λ os. Emits (piece c.as_slice-in-Try.result.now c.as_slice-in-Try-3.result.now os) c.args.at.now.again c.args.buffer.now c.land-in-Try.new.self) c.as_slice-in-Try-2.ensures.value whole)))

pub push_for-aim-requires : goal.push_for-aim-requires
push_for-aim-requires t c =
    let at : Place = standing c.args.names.now c.in_ok-inner.inner in
    let again : ℕ = c.in_ok-again.again in
    let opened : again < length c.push_open.new.self.instrs = opened_there again (op.ForNext 0) c.args.line c.push_value.new.buffer c.push_open.new.self c.in_ok-again.ensures.at c.in_ok-again.ensures.pushed in
    let begun : again < length c.open_loop-outer.new.self.instrs = subst (λ (x : Emitted). again < length x.instrs) (sym c.open_loop-outer.ensures.opened) opened in
    let put_there : again < length c.push_put.new.buffer.instrs =
    emitted_there (put c.args.names.now (expr_view c.args.target.now)) again again c.open_loop-outer.new.self c.push_put.new.buffer begun
    (emits_piece again (put c.args.names.now (expr_view c.args.target.now)) c.open_loop-outer.new.self c.push_put.new.buffer c.in_ok-push_put.ensures) in
    let inside : again < length c.push_body.new.buffer.instrs = emitted_there (body_code at (stmts_view c.args.body.now)) c.in_ok-inner.inner.again again c.push_put.new.buffer c.push_body.new.buffer put_there c.in_ok-push_body.ensures in
    left_there again c.open_loop-outer.result c.push.new.self c.close_loop.new.self (pushed_there again (op.Jump again) c.args.line c.push_body.new.buffer c.push.new.self inside c.in_ok-push.ensures) c.close_loop.ensures
