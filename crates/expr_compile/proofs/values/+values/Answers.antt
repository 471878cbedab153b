-- Each function puts its pieces one after another.
use Rattle.std.proofs.Common.{◌≡◌, OnOk, ℕ, ◌+◌, Option, List, drop, sym, ap, subst, ◌∙◌}
use Rattle.py_tree.specs.Tree.{Expr, Exprs, Pairs}
use Rattle.py_tree.specs.View.{Pair, expr_view, exprs_view, arg_view, args_view, bound_view, pairs_view}
use Rattle.stack_code.specs.declared.op.Op.{Op}
use Rattle.stack_code.specs.declared.op.Op.TheVariants as op
use Rattle.tree_code.specs.Pieces.{one, ◌⨾◌, over, fork}
use Rattle.tree_code.specs.Expressions.{value, values, bound_value, arguments, pairs, count, pair_count, positionals, keywords}
use Rattle.expr_compile.specs.Emitted.{with_piece, with_instr, with_aim}
use Rattle.expr_compile.specs.Growth.{Grows, keeping}
use Rattle.expr_compile.proofs.Pieces.{grows_then, grows_last, grows_over, grows_fork, grows_round, opened_within, pushed_within, grown_within, aimed_within}
use Rattle.expr_compile.proofs.Rounds.{left_at}
use Rattle.py_tree.proofs.ExpressionViews.{view_arg, view_pair, view_tuple, view_list, view_dict}
use Rattle.expr_compile.proofs.Sizes.{sized_value, sized_values, sized_bound, sized_arguments, sized_pairs}
use Rattle.expr_compile.proofs.values.+values.Goals as goal

pub push_value-returns-in_ok-op-in-Tuple : goal.push_value-returns-in_ok-op-in-Tuple
push_value-returns-in_ok-op-in-Tuple t c =
    let locals : List ℕ = c.args.names.now in
    let e = c.args.expr.now in
    let parts = c.in-Tuple.parts.items in
    let done : Expr → Type 0 = λ x. OnOk c.push_series.result (Grows (value locals x) c.args.buffer.now c.push_series.new.buffer) in
    let put = λ (shown : Exprs) (o : Op). OnOk c.push_series.result (Grows (values locals shown ⨾ one o e.line) c.args.buffer.now c.push_series.new.buffer) in
    let op_is : c.in_ok-op-in-Tuple.op ≡ op.NewTuple (count (exprs_view parts)) e.site = c.in_ok-op-in-Tuple.ensures ∙ ap (λ xs. op.NewTuple (count (exprs_view xs)) e.site) c.as_slice-in-Tuple.ensures.value in
    subst done (sym (view_tuple e c.in-Tuple.parts c.in-Tuple.is))
    (subst (λ xs. put (exprs_view xs) (op.NewTuple (count (exprs_view parts)) e.site)) c.as_slice-in-Tuple-2.ensures.value
    (subst (λ o. put (exprs_view c.as_slice-in-Tuple-2.result.now) o) op_is c.push_series.ensures))

pub push_value-returns-in_ok-op-in-List : goal.push_value-returns-in_ok-op-in-List
push_value-returns-in_ok-op-in-List t c =
    let locals : List ℕ = c.args.names.now in
    let e = c.args.expr.now in
    let parts = c.in-List.parts.items in
    let done : Expr → Type 0 = λ x. OnOk c.push_series-in-List.result (Grows (value locals x) c.args.buffer.now c.push_series-in-List.new.buffer) in
    let put = λ (shown : Exprs) (o : Op). OnOk c.push_series-in-List.result (Grows (values locals shown ⨾ one o e.line) c.args.buffer.now c.push_series-in-List.new.buffer) in
    let op_is : c.in_ok-op-in-List.op ≡ op.NewList (count (exprs_view parts)) e.site = c.in_ok-op-in-List.ensures ∙ ap (λ xs. op.NewList (count (exprs_view xs)) e.site) c.as_slice-in-List.ensures.value in
    subst done (sym (view_list e c.in-List.parts c.in-List.is))
    (subst (λ xs. put (exprs_view xs) (op.NewList (count (exprs_view parts)) e.site)) c.as_slice-in-List-2.ensures.value
    (subst (λ o. put (exprs_view c.as_slice-in-List-2.result.now) o) op_is c.push_series-in-List.ensures))

pub push_value-returns-in_ok-op-in-Dict : goal.push_value-returns-in_ok-op-in-Dict
push_value-returns-in_ok-op-in-Dict t c =
    let locals : List ℕ = c.args.names.now in
    let e = c.args.expr.now in
    let parts = c.in-Dict.pairs.items in
    let done : Expr → Type 0 = λ x. OnOk c.push_dict.result (Grows (value locals x) c.args.buffer.now c.push_dict.new.buffer) in
    let put = λ (shown : Pairs) (o : Op). OnOk c.push_dict.result (Grows (pairs locals shown ⨾ one o e.line) c.args.buffer.now c.push_dict.new.buffer) in
    let op_is : c.in_ok-op-in-Dict.op ≡ op.NewDict (pair_count (pairs_view parts)) e.site = c.in_ok-op-in-Dict.ensures ∙ ap (λ xs. op.NewDict (pair_count (pairs_view xs)) e.site) c.as_slice-in-Dict.ensures.value in
    subst done (sym (view_dict e c.in-Dict.pairs c.in-Dict.is))
    (subst (λ xs. put (pairs_view xs) (op.NewDict (pair_count (pairs_view parts)) e.site)) c.as_slice-in-Dict-2.ensures.value
    (subst (λ o. put (pairs_view c.as_slice-in-Dict-2.result.now) o) op_is c.push_dict.ensures))

pub push_one-returns : goal.push_one-returns
push_one-returns t c =
    let locals : List ℕ = c.args.names.now in
    grows_last (value locals (expr_view c.args.operand.now)) c.args.op c.args.line c.args.buffer.now c.push_value.new.buffer c.push.new.self (sized_value locals (expr_view c.args.operand.now)) c.in_ok-push_value.ensures c.in_ok-push.ensures

pub push_two-returns : goal.push_two-returns
push_two-returns t c =
    let locals : List ℕ = c.args.names.now in
    grows_then (value locals (expr_view c.args.left.now)) ((value locals (expr_view c.args.right.now)) ⨾ one c.args.op c.args.line) c.args.buffer.now c.push_value.new.buffer c.push.new.self (sized_value locals (expr_view c.args.left.now)) c.in_ok-push_value.ensures
    (grows_last (value locals (expr_view c.args.right.now)) c.args.op c.args.line c.push_value.new.buffer c.push_value-2.new.buffer c.push.new.self (sized_value locals (expr_view c.args.right.now)) c.in_ok-push_value-2.ensures c.in_ok-push.ensures)

pub push_short-returns : goal.push_short-returns
push_short-returns t c =
    let locals : List ℕ = c.args.names.now in
    grows_then (value locals (expr_view c.args.left.now)) (over (keeping c.args.both) c.args.line (value locals (expr_view c.args.right.now))) c.args.buffer.now c.push_value.new.buffer c.aim.new.self (sized_value locals (expr_view c.args.left.now)) c.in_ok-push_value.ensures
    (grows_over (keeping c.args.both) c.args.line (value locals (expr_view c.args.right.now)) c.push_value.new.buffer c.push_open.new.self c.push_value-2.new.buffer c.aim.new.self c.in_ok-jump.jump c.place-end.result (sized_value locals (expr_view c.args.right.now)) c.in_ok-jump.ensures.at
    (c.in_ok-jump.ensures.pushed ∙ ap (λ o. with_instr o c.args.line c.push_value.new.buffer) c.keeping_jump.ensures) c.in_ok-push_value-2.ensures c.place-end.ensures
    (c.aim.ensures ∙ ap (λ o. with_aim c.in_ok-jump.jump o c.args.line c.push_value-2.new.buffer) c.keeping_jump-2.ensures))

pub push_short-aim-requires : goal.push_short-aim-requires
push_short-aim-requires t c =
    let locals : List ℕ = c.args.names.now in
    grown_within c.in_ok-jump.jump (value locals (expr_view c.args.right.now)) c.push_open.new.self c.push_value-2.new.buffer (opened_within c.in_ok-jump.jump c.args.line c.keeping_jump.result c.push_value.new.buffer c.push_open.new.self c.in_ok-jump.ensures.at c.in_ok-jump.ensures.pushed) c.in_ok-push_value-2.ensures

pub push_choice-returns : goal.push_choice-returns
push_choice-returns t c =
    let locals : List ℕ = c.args.names.now in
    grows_then (value locals (expr_view c.args.test.now)) (fork c.args.line (value locals (expr_view c.args.then.now)) (value locals (expr_view c.args.other.now))) c.args.buffer.now c.push_value.new.buffer c.aim-2.new.self (sized_value locals (expr_view c.args.test.now)) c.in_ok-push_value.ensures
    (grows_fork c.args.line (value locals (expr_view c.args.then.now)) (value locals (expr_view c.args.other.now)) c.push_value.new.buffer c.push_open.new.self c.push_value-2.new.buffer c.push_open-2.new.self c.aim.new.self c.push_value-3.new.buffer c.aim-2.new.self
    c.in_ok-jump.jump c.place-middle.result c.in_ok-leave.leave c.place-end.result (sized_value locals (expr_view c.args.then.now)) (sized_value locals (expr_view c.args.other.now))
    c.in_ok-jump.ensures.at c.in_ok-jump.ensures.pushed c.in_ok-push_value-2.ensures c.in_ok-leave.ensures.at c.in_ok-leave.ensures.pushed c.place-middle.ensures c.aim.ensures c.in_ok-push_value-3.ensures c.place-end.ensures c.aim-2.ensures)

pub push_choice-aim-requires : goal.push_choice-aim-requires
push_choice-aim-requires t c =
    let locals : List ℕ = c.args.names.now in
    pushed_within c.in_ok-jump.jump c.args.line (op.Jump 0) c.push_value-2.new.buffer c.push_open-2.new.self
    (grown_within c.in_ok-jump.jump (value locals (expr_view c.args.then.now)) c.push_open.new.self c.push_value-2.new.buffer (opened_within c.in_ok-jump.jump c.args.line (op.JumpIfFalse 0) c.push_value.new.buffer c.push_open.new.self c.in_ok-jump.ensures.at c.in_ok-jump.ensures.pushed) c.in_ok-push_value-2.ensures) c.in_ok-leave.ensures.pushed

pub push_choice-aim-requires-2 : goal.push_choice-aim-requires-2
push_choice-aim-requires-2 t c =
    let locals : List ℕ = c.args.names.now in
    grown_within c.in_ok-leave.leave (value locals (expr_view c.args.other.now)) c.aim.new.self c.push_value-3.new.buffer
    (aimed_within c.in_ok-leave.leave c.in_ok-jump.jump c.args.line (op.JumpIfFalse c.place-middle.result) c.push_open-2.new.self c.aim.new.self (opened_within c.in_ok-leave.leave c.args.line (op.Jump 0) c.push_value-2.new.buffer c.push_open-2.new.self c.in_ok-leave.ensures.at c.in_ok-leave.ensures.pushed) c.aim.ensures) c.in_ok-push_value-3.ensures

pub push_slice-returns : goal.push_slice-returns
push_slice-returns t c =
    let locals : List ℕ = c.args.names.now in
    grows_then (value locals (expr_view c.args.sliced.now)) ((bound_value locals c.args.line (bound_view c.args.from.now)) ⨾ (bound_value locals c.args.line (bound_view c.args.to.now)) ⨾ (bound_value locals c.args.line (bound_view c.args.step.now)) ⨾ one (op.Slice c.args.site) c.args.line) c.args.buffer.now c.push_value.new.buffer c.push.new.self (sized_value locals (expr_view c.args.sliced.now)) c.in_ok-push_value.ensures
    (grows_then (bound_value locals c.args.line (bound_view c.args.from.now)) ((bound_value locals c.args.line (bound_view c.args.to.now)) ⨾ (bound_value locals c.args.line (bound_view c.args.step.now)) ⨾ one (op.Slice c.args.site) c.args.line) c.push_value.new.buffer c.push_bound.new.buffer c.push.new.self (sized_bound locals c.args.line (bound_view c.args.from.now)) c.in_ok-push_bound.ensures
    (grows_then (bound_value locals c.args.line (bound_view c.args.to.now)) ((bound_value locals c.args.line (bound_view c.args.step.now)) ⨾ one (op.Slice c.args.site) c.args.line) c.push_bound.new.buffer c.push_bound-2.new.buffer c.push.new.self (sized_bound locals c.args.line (bound_view c.args.to.now)) c.in_ok-push_bound-2.ensures
    (grows_last (bound_value locals c.args.line (bound_view c.args.step.now)) (op.Slice c.args.site) c.args.line c.push_bound-2.new.buffer c.push_bound-3.new.buffer c.push.new.self (sized_bound locals c.args.line (bound_view c.args.step.now)) c.in_ok-push_bound-3.ensures c.in_ok-push.ensures)))

pub push_bound-returns-in-Some : goal.push_bound-returns-in-Some
push_bound-returns-in-Some t c =
    let locals : List ℕ = c.args.names.now in
    subst (λ b. OnOk c.push_value.result (Grows (bound_value locals c.args.line (bound_view b)) c.args.buffer.now c.push_value.new.buffer)) (sym c.in-Some.is)
    (subst (λ x. OnOk c.push_value.result (Grows (value locals (expr_view x)) c.args.buffer.now c.push_value.new.buffer)) c.deref.ensures c.push_value.ensures)

pub push_call-returns : goal.push_call-returns
push_call-returns t c =
    let locals : List ℕ = c.args.names.now in
    grows_then (value locals (expr_view c.args.fun.now)) ((arguments locals (args_view c.args.args.now)) ⨾ one (op.Call (positionals (args_view c.args.args.now)) (keywords (args_view c.args.args.now)) c.args.site) c.args.line) c.args.buffer.now c.push_value.new.buffer c.push.new.self (sized_value locals (expr_view c.args.fun.now)) c.in_ok-push_value.ensures
    (grows_last (arguments locals (args_view c.args.args.now)) (op.Call (positionals (args_view c.args.args.now)) (keywords (args_view c.args.args.now)) c.args.site) c.args.line c.push_value.new.buffer c.push_arguments.new.buffer c.push.new.self (sized_arguments locals (args_view c.args.args.now)) c.in_ok-push_arguments.ensures (c.in_ok-push.ensures ∙ ap (λ o. with_instr o c.args.line c.push_arguments.new.buffer) c.in_ok-op.ensures))

pub push_series-returns : goal.push_series-returns
push_series-returns t c =
    let locals : List ℕ = c.args.names.now in
    grows_last (values locals (exprs_view c.args.exprs.now)) c.args.op c.args.line c.args.buffer.now c.push_values.new.buffer c.push.new.self (sized_values locals (exprs_view c.args.exprs.now)) c.in_ok-push_values.ensures c.in_ok-push.ensures

pub push_dict-returns : goal.push_dict-returns
push_dict-returns t c =
    let locals : List ℕ = c.args.names.now in
    grows_last (pairs locals (pairs_view c.args.pairs.now)) c.args.op c.args.line c.args.buffer.now c.push_pairs.new.buffer c.push.new.self (sized_pairs locals (pairs_view c.args.pairs.now)) c.in_ok-push_pairs.ensures c.in_ok-push.ensures

pub push_values-loop-expr-preserved : goal.push_values-loop-expr-preserved
push_values-loop-expr-preserved t c =
    let locals : List ℕ = c.args.names.now in
    let i : ℕ = c.loop-expr.expr-index in
    let split = left_at c.args.exprs.now i c.expr-item.result c.loop-expr-test.true c.expr-item.is in
    grows_round (value locals (expr_view c.expr-item.result)) (values locals (exprs_view (drop (i + 1) c.args.exprs.now))) (values locals (exprs_view c.args.exprs.now)) c.args.buffer.now c.loop-expr.buffer c.push_value.new.buffer (sized_value locals (expr_view c.expr-item.result))
    (λ labels. ap (λ xs. with_piece (values locals (exprs_view xs)) labels c.loop-expr.buffer) (sym split) ∙ c.loop-expr.invariant labels) c.in_ok-push_value.ensures

pub push_arguments-loop-arg-preserved : goal.push_arguments-loop-arg-preserved
push_arguments-loop-arg-preserved t c =
    let locals : List ℕ = c.args.names.now in
    let i : ℕ = c.loop-arg.arg-index in
    let split = left_at c.args.args.now i c.arg-item.result c.loop-arg-test.true c.arg-item.is in
    let same : (arg_view c.arg-item.result).1 ≡ expr_view c.arg-item.result.value = ap (λ (p : Option ℕ × Expr). p.1) (view_arg c.arg-item.result) in
    grows_round (value locals (expr_view c.arg-item.result.value)) (arguments locals (args_view (drop (i + 1) c.args.args.now))) (arguments locals (args_view c.args.args.now)) c.args.buffer.now c.loop-arg.buffer c.push_value.new.buffer (sized_value locals (expr_view c.arg-item.result.value))
    (λ labels. ap (λ x. with_piece (value locals x ⨾ arguments locals (args_view (drop (i + 1) c.args.args.now))) labels c.loop-arg.buffer) (sym same) ∙ ap (λ xs. with_piece (arguments locals (args_view xs)) labels c.loop-arg.buffer) (sym split) ∙ c.loop-arg.invariant labels) c.in_ok-push_value.ensures

pub push_pairs-loop-pair-preserved : goal.push_pairs-loop-pair-preserved
push_pairs-loop-pair-preserved t c =
    let locals : List ℕ = c.args.names.now in
    let i : ℕ = c.loop-pair.pair-index in
    let split = left_at c.args.pairs.now i c.pair-item.result c.loop-pair-test.true c.pair-item.is in
    let key = c.pair-item.result.key in
    let item = c.pair-item.result.value in
    let rest = pairs locals (pairs_view (drop (i + 1) c.args.pairs.now)) in
    let whole = pairs locals (pairs_view c.args.pairs.now) in
    grows_round (value locals (expr_view item)) rest whole c.args.buffer.now c.push_value.new.buffer c.push_value-in-loop-pair.new.buffer (sized_value locals (expr_view item))
    (grows_round (value locals (expr_view key)) (value locals (expr_view item) ⨾ rest) whole c.args.buffer.now c.loop-pair.buffer c.push_value.new.buffer (sized_value locals (expr_view key))
    (λ labels. ap (λ (p : Pair). with_piece (value locals p.0 ⨾ value locals p.1 ⨾ rest) labels c.loop-pair.buffer) (sym (view_pair c.pair-item.result)) ∙ ap (λ xs. with_piece (pairs locals (pairs_view xs)) labels c.loop-pair.buffer) (sym split) ∙ c.loop-pair.invariant labels) c.in_ok-push_value.ensures)
    c.in_ok-push_value-2.ensures
