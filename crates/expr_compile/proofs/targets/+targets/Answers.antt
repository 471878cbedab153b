-- The pieces are put one after another.
use Rattle.std.proofs.Common.{◌+◌, ◌-◌, OnOk, ℕ, List, drop, sym, ap, subst, ◌∙◌}
use Rattle.py_tree.specs.View.{expr_view, exprs_view}
use Rattle.stack_code.specs.declared.op.Op.TheVariants as op
use Rattle.tree_code.specs.Pieces.{Piece, one, ◌⨾◌}
use Rattle.tree_code.specs.Expressions.{value, parts, count, put, puts}
use Rattle.expr_compile.specs.Emitted.{with_piece}
use Rattle.expr_compile.specs.Growth.{Grows}
use Rattle.expr_compile.proofs.Pieces.{grows_one, grows_then, grows_round}
use Rattle.expr_compile.proofs.Rounds.{left_at}
use Rattle.expr_compile.proofs.Sizes.{sized_put, sized_puts, sized_parts, count_view}
use Rattle.expr_compile.proofs.Apart.{put_apart}
use Rattle.expr_compile.proofs.targets.+targets.Goals as goal

pub push_unpack-returns : goal.push_unpack-returns
push_unpack-returns t c =
    let locals : List ℕ = c.args.names.now in
    grows_then (parts c.args.line (count (exprs_view c.args.targets.now)) (count (exprs_view c.args.targets.now))) ((puts locals (exprs_view c.args.targets.now)) ⨾ (one op.Pop c.args.line)) c.args.buffer.now c.push_parts.new.buffer c.push.new.self (sized_parts c.args.line (count (exprs_view c.args.targets.now)) (count (exprs_view c.args.targets.now))) (subst (λ n. Grows (parts c.args.line n n) c.args.buffer.now c.push_parts.new.buffer) (c.in_ok-parts.ensures ∙ sym (count_view c.args.targets.now)) c.in_ok-push_parts.ensures)
    (grows_then (puts locals (exprs_view c.args.targets.now)) ((one op.Pop c.args.line)) c.push_parts.new.buffer c.push_puts.new.buffer c.push.new.self (sized_puts locals (exprs_view c.args.targets.now)) c.in_ok-push_puts.ensures
    (grows_one op.Pop c.args.line c.push_puts.new.buffer c.push.new.self c.in_ok-push.ensures))

pub push_puts-loop-target-preserved : goal.push_puts-loop-target-preserved
push_puts-loop-target-preserved t c =
    let locals : List ℕ = c.args.names.now in
    let i : ℕ = c.loop-target.target-index in
    let split = left_at c.args.targets.now i c.target-item.result c.loop-target-test.true c.target-item.is in
    grows_round (put locals (expr_view c.target-item.result)) (puts locals (exprs_view (drop (i + 1) c.args.targets.now))) (puts locals (exprs_view c.args.targets.now)) c.args.buffer.now c.loop-target.buffer c.push_put.new.buffer (sized_put locals (expr_view c.target-item.result))
    (λ labels. ap (λ xs. with_piece (puts locals (exprs_view xs)) labels c.loop-target.buffer) (sym split) ∙ c.loop-target.invariant labels) c.in_ok-push_put.ensures

pub push_put-returns-in-Tuple : goal.push_put-returns-in-Tuple
push_put-returns-in-Tuple t c =
    let locals : List ℕ = c.args.names.now in
    let e = c.args.target.now in
    let done : Piece → Type 0 = λ a. OnOk c.push_unpack.result (Grows a c.args.buffer.now c.push_unpack.new.buffer) in
    subst done (sym (put_apart locals e c.in-Tuple.targets c.in-Tuple.is))
    (subst (λ xs. done (parts e.line (count (exprs_view xs)) (count (exprs_view xs)) ⨾ puts locals (exprs_view xs) ⨾ one op.Pop e.line)) c.as_slice.ensures.value c.push_unpack.ensures)
