-- The pieces are put one after another.
use Rattle.std.proofs.Common.{◌≡◌, ◌∷◌, [], ◌++◌, ◌+◌, ◌-◌, ℕ, List, drop, sym, ap, ◌∙◌}
use Rattle.std.proofs.Math.ListN.{drop_of_length-le}
use Rattle.py_tree.specs.View.{expr_view, exprs_view}
use Rattle.stack_code.specs.declared.op.Op.TheVariants as op
use Rattle.tree_code.specs.Pieces.{Labels, one, ◌⨾◌}
use Rattle.tree_code.specs.Expressions.{put}
use Rattle.tree_code.specs.Statements.{put_all}
use Rattle.expr_compile.specs.Emitted.{with_piece}
use Rattle.expr_compile.proofs.Pieces.{sized_one, grows_one, grows_round}
use Rattle.expr_compile.proofs.Rounds.{left_at, put_all_more}
use Rattle.expr_compile.proofs.Sizes.{sized_put}
use Rattle.expr_compile.proofs.simple.push_copies.Goals as goal

pub loop-target-preserved : goal.loop-target-preserved
loop-target-preserved c =
    let locals : List ℕ = c.args.names.now in
    let i : ℕ = c.loop-target.target-index in
    let split = left_at c.args.others.now i c.target-item.result c.loop-target-test.true c.target-item.is in
    let rest = put_all locals c.args.line (exprs_view (drop (i + 1) c.args.others.now ++ c.args.last.now ∷ [])) in
    let whole = put_all locals c.args.line (exprs_view (c.args.others.now ++ c.args.last.now ∷ [])) in
    let target = put locals (expr_view c.target-item.result) in
    let so_far : (labels : Labels) → with_piece (one (op.Pick 0) c.args.line ⨾ target ⨾ rest) labels c.loop-target.buffer ≡ with_piece whole labels c.args.buffer.now = λ labels.
    ap (λ a. with_piece a labels c.loop-target.buffer) (sym (put_all_more locals c.args.line c.target-item.result (drop (i + 1) c.args.others.now) c.args.last.now))
    ∙ ap (λ xs. with_piece (put_all locals c.args.line (exprs_view (xs ++ c.args.last.now ∷ []))) labels c.loop-target.buffer) (sym split) ∙ c.loop-target.invariant labels in
    grows_round target rest whole c.args.buffer.now c.push.new.self c.push_put.new.buffer (sized_put locals (expr_view c.target-item.result))
    (grows_round (one (op.Pick 0) c.args.line) (target ⨾ rest) whole c.args.buffer.now c.loop-target.buffer c.push.new.self (sized_one (op.Pick 0) c.args.line) so_far (grows_one (op.Pick 0) c.args.line c.loop-target.buffer c.push.new.self c.in_ok-push.ensures))
    c.in_ok-push_put.ensures

pub returns : goal.returns
returns c =
    let locals : List ℕ = c.args.names.now in
    let last = c.args.last.now in
    λ labels.
    c.in_ok-push_put-2.ensures labels
    ∙ ap (λ xs. with_piece (put_all locals c.args.line (exprs_view (xs ++ last ∷ []))) labels c.loop-target.buffer) (sym (drop_of_length-le c.args.others.now c.loop-target-test.false))
    ∙ c.loop-target.invariant labels
