-- A round takes one part.
use Rattle.std.proofs.Common.{◌+◌, ℕ, List, drop, map, sym, ap, ◌∙◌}
use Rattle.py_tree.specs.View.{from_view}
use Rattle.stack_code.specs.declared.op.Op.TheVariants as op
use Rattle.tree_code.specs.Pieces.{one}
use Rattle.tree_code.specs.Names.{store}
use Rattle.tree_code.specs.Statements.{froms, bound_by}
use Rattle.expr_compile.specs.Emitted.{with_piece}
use Rattle.expr_compile.proofs.Pieces.{sized_one, grows_round_of_two}
use Rattle.expr_compile.proofs.Rounds.{left_at}
use Rattle.expr_compile.proofs.simple.push_froms.Goals as goal

pub loop-part-preserved : goal.loop-part-preserved
loop-part-preserved c =
    let locals : List ℕ = c.args.names.now in
    let i : ℕ = c.loop-part.part-index in
    let part = c.part-item.result in
    let split = left_at c.args.parts.now i part c.loop-part-test.true c.part-item.is in
    let path = c.args.path.now in
    grows_round_of_two (one (op.ImportFrom path part.name) c.args.line) (one (store locals (bound_by part.alias part.name)) c.args.line) (froms locals c.args.line path (map from_view (drop (i + 1) c.args.parts.now))) (froms locals c.args.line path (map from_view c.args.parts.now))
    c.args.buffer.now c.loop-part.buffer c.push_from.new.buffer (sized_one (op.ImportFrom path part.name) c.args.line) (sized_one (store locals (bound_by part.alias part.name)) c.args.line)
    (λ labels. ap (λ parts. with_piece (froms locals c.args.line path (map from_view parts)) labels c.loop-part.buffer) (sym split) ∙ c.loop-part.invariant labels) c.in_ok-push_from.ensures
