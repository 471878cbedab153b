-- A round imports one module.
use Rattle.std.proofs.Common.{◌+◌, ℕ, List, drop, map, sym, ap, ◌∙◌}
use Rattle.py_tree.specs.View.{import_view}
use Rattle.stack_code.specs.declared.op.Op.TheVariants as op
use Rattle.tree_code.specs.Pieces.{one}
use Rattle.tree_code.specs.Names.{store}
use Rattle.tree_code.specs.Statements.{imports, first_of, bound_by}
use Rattle.expr_compile.specs.Emitted.{with_piece}
use Rattle.expr_compile.proofs.Pieces.{sized_one, grows_round_of_two}
use Rattle.expr_compile.proofs.Rounds.{left_at}
use Rattle.expr_compile.proofs.simple.push_imports.Goals as goal

pub loop-part-preserved : goal.loop-part-preserved
loop-part-preserved c =
    let locals : List ℕ = c.args.names.now in
    let i : ℕ = c.loop-part.part-index in
    let part = c.part-item.result in
    let split = left_at c.args.parts.now i part c.loop-part-test.true c.part-item.is in
    let goes = store locals (bound_by part.alias (first_of part.path.items)) in
    grows_round_of_two (one (op.Import part.path.items) c.args.line) (one goes c.args.line) (imports locals c.args.line (map import_view (drop (i + 1) c.args.parts.now))) (imports locals c.args.line (map import_view c.args.parts.now))
    c.args.buffer.now c.loop-part.buffer c.push_import.new.buffer (sized_one (op.Import part.path.items) c.args.line) (sized_one goes c.args.line)
    (λ labels. ap (λ parts. with_piece (imports locals c.args.line (map import_view parts)) labels c.loop-part.buffer) (sym split) ∙ c.loop-part.invariant labels) c.in_ok-push_import.ensures
