use Rattle.std.proofs.Common.{◌≡◌, drop}
use Rattle.py_tree.specs.View.{exprs_view}
use Rattle.tree_code.specs.Pieces.{Labels}
use Rattle.tree_code.specs.Expressions.{puts}
use Rattle.expr_compile.specs.Emitted.{with_piece}
use Rattle.expr_compile.proofs.targets.+targets.Given as goal

abbrev pub invariant-push_puts-loop-target : goal.invariant-push_puts-loop-target
invariant-push_puts-loop-target l = (labels : Labels) → with_piece (puts l.names (exprs_view (drop l.target-index l.targets))) labels l.buffer ≡ with_piece (puts l.names (exprs_view l.targets)) labels l.initial.buffer
