use Rattle.std.proofs.Common.{◌≡◌, drop, map}
use Rattle.py_tree.specs.View.{from_view}
use Rattle.tree_code.specs.Pieces.{Labels}
use Rattle.tree_code.specs.Expressions.{parts}
use Rattle.tree_code.specs.Statements.{froms}
use Rattle.expr_compile.specs.Emitted.{with_piece}
use Rattle.expr_compile.proofs.simple.push_froms.Given as goal

abbrev pub invariant-loop-part : goal.invariant-loop-part
invariant-loop-part l = (labels : Labels) → with_piece (froms l.names l.line l.path (map from_view (drop l.part-index l.parts))) labels l.buffer ≡ with_piece (froms l.names l.line l.path (map from_view l.parts)) labels l.initial.buffer
