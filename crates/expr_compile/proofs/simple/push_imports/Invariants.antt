use Rattle.std.proofs.Common.{◌≡◌, drop, map}
use Rattle.py_tree.specs.View.{import_view}
use Rattle.tree_code.specs.Pieces.{Labels}
use Rattle.tree_code.specs.Expressions.{parts}
use Rattle.tree_code.specs.Statements.{imports}
use Rattle.expr_compile.specs.Emitted.{with_piece}
use Rattle.expr_compile.proofs.simple.push_imports.Given as goal

abbrev pub invariant-loop-part : goal.invariant-loop-part
invariant-loop-part l = (labels : Labels) → with_piece (imports l.names l.line (map import_view (drop l.part-index l.parts))) labels l.buffer ≡ with_piece (imports l.names l.line (map import_view l.parts)) labels l.initial.buffer
