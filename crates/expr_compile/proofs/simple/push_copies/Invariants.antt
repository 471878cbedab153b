use Rattle.std.proofs.Common.{◌≡◌, ◌∷◌, [], ◌++◌, drop}
use Rattle.py_tree.specs.View.{exprs_view}
use Rattle.tree_code.specs.Pieces.{Labels}
use Rattle.tree_code.specs.Statements.{put_all}
use Rattle.expr_compile.specs.Emitted.{with_piece}
use Rattle.expr_compile.proofs.simple.push_copies.Given as goal

abbrev pub invariant-loop-target : goal.invariant-loop-target
invariant-loop-target l = (labels : Labels) → with_piece (put_all l.names l.line (exprs_view (drop l.target-index l.others ++ l.last ∷ []))) labels l.buffer ≡ with_piece (put_all l.names l.line (exprs_view (l.others ++ l.last ∷ []))) labels l.initial.buffer
