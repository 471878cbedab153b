use Rattle.std.proofs.Common.{◌≡◌, drop, map}
use Rattle.py_tree.specs.View.{param_view}
use Rattle.tree_code.specs.Pieces.{Labels}
use Rattle.tree_code.specs.Programs.{params_code}
use Rattle.expr_compile.specs.Emitted.{with_piece}
use Rattle.block_compile.proofs.functions.push_params.Given as goal

abbrev pub invariant-loop-number : goal.invariant-loop-number
invariant-loop-number l = (labels : Labels) → with_piece (params_code l.line l.number (map param_view (drop l.number l.params))) labels l.buffer ≡ with_piece (params_code l.line 0 (map param_view l.params)) labels l.initial.buffer
