use Rattle.std.proofs.Common.{◌≡◌}
use Rattle.tree_code.specs.Pieces.{Labels}
use Rattle.tree_code.specs.Expressions.{parts}
use Rattle.expr_compile.specs.Emitted.{with_piece}
use Rattle.expr_compile.proofs.targets.push_parts.Given as goal

abbrev pub invariant-loop-part : goal.invariant-loop-part
invariant-loop-part l = (labels : Labels) → with_piece (parts l.line l.parts l.part) labels l.buffer ≡ with_piece (parts l.line l.parts l.parts) labels l.initial.buffer

abbrev pub decreases-loop-part : goal.decreases-loop-part
decreases-loop-part l = l.part
