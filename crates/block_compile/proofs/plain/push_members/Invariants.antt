use Rattle.std.proofs.Common.{◌≡◌, drop}
use Rattle.py_tree.specs.View.{members_view}
use Rattle.tree_code.specs.Pieces.{Labels}
use Rattle.tree_code.specs.Statements.{member_values}
use Rattle.expr_compile.specs.Emitted.{with_piece}
use Rattle.block_compile.proofs.plain.push_members.Given as goal

abbrev pub invariant-loop-member : goal.invariant-loop-member
invariant-loop-member l = (labels : Labels) → with_piece (member_values l.class (members_view (drop l.member-index l.members))) labels l.buffer ≡ with_piece (member_values l.class (members_view l.members)) labels l.initial.buffer
