use Rattle.py_tree.specs.View.{members_view}
use Rattle.tree_code.specs.Statements.{member_values}
use Rattle.expr_compile.specs.Emitted.{with_piece}
use Rattle.block_compile.proofs.Bodies.{members_step}
use Rattle.block_compile.proofs.plain.push_members.Goals as goal

pub loop-member-preserved : goal.loop-member-preserved
loop-member-preserved c =
    λ labels.
    members_step c.args.class c.args.members.now c.loop-member.member-index c.member-item.result (with_piece (member_values c.args.class (members_view c.args.members.now)) labels c.args.buffer.now) c.args.buffer.now c.loop-member.buffer c.push_member.new.buffer labels
    c.loop-member-test.true c.member-item.is c.in_ok-push_member.ensures (c.loop-member.invariant labels)
