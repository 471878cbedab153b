use Rattle.std.proofs.Common.{◌∙◌, arith}
use Rattle.py_tree.specs.View.{member_view, members_view}
use Rattle.py_parse.proofs.Pushes.{members_push}
use Rattle.py_parse.proofs.Steps.{next_entries}
use Rattle.py_parse.proofs.parser.Parser.entries.Goals as goal

pub loop-self-preserved : goal.loop-self-preserved
loop-self-preserved c = (
  c.loop-self.invariant.0 ∙ grind (arith, members_push, next_entries (members_view c.loop-self.members.items) c.loop-self.self (member_view c.in_ok-member.member) c.entry.new.self (grind arith) c.in_ok-member.ensures.gives c.in_ok-member.ensures.shrinks),
  omega (arith, c.loop-self.invariant.1, c.in_ok-member.ensures.shrinks),
)
