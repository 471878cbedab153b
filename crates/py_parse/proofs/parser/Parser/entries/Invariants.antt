use Rattle.std.proofs.Common.{◌≡◌, ◌≤◌}
use Rattle.py_descent.specs.Descent.{descent}
use Rattle.py_descent.specs.Goals.{entries}
use Rattle.py_descent.specs.Programs.{room}
use Rattle.py_tree.specs.View.{members_view}
use Rattle.py_parse.proofs.parser.Parser.entries.Given as goal

abbrev pub invariant-loop-self : goal.invariant-loop-self
invariant-loop-self l = (descent (entries (members_view l.initial.members.items)) l.initial.self ≡ descent (entries (members_view l.members.items)) l.self) × (room l.self ≤ room l.initial.self)

abbrev pub decreases-loop-self : goal.decreases-loop-self
decreases-loop-self l = room l.self
