use Rattle.std.proofs.Common.{◌≡◌, ◌≤◌}
use Rattle.py_descent.specs.Descent.{descent}
use Rattle.py_descent.specs.Goals.{strings}
use Rattle.py_descent.specs.Programs.{room}
use Rattle.py_parse.proofs.parser.Parser.strings.Given as goal

abbrev pub invariant-loop-part : goal.invariant-loop-part
invariant-loop-part l = (descent (strings l.initial.empty) l.initial.self ≡ descent (strings l.empty) l.self) × (room l.self ≤ room l.initial.self)

abbrev pub decreases-loop-part : goal.decreases-loop-part
decreases-loop-part l = room l.self
