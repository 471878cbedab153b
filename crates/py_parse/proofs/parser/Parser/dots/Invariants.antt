use Rattle.std.proofs.Common.{◌≡◌, ◌≤◌}
use Rattle.py_descent.specs.Descent.{descent}
use Rattle.py_descent.specs.Goals.{dots}
use Rattle.py_descent.specs.Programs.{room}
use Rattle.py_parse.proofs.parser.Parser.dots.Given as goal

abbrev pub invariant-loop-self : goal.invariant-loop-self
invariant-loop-self l = (descent (dots l.initial.path.items) l.initial.self ≡ descent (dots l.path.items) l.self) × (room l.self ≤ room l.initial.self)

abbrev pub decreases-loop-self : goal.decreases-loop-self
decreases-loop-self l = room l.self
