use Rattle.std.proofs.Common.{◌≡◌, ◌≤◌, false, [], map}
use Rattle.py_descent.specs.Descent.{descent}
use Rattle.py_descent.specs.Goals.{params}
use Rattle.py_descent.specs.Programs.{room}
use Rattle.py_tree.specs.View.{param_view}
use Rattle.py_parse.proofs.parser.Parser.params.Given as goal

abbrev pub invariant-loop-self : goal.invariant-loop-self
invariant-loop-self l = (descent (params false []) l.initial.self ≡ descent (params l.late (map param_view l.params.items)) l.self) × (room l.self ≤ room l.initial.self)

abbrev pub decreases-loop-self : goal.decreases-loop-self
decreases-loop-self l = room l.self
