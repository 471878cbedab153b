use Rattle.std.proofs.Common.{◌≡◌, ◌≤◌, [], map}
use Rattle.py_descent.specs.Descent.{descent}
use Rattle.py_descent.specs.Goals.{froms}
use Rattle.py_descent.specs.Programs.{room}
use Rattle.py_tree.specs.View.{from_view}
use Rattle.py_parse.proofs.parser.Parser.from_names.Given as goal

abbrev pub invariant-loop-parts : goal.invariant-loop-parts
invariant-loop-parts l = (descent (froms l.grouped []) l.initial.self ≡ descent (froms l.grouped (map from_view l.parts.items)) l.self) × (room l.self ≤ room l.initial.self)

abbrev pub decreases-loop-parts : goal.decreases-loop-parts
decreases-loop-parts l = room l.self
