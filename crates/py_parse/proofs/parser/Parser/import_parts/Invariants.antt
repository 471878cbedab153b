use Rattle.std.proofs.Common.{◌≡◌, ◌≤◌, [], map}
use Rattle.py_descent.specs.Descent.{descent}
use Rattle.py_descent.specs.Goals.{imports}
use Rattle.py_descent.specs.Programs.{room}
use Rattle.py_tree.specs.View.{import_view}
use Rattle.py_parse.proofs.parser.Parser.import_parts.Given as goal

abbrev pub invariant-loop-parts : goal.invariant-loop-parts
invariant-loop-parts l = (descent (imports []) l.initial.self ≡ descent (imports (map import_view l.parts.items)) l.self) × (room l.self ≤ room l.initial.self)

abbrev pub decreases-loop-parts : goal.decreases-loop-parts
decreases-loop-parts l = room l.self
