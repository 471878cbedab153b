use Rattle.std.proofs.Common.{◌≡◌, ◌≤◌}
use Rattle.py_descent.specs.Descent.{descent}
use Rattle.py_descent.specs.Goals.{line}
use Rattle.py_descent.specs.Programs.{room}
use Rattle.py_tree.specs.View.{stmts_view}
use Rattle.py_parse.proofs.parser.Parser.simple_line.Given as goal

abbrev pub invariant-loop-stmt : goal.invariant-loop-stmt
invariant-loop-stmt l = (descent (line (stmts_view l.initial.body.items)) l.initial.self ≡ descent (line (stmts_view l.body.items)) l.self) × (room l.self ≤ room l.initial.self)

abbrev pub decreases-loop-stmt : goal.decreases-loop-stmt
decreases-loop-stmt l = room l.self
