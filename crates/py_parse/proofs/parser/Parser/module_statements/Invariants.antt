use Rattle.std.proofs.Common.{◌≡◌, ◌≤◌, true}
use Rattle.py_descent.specs.Descent.{descent}
use Rattle.py_descent.specs.Goals.{statements}
use Rattle.py_descent.specs.Programs.{room}
use Rattle.py_tree.specs.View.{stmts_view}
use Rattle.py_parse.proofs.parser.Parser.module_statements.Given as goal

abbrev pub invariant-loop-self : goal.invariant-loop-self
invariant-loop-self l = (descent (statements true (stmts_view l.initial.body.items)) l.initial.self ≡ descent (statements true (stmts_view l.body.items)) l.self) × (room l.self ≤ room l.initial.self)

abbrev pub decreases-loop-self : goal.decreases-loop-self
decreases-loop-self l = room l.self
