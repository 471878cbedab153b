use Rattle.std.proofs.Common.{◌≡◌, ◌≤◌, true}
use Rattle.py_descent.specs.Bodies.{some_targets}
use Rattle.py_descent.specs.Descent.{descent}
use Rattle.py_descent.specs.Goals.{more_targets}
use Rattle.py_descent.specs.Programs.{room}
use Rattle.py_tree.specs.View.{exprs_view}
use Rattle.py_parse.proofs.parser.Parser.more_targets.Given as goal

abbrev pub invariant-loop-self : goal.invariant-loop-self
invariant-loop-self l = (descent (more_targets (exprs_view l.initial.items.items)) l.initial.self ≡ descent (more_targets (exprs_view l.items.items)) l.self) × (some_targets (exprs_view l.items.items) ≡ true) × (room l.self ≤ room l.initial.self)

abbrev pub decreases-loop-self : goal.decreases-loop-self
decreases-loop-self l = room l.self
