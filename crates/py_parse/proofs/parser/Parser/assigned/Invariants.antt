use Rattle.std.proofs.Common.{◌≡◌, ◌≤◌}
use Rattle.py_descent.specs.Descent.{descent}
use Rattle.py_descent.specs.Goals.{assigned}
use Rattle.py_descent.specs.Programs.{room}
use Rattle.py_tree.specs.View.{exprs_view}
use Rattle.py_parse.proofs.parser.Parser.assigned.Given as goal

abbrev pub invariant-loop-targets : goal.invariant-loop-targets
invariant-loop-targets l = (descent (assigned (exprs_view l.initial.targets.items)) l.initial.self ≡ descent (assigned (exprs_view l.targets.items)) l.self) × (room l.self ≤ room l.initial.self)

abbrev pub decreases-loop-targets : goal.decreases-loop-targets
decreases-loop-targets l = room l.self
