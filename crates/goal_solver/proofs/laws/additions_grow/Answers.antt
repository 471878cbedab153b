-- What was there stands at its place, and keeps its target.
use Rattle.goal_solver.specs.Graphs.{world_of}
use Rattle.goal_solver.proofs.Additions.{within_itself, within_shape, within_edge, within_fact, within_point}
use Rattle.goal_solver.proofs.laws.additions_grow.Goals as goal

pub returns-clause-var : goal.returns-clause-var
returns-clause-var c = λ g. within_itself (world_of g)

pub returns-clause-context : goal.returns-clause-context
returns-clause-context c = λ g context. within_itself (world_of g)

pub returns-clause-point : goal.returns-clause-point
returns-clause-point c = λ g target root flow valid. within_point g target root flow valid

pub returns-clause-edge : goal.returns-clause-edge
returns-clause-edge c = λ g edge. within_edge g edge

pub returns-clause-shape : goal.returns-clause-shape
returns-clause-shape c = λ g truth. within_shape g truth

pub returns-clause-fact : goal.returns-clause-fact
returns-clause-fact c = λ g point fact. within_fact g point fact
