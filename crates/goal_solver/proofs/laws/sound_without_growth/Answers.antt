-- Variables and contexts are no part of a world, and no fact gives a new shape.
use Rattle.goal_solver.proofs.MoreShapes.{sound_with_shape}
use Rattle.goal_solver.proofs.laws.sound_without_growth.Goals as goal

pub returns-clause-var : goal.returns-clause-var
returns-clause-var c = λ s g h. record { yes = h.yes; no = h.no; no_backs = h.no_backs; light_backs = h.light_backs; light_few = h.light_few }

pub returns-clause-context : goal.returns-clause-context
returns-clause-context c = λ s g context h. record { yes = h.yes; no = h.no; no_backs = h.no_backs; light_backs = h.light_backs; light_few = h.light_few }

pub returns-clause-shape : goal.returns-clause-shape
returns-clause-shape c = λ s g truth valid h. sound_with_shape g truth valid s h
