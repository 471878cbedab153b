-- A closed world has the edges of its contexts.
use Rattle.world_rules.proofs.Extending.{fall_there, jump_there}
use Rattle.world_rules.proofs.Counted.{depth_behind, goals_are}
use Rattle.world_rules.proofs.laws.instructions_have_their_edges.Goals as goal

pub returns-clause-fall : goal.returns-clause-fall
returns-clause-fall c = λ s items closed. fall_there s items closed

pub returns-clause-jump : goal.returns-clause-jump
returns-clause-jump c = λ s items closed. jump_there s items closed

pub returns-clause-depth : goal.returns-clause-depth
returns-clause-depth c = depth_behind

pub returns-clause-goals : goal.returns-clause-goals
returns-clause-goals c = goals_are
