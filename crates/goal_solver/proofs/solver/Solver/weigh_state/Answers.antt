use Rattle.std.proofs.Common.{refl}
use Rattle.typegraph.specs.Maps.{look}
use Rattle.goal_solver.proofs.Answering.{known_weighed}
use Rattle.goal_solver.proofs.solver.Solver.weigh_state.Goals as goal

pub returns-then-is_light-clause-weighed : goal.returns-then-is_light-clause-weighed
returns-then-is_light-clause-weighed g c = known_weighed c.args.graph.now c.args.self.now c.requires c.args.query.point (look c.args.query.goals) (c.if-is_light.ensures.known.0 refl) (c.if-is_light.ensures.right c.args.graph.now c.requires refl)
