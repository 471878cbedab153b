use Rattle.typegraph.specs.Maps.{look}
use Rattle.goal_solver.proofs.Answering.{known_answered}
use Rattle.goal_solver.proofs.solver.Solver.ask_state.Goals as goal

pub returns-in-Some-clause-answered : goal.returns-in-Some-clause-answered
returns-in-Some-clause-answered g c = known_answered c.args.graph.now c.args.self.now c.requires c.args.query.point (look c.args.query.goals) c.in-Some.answer c.in-Some.ensures
