use Rattle.goal_solver.proofs.Answering.{light_by, light_right}
use Rattle.goal_solver.proofs.solver.Solver.has_light.Goals as goal

pub returns-clause-known : goal.returns-clause-known
returns-clause-known c = light_by c.self.inside.budget c.self.inside.yes c.self.inside.no c.self.inside.light c.args.self.now c.self.view_is c.args.query.now c.has.result c.has.ensures

pub returns-clause-right : goal.returns-clause-right
returns-clause-right c = light_right c.self.inside.budget c.self.inside.yes c.self.inside.no c.self.inside.light c.args.self.now c.self.view_is c.args.query.now c.has.result c.has.ensures
