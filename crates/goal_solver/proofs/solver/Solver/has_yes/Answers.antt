use Rattle.goal_solver.proofs.Answering.{yes_by}
use Rattle.goal_solver.proofs.solver.Solver.has_yes.Goals as goal

pub returns : goal.returns
returns c = yes_by c.self.inside.budget c.self.inside.yes c.self.inside.no c.self.inside.light c.args.self.now c.self.view_is c.args.query.now c.has.result c.has.ensures
