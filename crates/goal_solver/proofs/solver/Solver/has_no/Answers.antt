use Rattle.goal_solver.proofs.Answering.{no_by}
use Rattle.goal_solver.proofs.solver.Solver.has_no.Goals as goal

pub returns : goal.returns
returns c = no_by c.self.inside.budget c.self.inside.yes c.self.inside.no c.self.inside.light c.args.self.now c.self.view_is c.args.query.now c.has.result c.has.ensures
