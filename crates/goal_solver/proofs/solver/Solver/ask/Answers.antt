use Rattle.goal_solver.proofs.Answering.{ask_no}
use Rattle.goal_solver.proofs.solver.Solver.ask.Goals as goal

pub returns-clause-no : goal.returns-clause-no
returns-clause-no g c = ask_no c.args.graph.now c.args.point c.in_ok-copy.field-0 c.args.goals.now c.in_ok-copy.ensures c.args.self.now c.ask_state.new.self c.ask_state.result c.ask_state.ensures.answered
