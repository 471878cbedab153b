use Rattle.std.proofs.Common.{Ok, ap}
use Rattle.goal_solver.proofs.Answering.{sets_at, weighed_light}
use Rattle.goal_solver.proofs.solver.Solver.weigh_anew.Goals as goal

pub seek-requires-clause-yes : goal.seek-requires-clause-yes
seek-requires-clause-yes g c = (sets_at c.args.graph.now c.self.inside.budget c.self.inside.yes c.self.inside.no c.self.inside.light c.args.self.now c.self.view_is c.requires).yes

pub seek-requires-clause-light : goal.seek-requires-clause-light
seek-requires-clause-light g c = (sets_at c.args.graph.now c.self.inside.budget c.self.inside.yes c.self.inside.no c.self.inside.light c.args.self.now c.self.view_is c.requires).light_closed

pub seek-requires-clause-few : goal.seek-requires-clause-few
seek-requires-clause-few g c = (sets_at c.args.graph.now c.self.inside.budget c.self.inside.yes c.self.inside.no c.self.inside.light c.args.self.now c.self.view_is c.requires).light_few

pub returns-clause-weighed : goal.returns-clause-weighed
returns-clause-weighed g c = weighed_light c.args.graph.now c.self.inside.budget c.self.inside.yes c.self.inside.no c.self.inside.light c.args.self.now c.self.view_is c.requires c.args.query c.take_whole.new.list (c.in_ok-take_whole-in-Whole.ensures.whole c.args.graph.now c.args.query c.self.inside.budget (c.in_ok-seek.ensures.whole c.in-Whole.states c.in-Whole.with_list (ap (λ f. Ok f) c.in-Whole.is)))
