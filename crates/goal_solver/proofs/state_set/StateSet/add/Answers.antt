use Rattle.goal_solver.proofs.Sets.{added_at}
use Rattle.goal_solver.proofs.state_set.StateSet.add.Goals as goal

pub invariant_of-self-2 : goal.invariant_of-self-2
invariant_of-self-2 c = (added_at c.self.inside.states.keys _ c.insert.new.self.keys c.args.state c.in_ok-insert.field-0 c.self.view_is c.self.invariant c.items-goals.ensures.rising c.in_ok-insert.ensures.added c.in_ok-insert.ensures.keys).1

pub returns : goal.returns
returns c = (added_at c.self.inside.states.keys _ c.insert.new.self.keys c.args.state c.in_ok-insert.field-0 c.self.view_is c.self.invariant c.items-goals.ensures.rising c.in_ok-insert.ensures.added c.in_ok-insert.ensures.keys).0
