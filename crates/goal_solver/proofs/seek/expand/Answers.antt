use Rattle.std.proofs.Common.{◌≡◌, ◌∙◌, subst}
use Rattle.goal_solver.specs.Searches.{AreBacksKnown}
use Rattle.goal_solver.proofs.Meetings.{one_at}
use Rattle.goal_solver.proofs.seek.expand.Goals as goal

pub returns-clause-met : goal.returns-clause-met
returns-clause-met g c = λ r x at.
    let same : c.in_ok-state.state ≡ x = c.in_ok-state.ensures ∙ one_at c.args.search.now.states c.args.place c.get.result.now x c.get.ensures at in
    subst (λ z. AreBacksKnown c.args.graph.now z c.meet_backs.new.search) same (c.meet_backs.ensures.met r)
