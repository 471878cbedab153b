use Rattle.std.proofs.Common.{◌≡◌, ◌∙◌, Some, [], slice_get, arith, ap, sym, subst}
use Rattle.graph_walks.proofs.Lists.{got, stands, Stands}
use Rattle.goal_solver.specs.States.{state_of, IsMet}
use Rattle.goal_solver.specs.Searches.{IsExtended}
use Rattle.goal_solver.proofs.Meetings.{at_within, met_here, extended_as, extended_on, left_more}
use Rattle.goal_solver.proofs.search.Search.leave_list.Goals as goal

pub loop-place-preserved : goal.loop-place-preserved
loop-place-preserved c =
    let at : slice_get c.args.self.now.noted c.loop-place.place ≡ Some c.get.result.now = ap (λ ys. slice_get ys c.loop-place.place) (sym c.loop-place.invariant.noted) ∙ c.get.ensures in
    let same : c.in_ok-state.state ≡ c.get.result.now = c.in_ok-state.ensures in
    let ext : IsExtended [] (λ x. IsMet c.args.self.now.noted x) c.loop-place.self c.enter.new.self =
    extended_as [] (λ x. x ≡ c.in_ok-state.state) (λ x. IsMet c.args.self.now.noted x) c.loop-place.self c.enter.new.self
    (λ x e. met_here c.args.self.now.noted c.get.result.now x (got c.args.self.now.noted c.loop-place.place c.get.result.now at) (ap state_of (sym (e ∙ same))))
    c.in_ok-enter.ensures.extended in
    record {
      extended = extended_on [] (λ x. IsMet c.args.self.now.noted x) _ _ _ c.loop-place.invariant.extended ext;
      met = left_more c.args.self.now.noted c.loop-place.place c.get.result.now c.loop-place.self c.enter.new.self at ext c.loop-place.invariant.met (subst (λ x. IsMet c.enter.new.self.states x) same c.in_ok-enter.ensures.met);
      noted = c.in_ok-enter.ensures.noted ∙ c.loop-place.invariant.noted;
      even = ext.even c.loop-place.invariant.even;
    }

pub returns-clause-met : goal.returns-clause-met
returns-clause-met c = λ x d. let s : Stands c.args.self.now.noted x = stands c.args.self.now.noted x d in c.loop-place.invariant.met s.place x (omega (arith, at_within c.args.self.now.noted s.place x s.at)) s.at
