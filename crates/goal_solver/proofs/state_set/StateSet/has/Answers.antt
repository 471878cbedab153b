use Rattle.std.proofs.Common.{◌↔◌, IsTrue, refl, subst}
use Rattle.typegraph.specs.Maps.{IsRising}
use Rattle.goal_solver.specs.States.{IsMet}
use Rattle.goal_solver.proofs.Sets.{has_met}
use Rattle.goal_solver.proofs.state_set.StateSet.has.Goals as goal

pub returns : goal.returns
returns c = subst (λ ys. IsTrue c.contains.result ↔ IsMet ys c.args.state.now) c.self.view_is (has_met c.self.inside.states.keys c.args.state.now c.contains.result c.self.invariant (subst (λ m. IsRising m) refl c.items-goals.ensures.rising) c.contains.ensures)
