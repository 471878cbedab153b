use Rattle.std.proofs.Common.{◌≡◌, ◌⊎◌, inl, inr, sym, subst}
use Rattle.indexmap.specs.IndexSet.{insert_all}
use Rattle.typegraph.proofs.Results.{either, so_ok}
use Rattle.goal_solver.specs.contracts.state.StatePartialEq.TheImpl.{eq-value}
use Rattle.goal_solver.specs.States.{AreStates}
use Rattle.goal_solver.proofs.Sets.{union_at}
use Rattle.goal_solver.proofs.state_set.StateSet.absorb.Goals as goal

pub invariant_of-self : goal.invariant_of-self
invariant_of-self c = go (either _ _ c.append.result c.append.ensures.keys c.append.ensures.err)
  where
    go : (c.append.new.self.keys ≡ insert_all eq-value.it c.self.inside.states.keys c.other.inside.states.keys) ⊎ (c.append.new.self.keys ≡ c.self.inside.states.keys) → AreStates c.append.new.self.keys
    go (inl e) = (union_at c.self.inside.states.keys _ c.other.inside.states.keys _ c.append.new.self.keys c.self.view_is c.other.view_is c.self.invariant c.other.invariant e).1
    go (inr e) = subst (λ ks. AreStates ks) (sym e) c.self.invariant

pub returns-clause-all : goal.returns-clause-all
returns-clause-all c = so_ok _ _ (λ e. (union_at c.self.inside.states.keys _ c.other.inside.states.keys _ c.append.new.self.keys c.self.view_is c.other.view_is c.self.invariant c.other.invariant e).0) c.append.result c.append.ensures.keys
