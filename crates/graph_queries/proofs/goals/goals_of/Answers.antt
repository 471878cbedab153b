use Rattle.std.proofs.Common.{[], subst, ◌∙◌}
use Rattle.typegraph.specs.Maps.{IsJoined}
use Rattle.goal_solver.proofs.Sets.{if_ok_map}
use Rattle.graph_queries.proofs.Given.{all_given}
use Rattle.graph_queries.proofs.goals.goals_of.Goals as goal

pub returns-clause-given : goal.returns-clause-given
returns-clause-given c = λ g h.
    if_ok_map c.from_bindings.result _ _ (λ o j. all_given g c.args.vars.now c.args.shapes.now h o (subst (λ xs. IsJoined [] xs o) (c.as_slice.ensures ∙ c.in_ok-pairs.ensures) j)) c.from_bindings.ensures.joined
